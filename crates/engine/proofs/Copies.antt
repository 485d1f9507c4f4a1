-- A scheme copied, as a piece of a run.
use Rattle.std.proofs.Common.{◌≡◌, ℕ, Bool, true, false, eqb, ◌⊎◌, [], ◌∷◌, sym, refl, ap, ◌∙◌, subst, inl, inr, arith, eq-eqb, ne_eqb, eqb-true}
use mathlib.Core.Option.{Option, some, none}
use borrow.Author.Tests.{eqb-false}
use Rattle.ground.specs.Values.{Ty, Value, of_type, of_field, of_row}
use Rattle.ground.specs.Sorts.{Of}
use Rattle.ground.specs.Classes.{Allowed}
use Rattle.ground.specs.Heads.{Builds, gives, none_lacked, first_sort, second_sort}
use Rattle.ground.specs.declared.place.Place.{Place}
use Rattle.ground.specs.declared.sort.Sort.{Sort}
use Rattle.ground.specs.declared.sort.Sort.TheVariants.{«Type» as OfType}
use Rattle.ground.specs.declared.sort.Labels.{Labels}
use Rattle.ground.specs.declared.classes.Classes.{Classes}
use Rattle.ground.specs.declared.head.Head.{Head}
use Rattle.ground.proofs.Built.{builds_swap, no_way}
use Rattle.system.specs.Meaning.{Kind, Valuation, Meaning, Sound, Agree}
use Rattle.system.specs.Requests.{Request, build, Reply}
use Rattle.system.specs.Follows.{Follows}
use Rattle.system.proofs.Takes.{fit_build}
use Rattle.engine.specs.Trees.{Tree, any, stay, leaf, over, pair, Has, Scope}
use Rattle.engine.specs.Calls.{Calls, ask, Given, got, variable, copy}
use Rattle.engine.specs.Runs.{Outcome}
use Rattle.engine.proofs.Steps.{Ends, ends_map, Old, Run, Res, went, ended}
use Rattle.engine.proofs.Asks.{ask_build}
use Rattle.engine.specs.Scopes.{Grown}
use Rattle.engine.proofs.FewChildren.{first_none, builds_leaf, builds_over}
use Rattle.engine.proofs.TreeValues.{Even, has_even, grown_later}
use Rattle.engine.proofs.Demanded.{ask_variable}

pub type_held : (x : Value) → Of OfType x → (t : Ty) × (x ≡ of_type t)
type_held (of_type t) o = (t, refl)
type_held (of_field f) o = absurd o
type_held (of_row r) o = absurd o

-- The valuation a gives the variables what v gives the codes that they have got.
abbrev Fill : Given → Valuation → Valuation → Type 0
Fill G v a = (g c : ℕ) → got G g ≡ some c → v c ≡ a g

-- The codes that variables have got are of the sorts and in the classes of their variables.
abbrev Filled : (ℕ → Sort) → (ℕ → Classes) → Meaning → Given → Type 0
Filled σ κ n G = (g c : ℕ) → got G g ≡ some c → (n.state.sort_of c ≡ some (σ g)) × ((v : Valuation) → n.state.solves v → Allowed (κ g) (v c))

filled_later : (σ : ℕ → Sort) (κ : ℕ → Classes) (m n : Meaning) (G : Given) → Old m n → ((v : Valuation) → n.state.solves v → m.state.solves v) → Filled σ κ m G → Filled σ κ n G
filled_later σ κ m n G old down f g c e = let z = f g c e in (old c (σ g) z.0, λ v s. z.1 v (down v s))

fill_moved : (σ : ℕ → Sort) (κ : ℕ → Classes) (n : Meaning) (G : Given) (v w a : Valuation) → Filled σ κ n G → Agree n.state v w → Fill G v a → Fill G w a
fill_moved σ κ n G v w a f ag h g c e = sym (ag c (σ g, (f g c e).0)) ∙ h g c e

-- What is known stays as it is.
grown_agree : (K : Kind) (σ : ℕ → Sort) (κ : ℕ → Classes) (m : Meaning) (E : Scope) (a v w : Valuation) (t : Tree) (p : Sort) → Grown K σ κ m E t p → Agree m.state v w → Even a a v w t
grown_agree K σ κ m E a v w (any g o k) p h ag = refl
grown_agree K σ κ m E a v w (stay c) p h ag = ag c (p, h.0)
grown_agree K σ κ m E a v w (leaf d s) p h ag = tt
grown_agree K σ κ m E a v w (over d t) p h ag = grown_agree K σ κ m E a v w t (first_sort d) h.4 ag
grown_agree K σ κ m E a v w (pair d i s t u) p h ag =
    (grown_agree K σ κ m E a v w t (first_sort d) h.3 ag, grown_agree K σ κ m E a v w u (second_sort d s) h.4 ag)

record CopyStep (σ : ℕ → Sort) (κ : ℕ → Classes) (m n : Meaning) (t : Tree) (G F : Given) (c : ℕ) (p : Sort) : Type 0 where
  old : Old m n
  known : n.state.sort_of c ≡ some p
  more : (g d : ℕ) → got G g ≡ some d → got F g ≡ some d
  filled : Filled σ κ n F
  down : (v : Valuation) → n.state.solves v → m.state.solves v × ((a : Valuation) → Fill F v a → Has a v t (v c))
  up : (v a : Valuation) (x : Value) → m.state.solves v → Has a v t x → Fill G v a → (w : Valuation) × Agree m.state v w × n.state.solves w × (w c ≡ x) × Fill F w a

record CopyClaim (m : Meaning) (t : Tree) (G : Given) : Type 0 where
  val : Valuation
  vars : Valuation
  ans : Value
  solved : m.state.solves val
  has : Has vars val t ans
  fill : Fill G val vars

some_inj : {o p : ℕ} → ◌≡◌ {A = Option ℕ} (some o) (some p) → o ≡ p
some_inj e = cc

none_some : {o : ℕ} → ◌≡◌ {A = Option ℕ} none (some o) → ⊥
none_some e = let z : ◌≡◌ {A = ℕ} 0 1 = cc in omega arith

-- What variables have got, when one more has.
got_here : (G : Given) (g c : ℕ) → got ((g, c) ∷ G) g ≡ some c
got_here G g c = rw (eq-eqb g g refl)

got_there : (G : Given) (g c d : ℕ) → (g ≡ d → ⊥) → got ((g, c) ∷ G) d ≡ got G d
got_there G g c d n = rw (ne_eqb g d n)

got_split : (G : Given) (g c d e : ℕ) → got ((g, c) ∷ G) d ≡ some e → ((g ≡ d) × (c ≡ e)) ⊎ (got G d ≡ some e)
got_split G g c d e h = go (eqb g d) refl
  where
    go : (b : Bool) → eqb g d ≡ b → ((g ≡ d) × (c ≡ e)) ⊎ (got G d ≡ some e)
    go true q = let z = eqb-true g d q in inl (z, some_inj (sym (got_here G g c) ∙ ap (got ((g, c) ∷ G)) z ∙ h))
    go false q = inr (sym (got_there G g c d (eqb-false g d q)) ∙ h)

module _ {S : Type 0} (K : Kind) (meaning : S → Meaning) (asked : S → Request → Reply → S → Type 0) (rank : S → ℕ → ℕ)
    (follows : (s t : S) (q : Request) (r : Reply) → asked s q r t → Follows K (meaning s) q r (meaning t))
    (sound : (s : S) → Sound K (meaning s)) where
  module _ (σ : ℕ → Sort) (κ : ℕ → Classes) (E : Scope) where
    data CopyRes (s : S) (t : Tree) (q : Sort) (G : Given) (k : ℕ → Given → Calls) (o : Outcome) (u : S) : Type 0 where
      copied : (n : S) (c : ℕ) (F : Given) → CopyStep σ κ (meaning s) (meaning n) t G F c q → Run meaning asked rank n (k c F) o u → CopyRes s t q G k o u
      uncopied : Ends (CopyClaim (meaning s) t G) o → CopyRes s t q G k o u

    copy_any : {s u : S} {out : Outcome} (pl : Place) (g : ℕ) (o : Sort) (x : Classes) (q : Sort) (G : Given) (k : ℕ → Given → Calls) (b : Option ℕ) → got G g ≡ b
        → Grown K σ κ (meaning s) E (any g o x) q → Filled σ κ (meaning s) G → Run meaning asked rank s (variable b pl g o x G k) out u → CopyRes s (any g o x) q G k out u
    copy_any {s} pl g o x q G k (some c) e gr fl run =
        let z = fl g c e in
        copied s c G
        (record {
          old = λ d p y. y;
          known = z.0 ∙ ap some (gr.1 ∙ gr.0);
          more = λ h d y. y;
          filled = fl;
          down = λ v sv. (sv, λ a f. (f g c e, (sound s).sorted v sv c o (z.0 ∙ ap some gr.1), subst (λ (y : Classes). Allowed y (v c)) gr.2 (z.1 v sv)));
          up = λ v a y sv h f. (v, λ d p. refl, sv, f g c e ∙ sym h.0, f);
        })
        run
    copy_any {s} {u} {out} pl g o x q G k none e gr fl run = go (ask_variable K meaning asked rank follows sound o x gr.3 gr.4 run)
      where
        go : Res meaning asked rank s Value (λ v y. Of o y × Allowed x y) (λ c. (c, o) ∷ []) (λ y. y ∷ []) (λ c. k c ((g, c) ∷ G)) out u → CopyRes s (any g o x) q G k out u
        go (went t c st r) =
            let down1 : (v : Valuation) → (meaning t).state.solves v → Of o (v c) × Allowed x (v c) =
            λ v sv. let d = (st.down v sv).1 in (subst (Of o) (sym d.1.0) d.2.0, subst (Allowed x) (sym d.1.0) d.2.1) in
            copied t c ((g, c) ∷ G)
            (record {
              old = st.old;
              known = st.known.0 ∙ ap some gr.0;
              more = λ h d y. got_there G g c h (λ z. none_some (sym e ∙ ap (got G) z ∙ y)) ∙ y;
              filled = λ h d y. elim (got_split G g c h d y) [
                | inl z ↦ (
                  subst (λ (i : ℕ). (meaning t).state.sort_of i ≡ some (σ h)) z.1 (st.known.0 ∙ ap some (sym gr.1 ∙ ap σ z.0)),
                  λ v sv. subst (λ (i : ℕ). Allowed (κ h) (v i)) z.1 (subst (λ (i : Classes). Allowed i (v c)) (sym gr.2 ∙ ap κ z.0) (down1 v sv).1),
                )
                | inr z ↦ filled_later σ κ (meaning s) (meaning t) G st.old (λ v sv. (st.down v sv).0) fl h d z
              ];
              down = λ v sv. ((st.down v sv).0, λ a f. (f g c (got_here G g c), (down1 v sv).0, (down1 v sv).1));
              up = λ v a y sv h f.
                  let r = st.up v y sv (h.1, h.2) in
                  let w = r.0 in (
                    w,
                    r.1,
                    r.2,
                    r.3.0,
                    λ i d z. elim (got_split G g c i d z) [
                      | inl p ↦ ap w (sym p.1) ∙ r.3.0 ∙ h.0 ∙ ap a p.0
                      | inr p ↦ fill_moved σ κ (meaning s) G v w a fl r.1 f i d p
                    ],
                  );
            })
            r
        go (ended d) = uncopied (ends_map (λ h. record { val = h.val; ans = h.ans; solved = h.solved; ok = (h.has.1, h.has.2) }) d)

    abbrev Copier : Tree → Type 0
    Copier t = (s u : S) (pl : Place) (out : Outcome) (q : Sort) (G : Given) (k : ℕ → Given → Calls)
        → Grown K σ κ (meaning s) E t q → Filled σ κ (meaning s) G → Run meaning asked rank s (copy pl t G k) out u → CopyRes s t q G k out u

    copy_leaf : (h : Head) (m : Labels) → Copier (leaf h m)
    copy_leaf h m s u pl out q G k gr fl run =
        go (ask_build K meaning asked rank follows sound
        (fit_build K (meaning s) h 0 0 0 m gr.2 gr.3 (λ f. absurd (no_way (sym gr.1 ∙ f))) (λ f. absurd (no_way (sym (first_none h gr.1) ∙ f)))) run)
      where
        go : Res meaning asked rank s Value (λ v z. Builds h 0 (v 0) (v 0) z) (λ c. (c, gives h m 0) ∷ []) (λ z. z ∷ []) (λ c. k c G) out u → CopyRes s (leaf h m) q G k out u
        go (went t c st r) =
            copied t c G
            (record {
              old = st.old;
              known = st.known.0 ∙ ap some gr.0;
              more = λ i d y. y;
              filled = filled_later σ κ (meaning s) (meaning t) G st.old (λ v sv. (st.down v sv).0) fl;
              down = λ v sv.
                  let d = st.down v sv in
                  (d.0, λ a f. builds_leaf h 0 0 (v 0) (v 0) (v c) (v c) (v c) gr.1 (subst (Builds h 0 (v 0) (v 0)) (sym d.1.1.0) d.1.2));
              up = λ v a y sv hs f.
                  let w = st.up v y sv (builds_leaf h 0 0 y y (v 0) (v 0) y gr.1 hs) in
                  (w.0, w.1, w.2, w.3.0, fill_moved σ κ (meaning s) G v w.0 a fl w.1 f);
            })
            r
        go (ended e) = uncopied (ends_map (λ c. record { val = c.val; ans = c.ans; solved = c.solved; ok = builds_leaf h 0 0 c.ans c.ans (c.val 0) (c.val 0) c.ans gr.1 c.has }) e)

    copy_over : (h : Head) (t : Tree) → Copier t → Copier (over h t)
    copy_over h t ct s u pl out q G k gr fl run = go (ct s u pl out (first_sort h) G (λ x n. ask pl (build h x 0 0 none_lacked) (λ c. k c n)) gr.4 fl run)
      where
        end : (n : S) (x : ℕ) (F : Given) → CopyStep σ κ (meaning s) (meaning n) t G F x (first_sort h)
            → Res meaning asked rank n Value (λ v z. Builds h 0 (v x) (v 0) z) (λ c. (c, gives h none_lacked 0) ∷ []) (λ z. z ∷ []) (λ c. k c F) out u → CopyRes s (over h t) q G k out u
        end n x F st (went t' c e r) =
            copied t' c F
            (record {
              old = λ d o y. e.old d o (st.old d o y);
              known = e.known.0 ∙ ap some gr.0;
              more = st.more;
              filled = filled_later σ κ (meaning n) (meaning t') F e.old (λ v sv. (e.down v sv).0) st.filled;
              down = λ v sv.
                  let d = e.down v sv in
                  let g = st.down v d.0 in
                  (g.0, λ a f. (v x, g.1 a f, builds_over h 0 0 (v x) (v 0) (v x) (v c) gr.1 (subst (Builds h 0 (v x) (v 0)) (sym d.1.1.0) d.1.2)));
              up = λ v a y sv hs f.
                  let w = st.up v a hs.0 sv hs.1 f in
                  let b = builds_swap h 0 hs.0 hs.0 (w.0 x) (w.0 0) y (λ g. sym w.3) (λ g. absurd (no_way (sym gr.1 ∙ g))) hs.2 in
                  let z = e.up w.0 y w.2 b in
                  (z.0, λ d o. w.1 d o ∙ z.1 d (o.0, st.old d o.0 o.1), z.2, z.3.0, fill_moved σ κ (meaning n) F w.0 z.0 a st.filled z.1 w.4);
            })
            r
        end n x F st (ended e) =
            uncopied (ends_map (λ c.
            let hs = c.has in
            let w = st.up c.val c.vars hs.0 c.solved hs.1 c.fill in
            record { val = w.0; ans = c.ans; solved = w.2; ok = builds_swap h 0 hs.0 hs.0 (w.0 x) (w.0 0) c.ans (λ g. sym w.3) (λ g. absurd (no_way (sym gr.1 ∙ g))) hs.2 }) e)

        go : CopyRes s t (first_sort h) G (λ x n. ask pl (build h x 0 0 none_lacked) (λ c. k c n)) out u → CopyRes s (over h t) q G k out u
        go (copied n x F st r) =
            end n x F st (ask_build K meaning asked rank follows sound (fit_build K (meaning n) h x 0 0 none_lacked gr.2 gr.3 (λ f. st.known) (λ f. absurd (no_way (sym gr.1 ∙ f)))) r)
        go (uncopied e) = uncopied (ends_map (λ c. record { val = c.val; vars = c.vars; ans = c.has.0; solved = c.solved; has = c.has.1; fill = c.fill }) e)

    copy_pair : (h : Head) (l : ℕ) (m : Labels) (t b : Tree) → Copier t → Copier b → Copier (pair h l m t b)
    copy_pair h l m t b ct cb s u pl out q G k gr fl run = go (ct s u pl out (first_sort h) G (λ x n. copy pl b n (λ y o. ask pl (build h x y l m) (λ c. k c o))) gr.3 fl run)
      where
        ups : (n p : S) (x y : ℕ) (F H : Given) → CopyStep σ κ (meaning s) (meaning n) t G F x (first_sort h) → CopyStep σ κ (meaning n) (meaning p) b F H y (second_sort h m)
            → (v a : Valuation) (z : Value) → (meaning s).state.solves v → Has a v (pair h l m t b) z → Fill G v a
            → (w : Valuation) × Agree (meaning s).state v w × (meaning p).state.solves w × Builds h l (w x) (w y) z × Fill H w a
        ups n p x y F H st su v a z sv hs f =
            let w = st.up v a hs.0 sv hs.2 f in
            let hb = has_even a a v w.0 b hs.1 (grown_agree K σ κ (meaning s) E a v w.0 b (second_sort h m) gr.4 w.1) hs.3 in
            let r = su.up w.0 a hs.1 w.2 hb w.4 in (
              r.0,
              λ d o. w.1 d o ∙ r.1 d (o.0, st.old d o.0 o.1),
              r.2,
              builds_swap h l hs.0 hs.1 (r.0 x) (r.0 y) z (λ g. sym w.3 ∙ r.1 x (first_sort h, st.known)) (λ g. sym r.3) hs.4,
              r.4,
            )

        end : (n p : S) (x y : ℕ) (F H : Given) → CopyStep σ κ (meaning s) (meaning n) t G F x (first_sort h) → CopyStep σ κ (meaning n) (meaning p) b F H y (second_sort h m)
            → Res meaning asked rank p Value (λ v z. Builds h l (v x) (v y) z) (λ c. (c, gives h m l) ∷ []) (λ z. z ∷ []) (λ c. k c H) out u → CopyRes s (pair h l m t b) q G k out u
        end n p x y F H st su (went t' c e r) =
            copied t' c H
            (record {
              old = λ d o z. e.old d o (su.old d o (st.old d o z));
              known = e.known.0 ∙ ap some gr.0;
              more = λ g d z. su.more g d (st.more g d z);
              filled = filled_later σ κ (meaning p) (meaning t') H e.old (λ v sv. (e.down v sv).0) su.filled;
              down = λ v sv.
                  let d = e.down v sv in
                  let g = su.down v d.0 in
                  let i = st.down v g.0 in
                  (i.0, λ a f. (v x, v y, i.1 a (λ j w z. f j w (su.more j w z)), g.1 a f, subst (Builds h l (v x) (v y)) (sym d.1.1.0) d.1.2));
              up = λ v a z sv hs f.
                  let w = ups n p x y F H st su v a z sv hs f in
                  let r = e.up w.0 z w.2 w.3 in
                  (r.0, λ d o. w.1 d o ∙ r.1 d (o.0, su.old d o.0 (st.old d o.0 o.1)), r.2, r.3.0, fill_moved σ κ (meaning p) H w.0 r.0 a su.filled r.1 w.4);
            })
            r
        end n p x y F H st su (ended e) =
            uncopied (ends_map (λ c.
            let w = ups n p x y F H st su c.val c.vars c.ans c.solved c.has c.fill in
            record { val = w.0; ans = c.ans; solved = w.2; ok = w.3 }) e)

        mid : (n : S) (x : ℕ) (F : Given) → CopyStep σ κ (meaning s) (meaning n) t G F x (first_sort h)
            → CopyRes n b (second_sort h m) F (λ y o. ask pl (build h x y l m) (λ c. k c o)) out u → CopyRes s (pair h l m t b) q G k out u
        mid n x F st (copied p y H su r) =
            end n p x y F H st su (ask_build K meaning asked rank follows sound (fit_build K (meaning p) h x y l m gr.1 gr.2 (λ f. su.old x (first_sort h) st.known) (λ f. su.known)) r)
        mid n x F st (uncopied e) =
            uncopied (ends_map (λ c.
            let w = st.up c.val c.vars c.has.0 c.solved c.has.2 c.fill in
            record {
              val = w.0;
              vars = c.vars;
              ans = c.has.1;
              solved = w.2;
              has = has_even c.vars c.vars c.val w.0 b c.has.1 (grown_agree K σ κ (meaning s) E c.vars c.val w.0 b (second_sort h m) gr.4 w.1) c.has.3;
              fill = w.4;
            }) e)

        go : CopyRes s t (first_sort h) G (λ x n. copy pl b n (λ y o. ask pl (build h x y l m) (λ c. k c o))) out u → CopyRes s (pair h l m t b) q G k out u
        go (copied n x F st r) =
            mid n x F st (cb n u pl out (second_sort h m) F (λ y o. ask pl (build h x y l m) (λ c. k c o)) (grown_later K σ κ (meaning s) (meaning n) E st.old (λ v sv. (st.down v sv).0) b (second_sort h m) gr.4) st.filled r)
        go (uncopied e) = uncopied (ends_map (λ c. record { val = c.val; vars = c.vars; ans = c.has.0; solved = c.solved; has = c.has.2; fill = c.fill }) e)

    copy_run : (t : Tree) → Copier t
    copy_run (any g o x) = λ s u pl out q G k gr fl run. copy_any pl g o x q G k (got G g) refl gr fl run
    copy_run (stay c) = λ s u pl out q G k gr fl run.
        copied s c G
        (record {
          old = λ d p y. y;
          known = gr.0;
          more = λ h d y. y;
          filled = fl;
          down = λ v sv. (sv, λ a f. refl);
          up = λ v a y sv h f. (v, λ d p. refl, sv, sym h, f);
        })
        run
    copy_run (leaf h m) = copy_leaf h m
    copy_run (over h t) = copy_over h t (copy_run t)
    copy_run (pair h l m t b) = copy_pair h l m t b (copy_run t) (copy_run b)

    abbrev first_of : Option ℕ → Valuation → Value
    first_of (some c) v = v c
    first_of none v = v 0

    -- A scheme that is used: a code that can have just its types.
    pub use_scheme : {s u : S} {out : Outcome} {k : ℕ → Calls} (pl : Place) (t : Tree) → Grown K σ κ (meaning s) E t OfType
        → Run meaning asked rank s (copy pl t [] (λ c m. k c)) out u
        → Res meaning asked rank s Ty (λ v T. (a : Valuation) × Has a v t (of_type T)) (λ c. (c, OfType) ∷ []) (λ T. of_type T ∷ []) k out u
    use_scheme {s} {u} {out} {k} pl t gr run = go (copy_run t s u pl out OfType [] (λ c m. k c) gr (λ g c e. absurd (none_some e)) run)
      where
        go : CopyRes s t OfType [] (λ c m. k c) out u → Res meaning asked rank s Ty (λ v T. (a : Valuation) × Has a v t (of_type T)) (λ c. (c, OfType) ∷ []) (λ T. of_type T ∷ []) k out u
        go (copied n c F st r) =
            went n c
            (record {
              old = st.old;
              known = (st.known, tt);
              down = λ v sv.
                  let d = st.down v sv in
                  let T = type_held (v c) ((sound n).sorted v sv c OfType st.known) in
                  let a : Valuation = λ g. first_of (got F g) v in
                  (d.0, (T.0, (T.1, tt), (a, subst (Has a v t) T.1 (d.1 a (λ g i e. sym (ap (λ x. first_of x v) e))))));
              up = λ v T sv h.
                  let w = st.up v h.0 (of_type T) sv h.1 (λ g i e. absurd (none_some e)) in
                  (w.0, w.1, w.2, (w.3, tt));
            })
            r
        go (uncopied e) = ended (ends_map (λ h. record { val = h.val; vars = h.ok.0; ans = of_type h.ans; solved = h.solved; has = h.ok.1; fill = λ g i e. absurd (none_some e) }) e)
