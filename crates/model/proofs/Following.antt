-- What each call makes of a model is what it makes of the meaning.
use Rattle.std.proofs.Common.{◌≡◌, ℕ, suc, ◌+◌, ◌<◌, ◌≤◌, Bool, true, false, cond, ◌&&◌, eqb, ltb, leb, ◌⊎◌, ◌≢◌, List, [], ◌∷◌, ◌++◌, reverse, length, get_or, take, Ok, Err, Result, is_err, sym, refl, ap, ◌∙◌, subst, ap₂, inl, inr, vec_items, arith, length-take-le, take_all, take-take, take_at, take-suc, ltb-false, ltb-true, eq-eqb, ne_eqb, le-leb}
use mathlib.Core.Option.{Option, some, none}
use Rattle.std.proofs.Math.Bool.{and-true, and-false}
use borrow.Author.Tests.{lt-leb}
use Rattle.std.proofs.lemmas.List.{get_or_past, take-append-le, reverse-append, length-reverse, length-append}
use Rattle.ground.specs.Values.{Ty, Value, of_type}
use Rattle.ground.specs.Sorts.{Of}
use Rattle.ground.specs.Heads.{Builds, has_first, has_second}
use Rattle.ground.specs.declared.sort.Sort.{Sort}
use Rattle.ground.specs.declared.sort.Sort.TheVariants.{«Type» as OfType}
use Rattle.ground.specs.declared.sort.Labels.{Labels}
use Rattle.ground.specs.declared.code.Code.{Code}
use Rattle.ground.specs.declared.head.Head.{Head}
use Rattle.ground.specs.declared.head.Head.TheVariants.{Whole, Tenth, Flag, To, List as ListOf, Record, Absent, Has, Empty, Row as RowWith}
use Rattle.ground.proofs.Built.{no_way}
use Rattle.system.specs.Meaning.{Valuation, Meaning, SameState, SameMarks, New}
use Rattle.system.specs.Requests.{Request, fresh, build, equate, demand, mark, keep, back, Reply, token, done, fault, fits, finder, takes, head_number, is_of, alike, is_known}
use Rattle.system.specs.Follows.{Follows, Goes, Added, Kept, Void}
use Rattle.system.specs.Marks.{Opened}
use Rattle.system.specs.Replies.{coded, plain, marked, taken}
use Rattle.system.specs.Faults.{system_number, system_layer}
use Rattle.system.specs.declared.fault.SystemFault.{SystemFault}
use Rattle.system.specs.declared.fault.SystemFault.TheVariants.{NoCells, Unknown}
use Rattle.system.proofs.Same.{same_same, state_same, marks_same}
use Rattle.system.proofs.Takes.{alike_of, both}
use Rattle.model.specs.declared.cell.Cell.{Cell}
use Rattle.model.specs.declared.cell.Cell.TheVariants.{Open, Built}
use Rattle.model.specs.declared.cell.Bind.{Bind}
use Rattle.model.specs.declared.cell.Saved.{Saved}
use Rattle.model.specs.Cells.{view, seen, Out, held, lost, answer, left, rebound, unify}
use Rattle.model.specs.Stock.{Stock}
use Rattle.system.specs.declared.mark.Mark.{Mark}
use Rattle.system.specs.declared.unspent.Unspent.{Unspent}
use Rattle.model.specs.Means.{Says, Refers, Lower, Fine, Good, Nested, state_of, states_at, meaning_of}
use Rattle.model.specs.declared.model.Model.{Model}
use Rattle.model.specs.Models.{kind, apt, sure, asks}
use Rattle.model.specs.Growing.{five}
use Rattle.model.specs.Meanings.{below_known, above_unknown, gives_five}
use Rattle.model.proofs.Marking.{states_length, nested_along, nested_more, states_along}
use Rattle.model.proofs.Adding.{added, good'}
use Rattle.model.specs.Unifying.{Went, Failed, Ends, unified}

-- a new model
view_none : (c : ℕ) → view [] [] c ≡ Open
view_none c = ap (seen [] c) (get_or_past [] c Open (omega arith))

none_fine : Fine [] []
none_fine = record {
  refers = λ c l. absurd (let z : ⊥ = omega (arith, l) in z);
  beyond = λ c l. view_none c;
  order = λ c. 0;
  falls = λ c. subst (λ (s : Cell). Lower (λ i. 0) c s) (sym (view_none c)) tt;
  room = omega arith;
}

pub built_new : (z : ℕ) (c : Stock) (ss : List Saved) → 16 ≤ z → z ≤ 4096 → c ≡ record { cells = []; binds = []; limit = z } → ss ≡ []
    → (16 ≤ z) × (z ≤ 4096) × Good c.limit c.cells c.binds ss × New z (meaning_of c.limit c.cells c.binds ss)
built_new z c ss p q e f =
    subst (λ (i : Stock). (16 ≤ z) × (z ≤ 4096) × Good i.limit i.cells i.binds ss × New z (meaning_of i.limit i.cells i.binds ss)) (sym e)
    (subst (λ (i : List Saved). (16 ≤ z) × (z ≤ 4096) × Good z [] [] i × New z (meaning_of z [] [] i)) (sym f) (
      p,
      q,
      record { least = p; most = q; cells = omega arith; fine = none_fine; marks = tt; few = omega arith },
      record { capacity = refl; count = refl; codes = λ c. above_unknown 0 c (omega arith); solution = λ v c l. absurd (let z : ⊥ = omega (arith, l) in z); opens = refl; marks = refl },
    ))

-- from one model to another by a request and its reply
abbrev pub Step : ℕ → List Cell → List Bind → List Saved → Request → Reply → ℕ → List Cell → List Bind → List Saved → Type 0
Step z cs bs ss q r Z D B S = Follows kind (meaning_of z cs bs ss) q r (meaning_of Z D B S) × Good Z D B S

-- the same, of codes as the code has them
abbrev pub Leads : Stock → List Saved → Request → Reply → Stock → List Saved → Type 0
Leads c ss q r d ts = Step c.limit c.cells c.binds ss q r d.limit d.cells d.binds ts

along : (c : Stock) (ss : List Saved) (q : Request) (r : Reply) (d e : Stock) (ts us : List Saved) → e ≡ d → us ≡ ts → Leads c ss q r d ts → Leads c ss q r e us
along c ss q r d e ts us p t h = subst (λ (i : Stock). Leads c ss q r i us) (sym p) (subst (λ (i : List Saved). Leads c ss q r d i) (sym t) h)

-- heads: what fits
is_below : (n x : ℕ) → is_of (cond (ltb x n) (some OfType) none) OfType ≡ ltb x n
is_below n x = go (ltb x n)
  where
    go : (t : Bool) → is_of (cond t (some OfType) none) OfType ≡ t
    go true = refl
    go false = refl

pub fits_apt : (cs : List Cell) (bs : List Bind) (h : Head) (x y l : ℕ) (m : Labels) → (ltb (head_number h) 5 && takes (state_of cs bs) h x y l m) ≡ apt (length cs) h x y
fits_apt cs bs Whole x y l m = refl
fits_apt cs bs Tenth x y l m = refl
fits_apt cs bs Flag x y l m = refl
fits_apt cs bs To x y l m = ap₂ (λ (a b : Bool). a && b) (is_below (length cs) x) (is_below (length cs) y)
fits_apt cs bs ListOf x y l m = is_below (length cs) x ∙ sym (and-true (ltb x (length cs)))
fits_apt cs bs Record x y l m = refl
fits_apt cs bs Absent x y l m = refl
fits_apt cs bs Has x y l m = refl
fits_apt cs bs Empty x y l m = refl
fits_apt cs bs RowWith x y l m = refl

pub apt_refers : (n : ℕ) (h : Head) (x y : ℕ) → apt n h x y ≡ true → Refers n (Built h x y)
apt_refers n h x y e =
    let p = both (ltb (head_number h) 5 && cond (has_first h) (ltb x n) true) (cond (has_second h) (ltb y n) true) e in
    let q = both (ltb (head_number h) 5) (cond (has_first h) (ltb x n) true) p.0 in
    (ltb-true (head_number h) 5 q.0, half (has_first h) x q.1, half (has_second h) y p.1)
  where
    half : (t : Bool) (c : ℕ) → cond t (ltb c n) true ≡ true → t ≡ true → c < n
    half true c e f = ltb-true c n e
    half false c e f = absurd (no_way f)

any_label : (h : Head) (l k : ℕ) (x y v : Value) → head_number h < 5 → Builds h l x y v → Builds h k x y v
any_label h l k x y v lt = five (λ h. Builds h l x y v → Builds h k x y v) (λ b. b) (λ b. b) (λ b. b) (λ b. b) (λ b. b) h lt

builds_type : (h : Head) (l : ℕ) (x y v : Value) → head_number h < 5 → Builds h l x y v → Of OfType v
builds_type h l x y v lt =
    five (λ h. Builds h l x y v → Of OfType v) (λ b. is_type b) (λ b. is_type b) (λ b. is_type b) (λ b. is_type b.4) (λ b. is_type b.2) h lt
  where
    is_type : {t : Ty} → v ≡ of_type t → Of OfType v
    is_type e = subst (λ (u : Value). Of OfType u) (sym e) tt

module _ (z : ℕ) (cs : List Cell) (bs : List Bind) (ss : List Saved) (good : Good z cs bs ss) where
  abbrev m : Meaning
  m = meaning_of z cs bs ss

  -- what does not fit
  pub refused : (q : Request) → fits kind m q ≡ false → finder kind m q ≡ 4 → Step z cs bs ss q (fault 21 4) z cs bs ss
  refused q e f = ((λ u. (ap (fault 21) (sym f), same_same m), λ u. absurd (no_way (sym e ∙ u))), good)

  full : (q : Request) → fits kind m q ≡ true → Goes kind m q (fault 16 4) m → Step z cs bs ss q (fault 16 4) z cs bs ss
  full q e g = ((λ u. absurd (no_way (sym u ∙ e)), λ u. g), good)

  -- fresh
  new_open : seen bs (length cs) Open ≡ Open
  new_open = ap (seen bs (length cs)) (sym (get_or_past cs (length cs) Open (omega arith))) ∙ good.fine.beyond (length cs) (omega arith)

  open_fits : Refers (length cs) (seen bs (length cs) Open)
  open_fits = subst (λ (s : Cell). Refers (length cs) s) (sym new_open) tt

  pub fresh_goes : (t : Bool) → ltb (length cs) z ≡ t
      → Step z cs bs ss (fresh OfType) (coded system_number system_layer (cond t (Ok (record { 0 = length cs })) (Err NoCells))) z (cond t (cs ++ (Open ∷ [])) cs) bs ss
  fresh_goes true e = (
    (
      λ u. absurd (no_way (sym u)),
      λ u. added cs bs good.fine Open open_fits z ss good (λ v. Of OfType (v (length cs))) (λ v o s. o) (λ v o. (o, subst (λ (s : Cell). Says v (length cs) s) (sym new_open) tt)),
    ),
    good' cs bs good.fine Open open_fits z ss good (ltb-true (length cs) z e),
  )
  fresh_goes false e = full (fresh OfType) refl (same_same m, inl (refl, refl, let l = ltb-false (length cs) z e in omega (arith, l)))

  -- build
  module _ (h : Head) (x y l : ℕ) (s : Labels) where
    pub build_refused : apt (length cs) h x y ≡ false → Step z cs bs ss (build h x y l s) (fault 21 4) z cs bs ss
    build_refused e = refused (build h x y l s) (fits_apt cs bs h x y l s ∙ e) refl

    pub build_goes : apt (length cs) h x y ≡ true → (t : Bool) → ltb (length cs) z ≡ t
        → Step z cs bs ss (build h x y l s) (coded system_number system_layer (cond t (Ok (record { 0 = length cs })) (Err NoCells))) z (cond t (cs ++ (Built h x y ∷ [])) cs) bs ss
    build_goes a true e =
        let r = apt_refers (length cs) h x y a in (
          (
            λ u. absurd (no_way (sym u ∙ (fits_apt cs bs h x y l s ∙ a))),
            λ u. subst (λ (o : Sort). Added m (length cs) o (λ v. Builds h l (v x) (v y) (v (length cs))) (meaning_of z (cs ++ (Built h x y ∷ [])) bs ss)) (sym (gives_five h s l r.0))
                (added cs bs good.fine (Built h x y) r z ss good (λ v. Builds h l (v x) (v y) (v (length cs)))
                (λ v o b. any_label h 0 l (v x) (v y) (v (length cs)) r.0 b)
                (λ v b. (builds_type h l (v x) (v y) (v (length cs)) r.0 b, any_label h l 0 (v x) (v y) (v (length cs)) r.0 b))),
          ),
          good' cs bs good.fine (Built h x y) r z ss good (ltb-true (length cs) z e),
        )
    build_goes a false e =
        full (build h x y l s) (fits_apt cs bs h x y l s ∙ a) (same_same m, inl (refl, refl, let l = ltb-false (length cs) z e in omega (arith, l)))

  -- equate
  module _ (a b : ℕ) where
    unlike : (p q : Option Sort) → (p ≡ none) ⊎ (q ≡ none) → alike p q ≡ false
    unlike none q e = refl
    unlike (some k) none e = refl
    unlike (some k) (some o) (inl e) = let z : ◌≡◌ {A = ℕ} 0 1 = cc in absurd (let y : ⊥ = omega (arith, z) in y)
    unlike (some k) (some o) (inr e) = let z : ◌≡◌ {A = ℕ} 0 1 = cc in absurd (let y : ⊥ = omega (arith, z) in y)

    pub equate_refused : (length cs ≤ a) ⊎ (length cs ≤ b) → Step z cs bs ss (equate a b) (fault 21 4) z cs bs ss
    equate_refused (inl l) = refused (equate a b) (unlike (m.state.sort_of a) (m.state.sort_of b) (inl (above_unknown (length cs) a l))) refl
    equate_refused (inr l) = refused (equate a b) (unlike (m.state.sort_of a) (m.state.sort_of b) (inr (above_unknown (length cs) b l))) refl

    fitting : a < length cs → b < length cs → fits kind m (equate a b) ≡ true
    fitting la lb = alike_of (m.state.sort_of a) (m.state.sort_of b) OfType (below_known (length cs) a la) (below_known (length cs) b lb)

    pub equate_done : (ds : List Bind) → a < length cs → b < length cs → Went cs z good.cells good.most bs (λ v. v a ≡ v b) ds → Step z cs bs ss (equate a b) done z cs ds ss
    equate_done ds la lb w =
        let begin : ((i : ℕ) → i ≤ length cs → take i cs ≡ take i cs) × ((i : ℕ) → i ≤ length bs → take i ds ≡ take i bs) =
        (λ i l. refl, λ i l. ap (take i) w.grows ∙ take-append-le i bs w.new l) in (
          (
            λ u. absurd (no_way (sym u ∙ fitting la lb)),
            λ u. record {
              capacity = refl;
              marks = states_along cs cs bs ds (length cs) (length bs) (reverse ss) begin good.marks;
              count = refl;
              old = λ c o e. e;
              onto = w.onto;
              from = λ v s p. (v, λ c k. refl, w.from v s p);
              fixed = λ v u s t f. f;
            },
          ),
          record {
            least = good.least;
            most = good.most;
            cells = good.cells;
            fine = w.fine;
            marks = nested_more cs ds (length cs) (length bs) (length cs) (length ds) (reverse ss) (omega arith) (omega (arith, ap length w.grows, length-append bs w.new)) (nested_along cs cs bs ds (length cs) (length bs) (reverse ss) begin good.marks);
            few = good.few;
          },
        )

    pub equate_denied : (f : SystemFault) (ds : List Bind) → a < length cs → b < length cs → Failed cs z good.cells good.most bs (λ v. v a ≡ v b) f ds
        → Step z cs bs ss (equate a b) (fault (system_number f) (system_layer f)) z cs bs ss
    equate_denied f ds la lb w = ((λ u. absurd (no_way (sym u ∙ fitting la lb)), λ u. (same_same m, inl (inl (w.told, refl), w.void))), good)

  -- demand
  pub demand_refused : (k c : ℕ) → (3 < k) ⊎ (length cs ≤ c) → Step z cs bs ss (demand k c) (fault 21 4) z cs bs ss
  demand_refused k c w = refused (demand k c) (go w) (four (is_known (m.state.sort_of c)) (leb k 3))
    where
      four : (t u : Bool) → ◌≡◌ {A = ℕ} (cond t (cond u 4 4) 4) 4
      four true true = refl
      four true false = refl
      four false u = refl

      go : (3 < k) ⊎ (length cs ≤ c) → (leb k 3 && is_of (m.state.sort_of c) OfType) ≡ false
      go (inl l) = ap (λ (t : Bool). t && is_of (m.state.sort_of c) OfType) (lt-leb k 3 l)
      go (inr l) = ap (λ (o : Option Sort). leb k 3 && is_of o OfType) (above_unknown (length cs) c l) ∙ and-false (leb k 3)

  pub demand_none : (k c : ℕ) → k ≤ 3 → c < length cs → Step z cs bs ss (demand k c) (fault 11 4) z cs bs ss
  demand_none k c lk lc =
      let e : fits kind m (demand k c) ≡ true =
      ap₂ (λ (t : Bool) (o : Option Sort). t && is_of o OfType) (le-leb k 3 lk) (below_known (length cs) c lc) in
      ((λ u. absurd (no_way (sym u ∙ e)), λ u. (same_same m, inl (refl, refl, refl))), good)

  -- marks
  open_marks : length m.marks ≡ length ss
  open_marks = states_length cs bs (reverse ss) ∙ length-reverse ss

  abbrev now_saved : Saved
  now_saved = record { cells = length cs; binds = length bs }

  pub mark_made : length ss < 8 → Step z cs bs ss mark (token (length ss)) z cs bs (ss ++ (now_saved ∷ []))
  mark_made l =
      let e : now_saved ∷ reverse ss ≡ reverse (ss ++ (now_saved ∷ [])) = sym (reverse-append ss (now_saved ∷ [])) in
      let p : take (length cs) cs ≡ cs = take_all (length cs) cs (omega arith) in
      let q : take (length bs) bs ≡ bs = take_all (length bs) bs (omega arith) in
      let same : SameState (state_of cs bs) (state_of (take (length cs) cs) (take (length bs) bs)) =
      subst (λ (x : List Cell). SameState (state_of cs bs) (state_of x (take (length bs) bs))) (sym p) (subst (λ (y : List Bind). SameState (state_of cs bs) (state_of cs y)) (sym q) (state_same (state_of cs bs))) in
      let fine : Fine (take (length cs) cs) (take (length bs) bs) =
      subst (λ (x : List Cell). Fine x (take (length bs) bs)) (sym p) (subst (λ (y : List Bind). Fine cs y) (sym q) good.fine) in (
        (
          λ u. absurd (no_way (sym u)),
          λ u. (
            omega (arith, open_marks, l),
            sym open_marks,
            refl,
            state_same (state_of cs bs),
            subst (λ (i : List Saved). SameMarks (state_of cs bs ∷ m.marks) (states_at cs bs i)) e (same, marks_same m.marks),
          ),
        ),
        record {
          least = good.least;
          most = good.most;
          cells = good.cells;
          fine = good.fine;
          marks = subst (λ (i : List Saved). Nested cs bs (length cs) (length bs) i) e (omega arith, omega arith, fine, good.marks);
          few = omega (arith, length-append ss (now_saved ∷ []), l);
        },
      )

  pub mark_full : 8 ≤ length ss → Step z cs bs ss mark (fault 23 4) z cs bs ss
  mark_full l = ((λ u. absurd (no_way (sym u)), λ u. (omega (arith, open_marks, l, good.few), refl, refl, same_same m)), good)

  module _ (d : ℕ) where
    newest : suc d ≡ length ss → eqb (suc d) (length m.marks) ≡ true
    newest e = eq-eqb (suc d) (length m.marks) (e ∙ sym open_marks)

    stale : (suc d ≡ length ss → ⊥) → eqb (suc d) (length m.marks) ≡ false
    stale n = ne_eqb (suc d) (length m.marks) (λ e. n (e ∙ open_marks))

    pub keep_refused : (suc d ≡ length ss → ⊥) → Step z cs bs ss (keep d) (fault 21 4) z cs bs ss
    keep_refused n = refused (keep d) (stale n) refl

    pub back_refused : (suc d ≡ length ss → ⊥) → Step z cs bs ss (back d) (fault 21 4) z cs bs ss
    back_refused n = refused (back d) (stale n) refl

    module _ (o : Saved) (rest : List Saved) (e : suc d ≡ length ss) (were : ss ≡ rest ++ (o ∷ [])) where
      parts : reverse ss ≡ o ∷ reverse rest
      parts = ap reverse were ∙ reverse-append rest (o ∷ [])

      nested : Nested cs bs (length cs) (length bs) (o ∷ reverse rest)
      nested = subst (λ (i : List Saved). Nested cs bs (length cs) (length bs) i) parts good.marks

      fewer : length rest ≤ 8
      fewer = omega (arith, ap length were, length-append rest (o ∷ []), good.few)

      pub keep_done : Step z cs bs ss (keep d) done z cs bs rest
      keep_done = (
        (
          λ u. absurd (no_way (sym u ∙ newest e)),
          λ u. (
            refl,
            state_same (state_of cs bs),
            subst (λ (i : List Saved). Rattle.system.specs.Follows.Dropped (states_at cs bs i) (states_at cs bs (reverse rest))) (sym parts) (marks_same (states_at cs bs (reverse rest))),
          ),
        ),
        record {
          least = good.least;
          most = good.most;
          cells = good.cells;
          fine = good.fine;
          marks = nested_more cs bs o.cells o.binds (length cs) (length bs) (reverse rest) nested.0 nested.1 nested.3;
          few = fewer;
        },
      )

      abbrev old_cells : List Cell
      old_cells = take o.cells cs

      abbrev old_binds : List Bind
      old_binds = take o.binds bs

      begin : ((i : ℕ) → i ≤ o.cells → take i old_cells ≡ take i cs) × ((i : ℕ) → i ≤ o.binds → take i old_binds ≡ take i bs)
      begin = (λ i l. take-take i o.cells cs l, λ i l. take-take i o.binds bs l)

      pub back_done : Step z cs bs ss (back d) done z old_cells old_binds rest
      back_done =
          let lc = length-take-le o.cells cs nested.0 in
          let lb = length-take-le o.binds bs nested.1 in (
            (
              λ u. absurd (no_way (sym u ∙ newest e)),
              λ u. (
                refl,
                subst (λ (i : List Saved). SameMarks (states_at cs bs i) (state_of old_cells old_binds ∷ states_at old_cells old_binds (reverse rest))) (sym parts)
                    (state_same (state_of old_cells old_binds), states_along cs old_cells bs old_binds o.cells o.binds (reverse rest) begin nested.3),
              ),
            ),
            record {
              least = good.least;
              most = good.most;
              cells = omega (arith, lc, nested.0, good.cells);
              fine = nested.2;
              marks = nested_more old_cells old_binds o.cells o.binds (length old_cells) (length old_binds) (reverse rest) (omega (arith, lc)) (omega (arith, lb))
                  (nested_along cs old_cells bs old_binds o.cells o.binds (reverse rest) begin nested.3);
              few = fewer;
            },
          )

-- the same of a model: the source names it on `mark`, so that a body that counts the marks itself is held to the count
pub marks_full : (s : Model) → sure s → 8 ≤ length (vec_items s.saved) → asks s mark (fault 23 4) s
marks_full s h l = mark_full s.codes.limit s.codes.cells s.codes.binds (vec_items s.saved) h l

-- how a unification ended, by its answer
pub ended_well : (cs : List Cell) (z : ℕ) (p : length cs ≤ z) (q : z ≤ 4096) (bs : List Bind) (P : Valuation → Type 0) (o : Out) → Ends cs z p q bs P o → answer o ≡ Ok tt → Went cs z p q bs P (left o)
ended_well cs z p q bs P (held ds) e a = e
ended_well cs z p q bs P (lost f ds) e a = let z : ◌≡◌ {A = ℕ} 0 1 = cc in absurd (let y : ⊥ = omega (arith, z) in y)

pub ended_badly : (cs : List Cell) (z : ℕ) (p : length cs ≤ z) (q : z ≤ 4096) (bs : List Bind) (P : Valuation → Type 0) (o : Out) (f : SystemFault) → Ends cs z p q bs P o → answer o ≡ Err f → Failed cs z p q bs P f (left o)
ended_badly cs z p q bs P (held ds) f e a = let z : ◌≡◌ {A = ℕ} 0 1 = cc in absurd (let y : ⊥ = omega (arith, z) in y)
ended_badly cs z p q bs P (lost g ds) f e a = let s : g ≡ f = cc in subst (λ (x : SystemFault). Failed cs z p q bs P x ds) s e

-- each call, by what the code knows of it
module _ (c : Stock) (ss : List Saved) (good : Good c.limit c.cells c.binds ss) where
  module _ (r : Result Code SystemFault) (d : Stock) (told : r ≡ cond (ltb (length c.cells) c.limit) (Ok (record { 0 = length c.cells })) (Err NoCells)) where
    grown : (q : Request) (x : Cell) → d ≡ record { cells = cond (ltb (length c.cells) c.limit) (c.cells ++ (x ∷ [])) c.cells; binds = c.binds; limit = c.limit }
        → Step c.limit c.cells c.binds ss q (coded system_number system_layer (cond (ltb (length c.cells) c.limit) (Ok (record { 0 = length c.cells })) (Err NoCells))) c.limit
        (cond (ltb (length c.cells) c.limit) (c.cells ++ (x ∷ [])) c.cells) c.binds ss
        → Leads c ss q (coded system_number system_layer r) d ss
    grown q x e h =
        subst (λ (k : Result Code SystemFault). Leads c ss q (coded system_number system_layer k) d ss) (sym told)
        (along c ss q (coded system_number system_layer (cond (ltb (length c.cells) c.limit) (Ok (record { 0 = length c.cells })) (Err NoCells)))
        (record { cells = cond (ltb (length c.cells) c.limit) (c.cells ++ (x ∷ [])) c.cells; binds = c.binds; limit = c.limit }) d ss ss e refl h)

    pub build_answer : (h : Head) (x y l : ℕ) (m : Labels) → apt (length c.cells) h x y ≡ true
        → d ≡ record { cells = cond (ltb (length c.cells) c.limit) (c.cells ++ (Built h x y ∷ [])) c.cells; binds = c.binds; limit = c.limit }
        → Leads c ss (build h x y l m) (coded system_number system_layer r) d ss
    build_answer h x y l m a e = grown (build h x y l m) (Built h x y) e (build_goes c.limit c.cells c.binds ss good h x y l m a (ltb (length c.cells) c.limit) refl)

  -- said so that the goal is met from its facts alone, whatever the steps before it are called
  pub fresh_answer : (r : Reply) (d : Stock) (o : Sort) → o ≡ OfType
      → r ≡ coded system_number system_layer (cond (ltb (length c.cells) c.limit) (Ok (record { 0 = length c.cells })) (Err NoCells))
      → d ≡ record { cells = cond (ltb (length c.cells) c.limit) (c.cells ++ (Open ∷ [])) c.cells; binds = c.binds; limit = c.limit }
      → Leads c ss (fresh o) r d ss
  fresh_answer r d o i t e =
      subst (λ (k : Sort). Leads c ss (fresh k) r d ss) (sym i)
      (subst (λ (k : Reply). Leads c ss (fresh OfType) k d ss) (sym t)
      (grown (cond (ltb (length c.cells) c.limit) (Ok (record { 0 = length c.cells })) (Err NoCells)) d refl (fresh OfType) Open e (fresh_goes c.limit c.cells c.binds ss good (ltb (length c.cells) c.limit) refl)))

  module _ (a b fuel : ℕ) (la : a < length c.cells) (lb : b < length c.cells) (far : 40000000 ≤ fuel) where
    abbrev out : Out
    out = unify c.cells c.limit fuel a b c.binds

    ended : Ends c.cells c.limit good.cells good.most c.binds (λ v. v a ≡ v b) out
    ended = unified c.cells c.limit good.cells good.most fuel c.binds a b good.fine la lb far

    joined_done : (d : Stock) → Ok tt ≡ answer out → d ≡ rebound c out → Leads c ss (equate a b) done d ss
    joined_done d e f =
        along c ss (equate a b) done (rebound c out) d ss ss f refl
        (equate_done c.limit c.cells c.binds ss good a b (left out) la lb (ended_well c.cells c.limit good.cells good.most c.binds (λ v. v a ≡ v b) out ended (sym e)))

    -- back at the size before
    joined_denied : (f : SystemFault) (d e : Stock) → Err f ≡ answer out → d ≡ rebound c out
        → e ≡ record { cells = take (length c.cells) d.cells; binds = take (length c.binds) d.binds; limit = d.limit }
        → Leads c ss (equate a b) (fault (system_number f) (system_layer f)) e ss
    joined_denied f d e t p q =
        let w = ended_badly c.cells c.limit good.cells good.most c.binds (λ v. v a ≡ v b) out f ended (sym t) in
        let cells : take (length c.cells) c.cells ≡ c.cells = take_all (length c.cells) c.cells (omega arith) in
        let binds : take (length c.binds) (left out) ≡ c.binds = ap (take (length c.binds)) w.grows ∙ take_at c.binds w.new (length c.binds) refl in
        let k : record { cells = take (length c.cells) d.cells; binds = take (length c.binds) d.binds; limit = d.limit } ≡ c =
        ap (λ (i : Stock). record { cells = take (length c.cells) i.cells; binds = take (length c.binds) i.binds; limit = i.limit }) p
        ∙ ap₂ (λ (x : List Cell) (y : List Bind). record { cells = x; binds = y; limit = c.limit }) cells binds in
        along c ss (equate a b) (fault (system_number f) (system_layer f)) c e ss ss (q ∙ k) refl
        (equate_denied c.limit c.cells c.binds ss good a b f (left out) la lb w)

    pub joined : (r : Result (Unit {0}) SystemFault) (d : Stock) → is_err r ≡ false → r ≡ answer out → d ≡ rebound c out → Leads c ss (equate a b) (plain system_number system_layer r) d ss
    joined (Ok u) d w e f = joined_done d e f
    joined (Err f) d w e h = absurd (no_way (sym w))

    pub unjoined : (r : Result (Unit {0}) SystemFault) (d e : Stock) → is_err r ≡ true → r ≡ answer out → d ≡ rebound c out
        → e ≡ record { cells = take (length c.cells) d.cells; binds = take (length c.binds) d.binds; limit = d.limit }
        → Leads c ss (equate a b) (plain system_number system_layer r) e ss
    unjoined (Ok u) d e w t p q = absurd (no_way w)
    unjoined (Err f) d e w t p q = joined_denied f d e t p q

  mark_answer : (d : ℕ) (o : Saved) (ts : List Saved) → d ≡ length ss → d < 8 → o ≡ record { cells = length c.cells; binds = length c.binds } → ts ≡ ss ++ (o ∷ [])
      → Leads c ss mark (token d) c ts
  mark_answer d o ts e l p h =
      subst (λ (x : ℕ). Leads c ss mark (token x) c ts) (sym e)
      (along c ss mark (token (length ss)) c c (ss ++ (record { cells = length c.cells; binds = length c.binds } ∷ [])) ts refl (h ∙ ap (λ (x : Saved). ss ++ (x ∷ [])) p)
      (mark_made c.limit c.cells c.binds ss good (omega (arith, e, l))))

  pub mark_opened : (n : ℕ) (o : Saved) (r : Result (Mark Saved) SystemFault) (ts : List Saved) → n ≡ 8 → Opened n ss o r ts → o ≡ record { cells = length c.cells; binds = length c.binds }
      → Leads c ss mark (marked (λ m. m.depth) system_number system_layer r) c ts
  mark_opened n o (Ok m) ts w (l, e, h) p = mark_answer m.depth o ts e (omega (arith, e, l, w)) p h
  mark_opened n o (Err f) ts w (l, e, h) p =
      subst (λ (i : SystemFault). Leads c ss mark (fault (system_number i) (system_layer i)) c ts) (sym e)
      (along c ss mark (fault 23 4) c c ss ts refl h (mark_full c.limit c.cells c.binds ss good (omega (arith, l, w))))

  module _ (m : Mark Saved) where
    pub unspent : (q : Request) (e : Unspent (Mark Saved) SystemFault) (r : Result (Unit {0}) (Unspent (Mark Saved) SystemFault)) (ts : List Saved)
        → (m.depth + 1 ≢ length ss) × (e.mark ≡ m) × (e.fault ≡ Unknown) × (ts ≡ ss) → r ≡ Err e
        → ((suc m.depth ≡ length ss → ⊥) → Leads c ss q (fault 21 4) c ss)
        → Leads c ss q (taken system_number system_layer r) c ts
    unspent q e r ts (n, k, f, t) w h =
        subst (λ (i : Result (Unit {0}) (Unspent (Mark Saved) SystemFault)). Leads c ss q (taken system_number system_layer i) c ts) (sym w)
        (subst (λ (i : SystemFault). Leads c ss q (fault (system_number i) (system_layer i)) c ts) (sym f)
        (along c ss q (fault 21 4) c c ss ts refl t (h (λ l. n (omega (arith, l))))))

    ends : (o : Saved) → m.depth + 1 ≡ length ss → o ≡ get_or ss m.depth o → ss ≡ take m.depth ss ++ (o ∷ [])
    ends o e i =
        let p : suc m.depth ≡ length ss = omega (arith, e) in
        sym (take_all (length ss) ss (omega arith)) ∙ ap (λ (n : ℕ). take n ss) (sym p) ∙ take-suc ss m.depth o (omega (arith, p)) ∙ ap (λ (x : Saved). take m.depth ss ++ (x ∷ [])) (sym i)

    pub keep_answer : (o : Saved) (ts : List Saved) → (m.depth + 1 ≡ length ss) × (o ≡ get_or ss m.depth o) × (ts ≡ take m.depth ss) → Leads c ss (keep m.depth) done c ts
    keep_answer o ts (e, i, t) =
        along c ss (keep m.depth) done c c (take m.depth ss) ts refl t (keep_done c.limit c.cells c.binds ss good m.depth o (take m.depth ss) (omega (arith, e)) (ends o e i))

    pub back_answer : (o : Saved) (d : Stock) (ts : List Saved) → (m.depth + 1 ≡ length ss) × (o ≡ get_or ss m.depth o) × (ts ≡ take m.depth ss)
        → d ≡ record { cells = take o.cells c.cells; binds = take o.binds c.binds; limit = c.limit } → Leads c ss (back m.depth) done d ts
    back_answer o d ts (e, i, t) q =
        along c ss (back m.depth) done (record { cells = take o.cells c.cells; binds = take o.binds c.binds; limit = c.limit }) d (take m.depth ss) ts q t
        (back_done c.limit c.cells c.binds ss good m.depth o (take m.depth ss) (omega (arith, e)) (ends o e i))
