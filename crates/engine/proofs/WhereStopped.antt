-- Where 12 to 15 come from: a run passes the forms that have types, and stops inside one that has none.
use Rattle.std.proofs.Common.{◌≡◌, ℕ, ◌≤◌, [], ◌∷◌, sym, refl, ◌∙◌, arith}
use Rattle.ground.specs.Values.{Ty, flag, Value, of_type}
use Rattle.ground.specs.Sorts.{Of}
use Rattle.ground.specs.Heads.{Builds, none_lacked}
use Rattle.ground.specs.Names.{Name}
use Rattle.ground.specs.Forms.{Form, fun, call, let_in, if_then}
use Rattle.ground.specs.Belongs.{Alike, Belongs}
use Rattle.ground.specs.declared.place.Place.{Place}
use Rattle.ground.specs.declared.sort.Sort.TheVariants.{«Type» as OfType}
use Rattle.ground.specs.declared.head.Head.TheVariants.{Flag, To}
use Rattle.ground.proofs.Built.{no_way}
use Rattle.ground.proofs.Belonging.{alike_push, belongs_alike}
use Rattle.system.specs.Meaning.{Kind, Valuation, Meaning, Sound, Known, Agree}
use Rattle.system.specs.Requests.{Request, fresh, equate, Reply}
use Rattle.system.specs.Replies.{Looks}
use Rattle.system.specs.Follows.{Follows}
use Rattle.system.proofs.Takes.{fit_build}
use Rattle.engine.specs.Trees.{Tree, code, scheme, Scope, Types, names, env}
use Rattle.engine.specs.Calls.{Calls, answer, ask, tell, bind, make, make2, typing}
use Rattle.engine.specs.Runs.{Outcome, typed, stopped, end, got_code, no_code, told, not_told, looked_at, Done, Nothing}
use Rattle.engine.specs.Schemes.{Scheme}
use Rattle.engine.specs.Scopes.{Ready}
use Rattle.engine.specs.Proper.{Proper}
use Rattle.engine.proofs.Steps.{Step, Ends, Run, Res, went, ended}
use Rattle.engine.proofs.Asks.{ask_fresh, ask_build, ask_equate}
use Rattle.engine.proofs.Copies.{type_held}
use Rattle.engine.proofs.SchemeOf.{tree_grown, sort_at, classes_at}
use Rattle.engine.proofs.Ready.{ready_later, agree_level, env_alike}
use Rattle.engine.proofs.Typers.{equal}
use Rattle.engine.proofs.Let.{scheme_types}
use Rattle.engine.proofs.Exactness.{stepped, typing_exact, typing_refused}
use Rattle.engine.proofs.Through.{Through, stops, goes}
use Rattle.engine.proofs.FormRuns.{form_passes}

same_fault : {p q : Place} {f g l k : ℕ} → stopped p f l ≡ stopped q g k → f ≡ g
same_fault e = cc

-- A fault of at most 15 does not stop a piece that has an answer.
not_ended : {P : Type 0} {p : Place} {f l : ℕ} → f ≤ 15 → Ends P (stopped p f l) → P → ⊥
not_ended h e x = e.none (let z = same_fault e.is in omega arith) x

module _ {S : Type 0} (K : Kind) (meaning : S → Meaning) (asked : S → Request → Reply → S → Type 0) (rank : S → ℕ → ℕ)
    (follows : (s t : S) (q : Request) (r : Reply) → asked s q r t → Follows K (meaning s) q r (meaning t))
    (sound : (s : S) → Sound K (meaning s))
    (looks : (s : S) (c : ℕ) → Known (meaning s).state c → Looks (rank s) (meaning s) c) where
  -- No fault comes after the answer.
  no_fault : {t u : S} {c : ℕ} {p : Place} {f l : ℕ} {o : Outcome} → o ≡ stopped p f l → Run meaning asked rank t (answer c) o u → ⊥
  no_fault e end = let z : ◌≡◌ {A = ℕ} 0 1 = cc in omega arith

  -- The form was typed, and then the rest was run.
  pub record Passed (s : S) (E : Scope) (e : Form) (k : ℕ → Calls) (o : Outcome) (u : S) : Type 0 where
    pub at : S
    pub code_of : ℕ
    pub done : Done (meaning s) E e (meaning at) code_of
    pub ready : Ready K (meaning at) E
    pub rest : Run meaning asked rank at (k code_of) o u

  -- A form with a type under some solution is passed.
  pub passes : (s u : S) (E : Scope) (e : Form) (k : ℕ → Calls) (p : Place) (f l : ℕ) → Proper K (names E) e → Ready K (meaning s) E → f ≤ 15
      → (v : Valuation) → (meaning s).state.solves v → (T : Ty) → Belongs (env v E) e T
      → Run meaning asked rank s (typing e E k) (stopped p f l) u → Passed s E e k (stopped p f l) u
  passes s u E e k p f l pr rd h v sv T b run = go (form_passes asked (Scheme meaning rank) K e E pr s u k (stopped p f l) run)
    where
      go : Through asked (Scheme meaning rank) ℕ (typing e E) (λ p f. Unit {0}) (λ s x t. Unit {0}) s k (stopped p f l) u → Passed s E e k (stopped p f l) u
      go (stops q g m y i j) = absurd ((typing_refused K meaning asked rank follows sound looks s u E e p f l pr rd (j answer)).nothing h v sv T b)
      go (goes t x y back r) =
          let d = typing_exact K meaning asked rank follows sound looks s t E e x pr rd (back answer (typed x) t end) in
          record { at = t; code_of = x; done = d; ready = ready_later K (meaning s) (meaning t) d.old d.down E rd; rest = r }

  -- A form without a type under all solutions is not: the run stops inside it.
  pub fails : (s u : S) (E : Scope) (e : Form) (k : ℕ → Calls) (p : Place) (f l : ℕ) → Proper K (names E) e → Ready K (meaning s) E → Nothing (meaning s) E e
      → Run meaning asked rank s (typing e E k) (stopped p f l) u → Run meaning asked rank s (typing e E answer) (stopped p f l) u
  fails s u E e k p f l pr rd non run = go (form_passes asked (Scheme meaning rank) K e E pr s u k (stopped p f l) run)
    where
      go : Through asked (Scheme meaning rank) ℕ (typing e E) (λ p f. Unit {0}) (λ s x t. Unit {0}) s k (stopped p f l) u → Run meaning asked rank s (typing e E answer) (stopped p f l) u
      go (stops q g m y i j) = j answer
      go (goes t x y back r) =
          let d = typing_exact K meaning asked rank follows sound looks s t E e x pr rd (back answer (typed x) t end) in
          let v = (sound t).some in
          let T = d.has_type v.0 v.1 in
          absurd (non v.0 (d.down v.0 v.1) T.0 (d.exact.sound v.0 v.1 T.0 T.1))

  -- The last calls of a call have its place.
  last_place : {t u : S} {p : Place} {f l : ℕ} {o : Outcome} (q : Place) (c x : ℕ) → o ≡ stopped p f l
      → Run meaning asked rank t (ask q (fresh OfType) (λ a. make2 q To x a (λ t. tell q (equate c t) (answer a)))) o u → p ≡ q
  last_place q c x e (no_code a) = cc
  last_place q c x e (got_code a (no_code b)) = cc
  last_place q c x e (got_code a (got_code b (not_told d))) = cc
  last_place q c x e (got_code a (got_code b (told d r))) = absurd (no_fault e r)

  -- A call of which both forms have types under one solution stops at its own place.
  pub call_place : (s u : S) (E : Scope) (q : Place) (F A : Form) (p : Place) (f l : ℕ) → Proper K (names E) (call q F A) → Ready K (meaning s) E → f ≤ 15
      → (v : Valuation) → (meaning s).state.solves v → (X : Ty) → Belongs (env v E) F X → (Y : Ty) → Belongs (env v E) A Y
      → Run meaning asked rank s (typing (call q F A) E answer) (stopped p f l) u → p ≡ q
  call_place s u E q F A p f l pr rd h v sv X bX Y bY run =
      let one = passes s u E F (λ c. typing A E (λ x. ask q (fresh OfType) (λ a. make2 q To x a (λ t. tell q (equate c t) (answer a))))) p f l pr.0 rd h v sv X bX run in
      let w = one.done.exact.complete v X sv bX in
      let same = env_alike K (meaning s) E rd v w.0 sv (one.done.down w.0 w.2) (agree_level K (meaning s) E rd v w.0 w.1) in
      let two = passes one.at u E A (λ x. ask q (fresh OfType) (λ a. make2 q To x a (λ t. tell q (equate one.code_of t) (answer a)))) p f l pr.1 one.ready h w.0 w.2 Y (belongs_alike A (env v E) (env w.0 E) same Y bY) one.rest in
      last_place {t = two.at} q one.code_of two.code_of refl two.rest

  -- After a fun's name has its code, the body is run; the code can be any type, whatever the solution before it.
  pub record Inside (s : S) (n : Name) (E : Scope) (B : Form) (o : Outcome) (u : S) : Type 0 where
    pub at : S
    pub code_of : ℕ
    pub rest_of : ℕ → Calls
    pub ready : Ready K (meaning at) ((n, code code_of) ∷ E)
    pub any_type : (v : Valuation) → (meaning s).state.solves v → (A : Ty) → (w : Valuation) × Agree (meaning s).state v w × (meaning at).state.solves w × (w code_of ≡ of_type A)
    pub one_type : (v : Valuation) → (meaning at).state.solves v → (A : Ty) × (v code_of ≡ of_type A)
    pub rest : Run meaning asked rank at (typing B ((n, code code_of) ∷ E) rest_of) o u

  pub fun_body : (s u : S) (E : Scope) (q : Place) (n : Name) (B : Form) (p : Place) (f l : ℕ) → Ready K (meaning s) E → f ≤ 15
      → Run meaning asked rank s (typing (fun q n B) E answer) (stopped p f l) u → Inside s n E B (stopped p f l) u
  fun_body s u E q n B p f l rd h run = go (ask_fresh K meaning asked rank follows sound refl run)
    where
      go : Res meaning asked rank s Value (λ v x. Of OfType x) (λ c. (c, OfType) ∷ []) (λ x. x ∷ []) (λ a. typing B ((n, code a) ∷ E) (λ b. make2 q To a b answer)) (stopped p f l) u → Inside s n E B (stopped p f l) u
      go (went t a st r) = record {
        at = t;
        code_of = a;
        rest_of = λ b. make2 q To a b answer;
        ready = (st.known.0, ready_later K (meaning s) (meaning t) st.old (λ v sv. (st.down v sv).0) E rd);
        any_type = λ v sv A. let w = st.up v (of_type A) sv tt in (w.0, w.1, w.2, w.3.0);
        one_type = λ v sv. type_held (v a) ((sound t).sorted v sv a OfType st.known.0);
        rest = r;
      }
      go (ended e) = let v = (sound s).some in absurd (not_ended h e (record { val = v.0; ans = of_type flag; solved = v.1; ok = tt }))

  -- After the first form of a let, the second is run with the name bound to a scheme, which has the types that belong to the first.
  pub record Bound (s : S) (n : Name) (E : Scope) (A B : Form) (k : ℕ → Calls) (o : Outcome) (u : S) : Type 0 where
    pub at : S
    pub code_of : ℕ
    pub tree : Tree
    pub done : Done (meaning s) E A (meaning at) code_of
    pub ready : Ready K (meaning at) ((n, scheme tree) ∷ E)
    pub types : (v : Valuation) → (meaning at).state.solves v → Alike ((n, Belongs (env v E) A) ∷ env v E) (env v ((n, scheme tree) ∷ E))
    pub rest : Run meaning asked rank at (typing B ((n, scheme tree) ∷ E) k) o u

  pub let_body : (s u : S) (E : Scope) (q : Place) (n : Name) (A B : Form) (k : ℕ → Calls) (p : Place) (f l : ℕ) → Proper K (names E) (let_in q n A B) → Ready K (meaning s) E → f ≤ 15
      → (v : Valuation) → (meaning s).state.solves v → (T : Ty) → Belongs (env v E) A T
      → Run meaning asked rank s (typing (let_in q n A B) E k) (stopped p f l) u → Bound s n E A B k (stopped p f l) u
  let_body s u E q n A B k p f l pr rd h v sv T b run = go (form_passes asked (Scheme meaning rank) K A E pr.0 s u (λ x. bind x E (λ t. typing B ((n, scheme t) ∷ E) k)) (stopped p f l) run)
    where
      on : (t : S) (x : ℕ) → Run meaning asked rank s (typing A E answer) (typed x) t → Run meaning asked rank t (bind x E (λ t. typing B ((n, scheme t) ∷ E) k)) (stopped p f l) u → Bound s n E A B k (stopped p f l) u
      on t x back (looked_at {t = g} tr r) =
          let d = typing_exact K meaning asked rank follows sound looks s t E A x pr.0 rd back in
          let st = stepped K meaning asked rank follows sound looks s t E A x pr.0 rd back in
          record {
            at = t;
            code_of = x;
            tree = g;
            done = d;
            ready = ((sort_at (meaning t), classes_at (meaning t).state.opens, tree_grown K (rank t) (meaning t) E (sound t) tr OfType d.sort), ready_later K (meaning s) (meaning t) d.old d.down E rd);
            types = λ w sw. alike_push n (Belongs (env w E) A) (Types w (scheme g)) (env w E) (env w E) (scheme_types K meaning asked rank follows sound looks s t E A x g rd st tr w sw) (λ i X. (λ y. y, λ y. y));
            rest = r;
          }

      go : Through asked (Scheme meaning rank) ℕ (typing A E) (λ p f. Unit {0}) (λ s x t. Unit {0}) s (λ x. bind x E (λ t. typing B ((n, scheme t) ∷ E) k)) (stopped p f l) u → Bound s n E A B k (stopped p f l) u
      go (stops q g m y i j) = absurd ((typing_refused K meaning asked rank follows sound looks s u E A p f l pr.0 rd (j answer)).nothing h v sv T b)
      go (goes t x y back r) = on t x (back answer (typed x) t end) r

  -- Where the condition of an if has flag under some solution, the second form is run, under the solutions where it has.
  pub record Chosen (s : S) (E : Scope) (C A : Form) (v : Valuation) (o : Outcome) (u : S) : Type 0 where
    pub at : S
    pub rest_of : ℕ → Calls
    pub ready : Ready K (meaning at) E
    pub before : (w : Valuation) → (meaning at).state.solves w → (meaning s).state.solves w × Belongs (env w E) C flag
    pub some_such : (w : Valuation) × Agree (meaning s).state v w × (meaning at).state.solves w
    pub rest : Run meaning asked rank at (typing A E rest_of) o u

  pub if_second : (s u : S) (E : Scope) (q : Place) (C A B : Form) (k : ℕ → Calls) (p : Place) (f l : ℕ) → Proper K (names E) (if_then q C A B) → Ready K (meaning s) E → f ≤ 15
      → (v : Valuation) → (meaning s).state.solves v → Belongs (env v E) C flag
      → Run meaning asked rank s (typing (if_then q C A B) E k) (stopped p f l) u → Chosen s E C A v (stopped p f l) u
  if_second s u E q C A B k p f l pr rd h v sv b run =
      let one = passes s u E C (λ c. make q Flag (λ g. tell q (equate c g) (typing A E after_second))) p f l pr.0 rd h v sv flag b run in
      let w = one.done.exact.complete v flag sv b in
      made one.at one.code_of one.done one.ready w.0 w.1 w.2 w.3
      (ask_build K meaning asked rank follows sound
      (fit_build K (meaning one.at) Flag 0 0 0 none_lacked (let z = (sound s).heads in omega arith) refl (λ i. absurd (no_way i)) (λ i. absurd (no_way i))) one.rest)
    where
      after_second : ℕ → Calls
      after_second x = typing B E (λ b. tell q (equate x b) (k x))

      equated : (t : S) (c : ℕ) → Done (meaning s) E C (meaning t) c → Ready K (meaning t) E → (w : Valuation) → Agree (meaning s).state v w → (meaning t).state.solves w → w c ≡ of_type flag
          → (t2 : S) (g : ℕ) → Step (meaning t) (meaning t2) Value (λ v z. Builds Flag 0 (v 0) (v 0) z) ((g, OfType) ∷ []) (λ z. z ∷ [])
          → Res meaning asked rank t2 (Unit {0}) (λ v x. v c ≡ v g) (λ i. []) (λ x. []) (λ i. typing A E after_second) (stopped p f l) u
          → Chosen s E C A v (stopped p f l) u
      equated t c d rt w ag sw e t2 g st (went t3 i kp r) =
          let x = st.up w (of_type flag) sw refl in
          let same : x.0 c ≡ x.0 g = sym (x.1 c (OfType, d.sort)) ∙ e ∙ sym x.3.0 in
          let y = kp.up x.0 tt x.2 same in
          let old : Agree (meaning s).state v y.0 =
          λ j o. ag j o ∙ x.1 j (o.0, d.old j o.0 o.1) ∙ y.1 j (o.0, st.old j o.0 (d.old j o.0 o.1)) in
          record {
            at = t3;
            rest_of = after_second;
            ready = ready_later K (meaning t2) (meaning t3) kp.old (λ z sz. (kp.down z sz).0) E (ready_later K (meaning t) (meaning t2) st.old (λ z sz. (st.down z sz).0) E rt);
            before = λ z sz.
                let a = kp.down z sz in
                let b = st.down z a.0 in
                (d.down z b.0, d.exact.sound z b.0 flag (a.1.2 ∙ b.1.1.0 ∙ b.1.2));
            some_such = (y.0, old, y.2);
            rest = r;
          }
      equated t c d rt w ag sw e t2 g st (ended n) =
          let x = st.up w (of_type flag) sw refl in
          let same : x.0 c ≡ x.0 g = sym (x.1 c (OfType, d.sort)) ∙ e ∙ sym x.3.0 in
          absurd (not_ended h n (record { val = x.0; ans = tt; solved = x.2; ok = same }))

      made : (t : S) (c : ℕ) → Done (meaning s) E C (meaning t) c → Ready K (meaning t) E → (w : Valuation) → Agree (meaning s).state v w → (meaning t).state.solves w → w c ≡ of_type flag
          → Res meaning asked rank t Value (λ v z. Builds Flag 0 (v 0) (v 0) z) (λ c. (c, OfType) ∷ []) (λ z. z ∷ []) (λ g. tell q (equate c g) (typing A E after_second)) (stopped p f l) u
          → Chosen s E C A v (stopped p f l) u
      made t c d rt w ag sw e (went t2 g st r) =
          equated t c d rt w ag sw e t2 g st (ask_equate K meaning asked rank follows sound (equal K (meaning t2) c g (st.old c OfType d.sort) st.known.0) r)
      made t c d rt w ag sw e (ended n) = absurd (not_ended h n (record { val = w; ans = of_type flag; solved = sw; ok = refl }))
