-- Where the refused cases stop: at the calls that have no type.
use Rattle.std.proofs.Common.{◌≡◌, ℕ, ◌≤◌, true, ◌∷◌, pos, codes, sym, refl, ap, ◌∙◌, arith}
use Rattle.ground.specs.Values.{Ty, whole, flag, to, of_type}
use Rattle.ground.specs.Names.{Name}
use Rattle.ground.specs.Forms.{Form, name, number, truth}
use Rattle.ground.specs.Belongs.{Env, Alike, Belongs, built_in}
use Rattle.ground.specs.declared.place.Place.{Place}
use Rattle.ground.specs.declared.sort.Sort.TheVariants.{«Type» as OfType}
use Rattle.ground.proofs.Belonging.{alike_push, alike_sym, belongs_alike}
use Rattle.script.specs.Faults.{span}
use Rattle.system.specs.Meaning.{Kind, Valuation, Meaning, Sound, Known}
use Rattle.system.specs.Requests.{Request, Reply}
use Rattle.system.specs.Replies.{Looks}
use Rattle.system.specs.Follows.{Follows}
use Rattle.engine.specs.Trees.{code, scheme, Scope, env}
use Rattle.engine.specs.Calls.{answer, typing}
use Rattle.engine.specs.Runs.{stopped, Nothing}
use Rattle.engine.specs.Scopes.{Ready}
use Rattle.engine.specs.Builtins.{built_in_scope}
use Rattle.engine.proofs.Steps.{Run}
use Rattle.engine.proofs.Builtins.{built_in_alike, built_in_ready}
use Rattle.engine.proofs.WhereStopped.{Inside, Bound, Chosen, fun_body, let_body, if_second, fails, call_place}
use Rattle.cases.specs.Scripts.{self_call, self, flag_call, number_call, twice_choice, twice_let, twice, negated, less_call, hold_call, held_choice, held}
use Rattle.cases.specs.Cases.{given}
use Rattle.cases.proofs.Belonging.{type_inj, from_inj, flag_whole, self_none, hold_none}

-- The built-in names, and one more with a code.
abbrev E₀ : Scope
E₀ = built_in_scope true

abbrev with_code : Name → ℕ → Scope
with_code n a = (n, code a) ∷ E₀

-- Under a valuation they have the types of the built-in names, and of one more with the type that its code has.
at_root : (v : Valuation) (e : Form) (T : Ty) → Belongs (built_in true) e T → Belongs (env v E₀) e T
at_root v e T h = belongs_alike e (built_in true) (env v E₀) (alike_sym (env v E₀) (built_in true) (built_in_alike true v)) T h

one_more : (v : Valuation) (n : Name) (a : ℕ) (A : Ty) → v a ≡ of_type A → Alike (env v (with_code n a)) (given n A)
one_more v n a A e =
    alike_push n (λ X. v a ≡ of_type X) (λ X. X ≡ A) (env v E₀) (built_in true) (λ X. (λ h. type_inj (sym h ∙ e), λ h. e ∙ ap of_type (sym h))) (built_in_alike true v)

out_of : (v : Valuation) (n : Name) (a : ℕ) (A : Ty) → v a ≡ of_type A → (e : Form) (T : Ty) → Belongs (env v (with_code n a)) e T → Belongs (given n A) e T
out_of v n a A q e T h = belongs_alike e (env v (with_code n a)) (given n A) (one_more v n a A q) T h

into : (v : Valuation) (n : Name) (a : ℕ) (A : Ty) → v a ≡ of_type A → (e : Form) (T : Ty) → Belongs (given n A) e T → Belongs (env v (with_code n a)) e T
into v n a A q e T h = belongs_alike e (given n A) (env v (with_code n a)) (alike_sym (env v (with_code n a)) (given n A) (one_more v n a A q)) T h

module _ {S : Type 0} (K : Kind) (meaning : S → Meaning) (asked : S → Request → Reply → S → Type 0) (rank : S → ℕ → ℕ)
    (follows : (s t : S) (q : Request) (r : Reply) → asked s q r t → Follows K (meaning s) q r (meaning t))
    (sound : (s : S) → Sound K (meaning s))
    (looks : (s : S) (c : ℕ) → Known (meaning s).state c → Looks (rank s) (meaning s) c)
    (classes : K.classes ≡ 0 → ⊥)
    (s u : S) (p : Place) (f l : ℕ) (low : f ≤ 15) where
  ready : Ready K (meaning s) E₀
  ready = built_in_ready K (let z = (sound s).heads in omega arith) (meaning s) true (λ e. classes)

  pub negated_place : Run meaning asked rank s (typing negated E₀ answer) (stopped p f l) u → p ≡ span 0 14
  negated_place run =
      let v = (sound s).some in
      call_place K meaning asked rank follows sound looks s u E₀ (span 0 14) (name (span 6 3) (codes "neg")) (truth (span 10 3) true) p f l (refl, tt) ready low v.0 v.1
      (to whole whole) (at_root v.0 (name (span 6 3) (codes "neg")) (to whole whole) (whole, tt, refl)) flag refl run

  pub self_place : Run meaning asked rank s (typing self E₀ answer) (stopped p f l) u → p ≡ span 7 10
  self_place run = go (fun_body K meaning asked rank follows sound looks s u E₀ (span 0 18) (codes "f") self_call p f l ready low run)
    where
      go : Inside K meaning asked rank follows sound looks s (codes "f") E₀ self_call (stopped p f l) u → p ≡ span 7 10
      go i =
          let a = i.code_of in
          let E = with_code (codes "f") a in
          let non : Nothing (meaning i.at) E self_call = λ v sv T h. let A = i.one_type v sv in self_none A.0 T (out_of v (codes "f") a A.0 A.1 self_call T h) in
          let v = (sound i.at).some in
          let A = i.one_type v.0 v.1 in
          call_place K meaning asked rank follows sound looks i.at u E (span 7 10) (name (span 13 1) (codes "f")) (name (span 15 1) (codes "f")) p f l (refl, refl) i.ready low v.0 v.1
          A.0 A.1 A.0 A.1
          (fails K meaning asked rank follows sound looks i.at u E self_call i.rest_of p f l (refl, refl) i.ready non i.rest)

  pub held_place : Run meaning asked rank s (typing held E₀ answer) (stopped p f l) u → p ≡ span 34 13
  held_place run = go (fun_body K meaning asked rank follows sound looks s u E₀ (span 0 51) (codes "p") held_choice p f l ready low run)
    where
      on : (i : Inside K meaning asked rank follows sound looks s (codes "p") E₀ held_choice (stopped p f l) u) (v : Valuation)
          → Chosen K meaning asked rank follows sound looks i.at (with_code (codes "p") i.code_of) less_call hold_call v (stopped p f l) u → p ≡ span 34 13
      on i v c =
          let a = i.code_of in
          let E = with_code (codes "p") a in
          let non : Nothing (meaning c.at) E hold_call =
          λ z sz T h.
          let b = c.before z sz in
          let A = i.one_type z b.0 in
          hold_none A.0 (out_of z (codes "p") a A.0 A.1 less_call flag b.1) T (out_of z (codes "p") a A.0 A.1 hold_call T h) in
          let w = c.some_such in
          let A = i.one_type w.0 (c.before w.0 w.2).0 in
          call_place K meaning asked rank follows sound looks c.at u E (span 34 13) (name (span 40 4) (codes "hold")) (name (span 45 1) (codes "p")) p f l (refl, refl) c.ready low w.0 w.2
          (to flag flag) (into w.0 (codes "p") a A.0 A.1 (name (span 40 4) (codes "hold")) (to flag flag) (flag, tt, refl)) A.0 A.1
          (fails K meaning asked rank follows sound looks c.at u E hold_call c.rest_of p f l (refl, refl) c.ready non c.rest)

      go : Inside K meaning asked rank follows sound looks s (codes "p") E₀ held_choice (stopped p f l) u → p ≡ span 34 13
      go i =
          let a = i.code_of in
          let v = (sound s).some in
          let w = i.any_type v.0 v.1 whole in
          on i w.0
          (if_second K meaning asked rank follows sound looks i.at u (with_code (codes "p") a) (span 7 43) less_call hold_call (name (span 48 1) (codes "p")) i.rest_of p f l
          (((refl, refl), refl), (refl, refl), refl) i.ready low w.0 w.2
          (into w.0 (codes "p") a whole w.3 less_call flag (whole, (whole, (whole, tt, refl), refl), refl)) i.rest)

  pub twice_place : Run meaning asked rank s (typing twice E₀ answer) (stopped p f l) u → p ≡ span 33 10
  twice_place run = go (fun_body K meaning asked rank follows sound looks s u E₀ (span 0 48) (codes "f") twice_let p f l ready low run)
    where
      -- The scope of the choice: g is bound to the scheme of f, which has the one type of f's code.
      on : (i : Inside K meaning asked rank follows sound looks s (codes "f") E₀ twice_let (stopped p f l) u)
          (b : Bound K meaning asked rank follows sound looks i.at (codes "g") (with_code (codes "f") i.code_of) (name (span 14 1) (codes "f")) twice_choice i.rest_of (stopped p f l) u)
          (v : Valuation)
          → Chosen K meaning asked rank follows sound looks b.at ((codes "g", scheme b.tree) ∷ with_code (codes "f") i.code_of) flag_call number_call v (stopped p f l) u → p ≡ span 33 10
      on i b v c =
          let a = i.code_of in
          let E = (codes "g", scheme b.tree) ∷ with_code (codes "f") a in
          let F : Valuation → Env = λ z. (codes "g", Belongs (env z (with_code (codes "f") a)) (name (span 14 1) (codes "f"))) ∷ env z (with_code (codes "f") a) in
          let non : Nothing (meaning c.at) E number_call =
          λ z sz T h.
          let d = c.before z sz in
          let al = alike_sym (F z) (env z E) (b.types z d.0) in
          let x = belongs_alike flag_call (env z E) (F z) al flag d.1 in
          let y = belongs_alike number_call (env z E) (F z) al T h in
          flag_whole (sym x.2 ∙ from_inj (type_inj (sym x.1 ∙ y.1)) ∙ y.2) in
          let w = c.some_such in
          let d = (c.before w.0 w.2).0 in
          let A = i.one_type w.0 (b.done.down w.0 d) in
          call_place K meaning asked rank follows sound looks c.at u E (span 33 10) (name (span 39 1) (codes "g")) (number (span 41 1) (pos 10)) p f l (refl, tt) c.ready low w.0 w.2
          A.0 (belongs_alike (name (span 39 1) (codes "g")) (F w.0) (env w.0 E) (b.types w.0 d) A.0 A.1) whole refl
          (fails K meaning asked rank follows sound looks c.at u E number_call c.rest_of p f l (refl, tt) c.ready non c.rest)

      chosen : (i : Inside K meaning asked rank follows sound looks s (codes "f") E₀ twice_let (stopped p f l) u)
          → Bound K meaning asked rank follows sound looks i.at (codes "g") (with_code (codes "f") i.code_of) (name (span 14 1) (codes "f")) twice_choice i.rest_of (stopped p f l) u → p ≡ span 33 10
      chosen i b =
          let a = i.code_of in
          let E = (codes "g", scheme b.tree) ∷ with_code (codes "f") a in
          let v = (sound s).some in
          let w = i.any_type v.0 v.1 (to flag flag) in
          let x = b.done.exact.complete w.0 (to flag flag) w.2 w.3 in
          let e : x.0 a ≡ of_type (to flag flag) = sym (x.1 a (OfType, i.ready.0)) ∙ w.3 in
          let F = (codes "g", Belongs (env x.0 (with_code (codes "f") a)) (name (span 14 1) (codes "f"))) ∷ env x.0 (with_code (codes "f") a) in
          on i b x.0
          (if_second K meaning asked rank follows sound looks b.at u E (span 16 30) flag_call number_call (number (span 44 1) (pos 20)) i.rest_of p f l
          ((refl, tt), (refl, tt), tt) b.ready low x.0 x.2
          (belongs_alike flag_call F (env x.0 E) (b.types x.0 x.2) flag (flag, e, refl)) b.rest)

      go : Inside K meaning asked rank follows sound looks s (codes "f") E₀ twice_let (stopped p f l) u → p ≡ span 33 10
      go i =
          let v = (sound i.at).some in
          let A = i.one_type v.0 v.1 in
          chosen i
          (let_body K meaning asked rank follows sound looks i.at u (with_code (codes "f") i.code_of) (span 7 40) (codes "g") (name (span 14 1) (codes "f")) twice_choice i.rest_of p f l
          (refl, ((refl, tt), (refl, tt), tt)) i.ready low v.0 v.1 A.0 A.1 i.rest)
