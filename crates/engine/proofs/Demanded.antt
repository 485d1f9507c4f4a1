-- A variable of a scheme, as a piece of a run: a fresh code, and its classes demanded at once.
use Rattle.std.proofs.Common.{◌≡◌, ℕ, zero, suc, ◌/◌, ◌%◌, ◌^◌, ◌≤◌, Bool, true, false, eqb, leb, [], ◌∷◌, sym, refl, ap, ◌∙◌, subst, arith, lit≤, eqb-true, le-leb}
use mathlib.Core.Option.{some}
use borrow.Author.Tests.{eqb-false}
use Rattle.ground.specs.Values.{Ty, Value, of_type, of_field, of_row}
use Rattle.ground.specs.Sorts.{Of}
use Rattle.ground.specs.Classes.{InClass, Asked, Allowed}
use Rattle.ground.specs.declared.place.Place.{Place}
use Rattle.ground.specs.declared.sort.Sort.{Sort}
use Rattle.ground.specs.declared.sort.Sort.TheVariants.{«Type» as OfType}
use Rattle.ground.specs.declared.classes.Classes.{Classes}
use Rattle.system.specs.Meaning.{Kind, Valuation, Meaning, Sound, knows_sort}
use Rattle.system.specs.Requests.{Request, fresh, Reply, is_of}
use Rattle.system.specs.Follows.{Follows, Within}
use Rattle.system.proofs.Takes.{both_of, of_is}
use Rattle.engine.specs.Calls.{Calls, ask, demand_if, demand_in, demands}
use Rattle.engine.specs.Runs.{Outcome}
use Rattle.engine.proofs.Steps.{Claim, begin, ends_map, Run, Res, went, ended, after, finish}
use Rattle.engine.proofs.Asks.{ask_fresh, ask_demand}

-- Classes allow a value when each that is asked has it.
allowed_within : (s : Classes) (x : Value) (j : ℕ) → Allowed s x → Asked j s → (t : Ty) × (x ≡ of_type t) × InClass j t
allowed_within s (of_type t) j a h = (t, refl, a j h)
allowed_within s (of_field f) j a h = absurd (a j h)
allowed_within s (of_row r) j a h = absurd (a j h)

within_allowed : (s : Classes) (x : Value) → ((j : ℕ) → Asked j s → (t : Ty) × (x ≡ of_type t) × InClass j t) → Allowed s x
within_allowed s (of_type t) f = λ j a. let z = f j a in let e = z.1 in let q : z.0 ≡ t = cc in subst (InClass j) q z.2
within_allowed s (of_field r) f = λ j a. let z = f j a in let e = z.1 in let y : ◌≡◌ {A = ℕ} 0 1 = cc in omega arith
within_allowed s (of_row r) f = λ j a. let z = f j a in let e = z.1 in let y : ◌≡◌ {A = ℕ} 0 1 = cc in omega arith

four : (P : ℕ → Type 0) → P 0 → P 1 → P 2 → P 3 → (j : ℕ) → j ≤ 3 → P j
four P a b c d zero l = a
four P a b c d (suc zero) l = b
four P a b c d (suc (suc zero)) l = c
four P a b c d (suc (suc (suc zero))) l = d
four P a b c d (suc (suc (suc (suc j)))) l = absurd (omega arith)

module _ {S : Type 0} (K : Kind) (meaning : S → Meaning) (asked : S → Request → Reply → S → Type 0) (rank : S → ℕ → ℕ)
    (follows : (s t : S) (q : Request) (r : Reply) → asked s q r t → Follows K (meaning s) q r (meaning t))
    (sound : (s : S) → Sound K (meaning s)) where
  -- A class is demanded, if it is in the set.
  ask_class : {s u : S} {k : Calls} {out : Outcome} (p : Place) (x : Classes) (n c : ℕ) → n ≤ 3 → (Asked n x → ((meaning s).state.sort_of c ≡ some OfType) × (K.classes ≡ 0 → ⊥))
      → Run meaning asked rank s (demand_in p x c n k) out u
      → Res meaning asked rank s (Unit {0}) (λ v a. Asked n x → Within n c v) (λ c. []) (λ a. []) (λ c. k) out u
  ask_class {s} {u} {k} {out} p x n c n3 f run = go (eqb ((x.0 / 2 ^ n) % 2) 1) refl run
    where
      widen : Asked n x → Res meaning asked rank s (Unit {0}) (λ v a. Within n c v) (λ c. []) (λ a. []) (λ c. k) out u → Res meaning asked rank s (Unit {0}) (λ v a. Asked n x → Within n c v) (λ c. []) (λ a. []) (λ c. k) out u
      widen h (went t d e r) = went t d (record {
        old = e.old;
        known = tt;
        down = λ v y. let z = e.down v y in (z.0, (tt, tt, λ q. z.1.2));
        up = λ v a y w. e.up v a y (w h);
      }) r
      widen h (ended e) = ended (ends_map (λ q. record { val = q.val; ans = tt; solved = q.solved; ok = q.ok h }) e)

      go : (b : Bool) → eqb ((x.0 / 2 ^ n) % 2) 1 ≡ b → Run meaning asked rank s (demand_if b p c n k) out u
          → Res meaning asked rank s (Unit {0}) (λ v a. Asked n x → Within n c v) (λ c. []) (λ a. []) (λ c. k) out u
      go true e r =
          let h : Asked n x = eqb-true ((x.0 / 2 ^ n) % 2) 1 e in
          widen h (ask_demand K meaning asked rank follows sound (f h).1 (both_of (leb n 3) (is_of ((meaning s).state.sort_of c) OfType) (le-leb n 3 n3) (of_is ((meaning s).state.sort_of c) OfType (f h).0)) r)
      go false e r = went s 0 (record {
        old = λ d o q. q;
        known = tt;
        down = λ v y. (y, (tt, tt, λ q. absurd (eqb-false ((x.0 / 2 ^ n) % 2) 1 e q)));
        up = λ v a y w. (v, λ d q. refl, y, tt);
      }) r

  -- A fresh code with its classes.
  pub ask_variable : {s u : S} {p : Place} {k : ℕ → Calls} {out : Outcome} (o : Sort) (x : Classes)
      → knows_sort K o ≡ true → ((j : ℕ) → Asked j x → (j ≤ 3) × (o ≡ OfType) × (K.classes ≡ 0 → ⊥))
      → Run meaning asked rank s (ask p (fresh o) (λ c. demands p x c (k c))) out u
      → Res meaning asked rank s Value (λ v y. Of o y × Allowed x y) (λ c. (c, o) ∷ []) (λ y. y ∷ []) k out u
  ask_variable {s} {u} {p} {k} {out} o x ko cl run =
      after meaning asked rank (begin (meaning s) Value (λ v y. Of o y × Allowed x y)) (ask_fresh K meaning asked rank follows sound ko run) (λ h. h.ans) (λ h w sw nw ag mt. h.ok.0) λ t c e st r.
      after meaning asked rank st (ask_class p x 0 c (lit≤ tt) (λ a. (st.known.0 ∙ ap some (cl 0 a).1, (cl 0 a).2)) r) (λ h. tt) (λ h w sw nw ag mt. within 0 c h w mt.0) λ t1 c1 e1 st1 r1.
      after meaning asked rank st1 (ask_class p x 1 c (lit≤ tt) (λ a. (st1.known.0 ∙ ap some (cl 1 a).1, (cl 1 a).2)) r1) (λ h. tt) (λ h w sw nw ag mt. within 1 c h w mt.0) λ t2 c2 e2 st2 r2.
      after meaning asked rank st2 (ask_class p x 2 c (lit≤ tt) (λ a. (st2.known.0 ∙ ap some (cl 2 a).1, (cl 2 a).2)) r2) (λ h. tt) (λ h w sw nw ag mt. within 2 c h w mt.0) λ t3 c3 e3 st3 r3.
      after meaning asked rank st3 (ask_class p x 3 c (lit≤ tt) (λ a. (st3.known.0 ∙ ap some (cl 3 a).1, (cl 3 a).2)) r3) (λ h. tt) (λ h w sw nw ag mt. within 3 c h w mt.0) λ t4 c4 e4 st4 r4.
      finish meaning asked rank st4 c st4.known
      (λ v sv j. (
        v c,
        (refl, tt),
        (
          subst (Of o) (sym j.1.1.1.1.0.is.0) j.1.1.1.1.0.ok,
          within_allowed x (v c) (λ n a. four (λ i. Asked i x → Within i c v) j.1.1.1.0.ok j.1.1.0.ok j.1.0.ok j.0.ok n (cl n a).0 a),
        ),
      ))
      (λ h w mt. mt)
      r4
    where
      within : (n c : ℕ) (h : Claim (meaning s) Value (λ v y. Of o y × Allowed x y)) (w : Valuation) → w c ≡ h.ans → Asked n x → Within n c w
      within n c h w e a = let z = allowed_within x h.ans n h.ok.1 a in (z.0, e ∙ z.1, z.2)
