-- Which sets of classes have a member.
use Rattle.std.proofs.Common.{◌≡◌, ℕ, zero, suc, ◌/◌, ◌%◌, ◌^◌, ◌<◌, ◌≤◌, Bool, true, false, not, ◌&&◌, ◌||◌, ◌↔◌, sym, refl, ap, ◌∙◌, arith, pow_mono, eq-eqb, eqb-true}
use native.Mathlib.Nat.{div-eq_of_lt}
use Rattle.ground.specs.Values.{Ty, whole, tenth, flag, to, list, record_of, of_type}
use Rattle.ground.specs.Classes.{Num, Ord, Steady, Asked, Allowed}
use Rattle.ground.specs.Members.{asks, compatible, HasMember}
use Rattle.ground.specs.declared.classes.Classes.{Classes}
use Rattle.ground.proofs.Built.{no_way}

-- steady has no type of num, and none of ord
no_num : (t : Ty) → Steady t → Num t → ⊥
no_num whole s n = s
no_num tenth s n = s
no_num flag s n = n
no_num (to a b) s n = n
no_num (list a) s n = n
no_num (record_of r) s n = n

no_ord : (t : Ty) → Steady t → Ord t → ⊥
no_ord whole s n = s
no_ord tenth s n = s
no_ord flag s n = n
no_ord (to a b) s n = n
no_ord (list a) s n = no_ord a s n
no_ord (record_of r) s n = n

-- only the four classes are asked
four : (s : Classes) (k : ℕ) → s.0 < 16 → Asked (suc (suc (suc (suc k)))) s → ⊥
four s k b h =
    let p : 2 ^ 4 ≤ 2 ^ suc (suc (suc (suc k))) = let q : 4 ≤ suc (suc (suc (suc k))) = omega arith in pow_mono q in
    let z : s.0 / 2 ^ suc (suc (suc (suc k))) ≡ 0 = div-eq_of_lt (omega arith) in
    let y : 0 % 2 ≡ 1 = ap (λ x. x % 2) (sym z) ∙ h in
    omega arith

-- without steady whole is a member, without num and ord flag
whole_member : (s : Classes) → s.0 < 16 → (Asked 3 s → ⊥) → Allowed s (of_type whole)
whole_member s b n zero h = tt
whole_member s b n (suc zero) h = tt
whole_member s b n (suc (suc zero)) h = tt
whole_member s b n (suc (suc (suc zero))) h = n h
whole_member s b n (suc (suc (suc (suc k)))) h = four s k b h

flag_member : (s : Classes) → s.0 < 16 → (Asked 0 s → ⊥) → (Asked 1 s → ⊥) → Allowed s (of_type flag)
flag_member s b n o zero h = n h
flag_member s b n o (suc zero) h = o h
flag_member s b n o (suc (suc zero)) h = tt
flag_member s b n o (suc (suc (suc zero))) h = tt
flag_member s b n o (suc (suc (suc (suc k)))) h = four s k b h

asked_not : (k : ℕ) (s : Classes) → asks k s ≡ false → Asked k s → ⊥
asked_not k s e h = no_way (sym e ∙ eq-eqb ((s.0 / 2 ^ k) % 2) 1 h)

chosen : (s : Classes) → s.0 < 16 → (a b c : Bool) → asks 3 s ≡ a → asks 0 s ≡ b → asks 1 s ≡ c → not (a && (b || c)) ≡ true → HasMember s
chosen s l false b c p q r e = (whole, whole_member s l (asked_not 3 s p))
chosen s l true true c p q r e = absurd (no_way e)
chosen s l true false true p q r e = absurd (no_way e)
chosen s l true false false p q r e = (flag, flag_member s l (asked_not 0 s q) (asked_not 1 s r))

clear : (s : Classes) (t : Ty) → Allowed s (of_type t) → (a b c : Bool) → asks 3 s ≡ a → asks 0 s ≡ b → asks 1 s ≡ c → not (a && (b || c)) ≡ true
clear s t h false b c p q r = refl
clear s t h true true c p q r = absurd (no_num t (h 3 (eqb-true ((s.0 / 2 ^ 3) % 2) 1 p)) (h 0 (eqb-true ((s.0 / 2 ^ 0) % 2) 1 q)))
clear s t h true false true p q r = absurd (no_ord t (h 3 (eqb-true ((s.0 / 2 ^ 3) % 2) 1 p)) (h 1 (eqb-true ((s.0 / 2 ^ 1) % 2) 1 r)))
clear s t h true false false p q r = refl

pub compatible_members : (s : Classes) → s.0 < 16 → (HasMember s ↔ (compatible s ≡ true))
compatible_members s l = (λ m. clear s m.0 m.1 (asks 3 s) (asks 0 s) (asks 1 s) refl refl refl, chosen s l (asks 3 s) (asks 0 s) (asks 1 s) refl refl refl)
