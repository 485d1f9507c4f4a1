-- Where an answer is Ok, each part of it was.
use Rattle.std.proofs.Common.{◌≡◌, ℕ, Bool, true, false, cond, Ok, Err, refl, ap, arith}
use Rattle.script.specs.declared.fault.ReadFault.{ReadFault}
use Rattle.script.specs.Faults.{Out}
use Rattle.script.specs.Reads.{then}

pub err_ok : {A : Type 0} (e : ReadFault) (y : A) → ◌≡◌ {A = Out A} (Err e) (Ok y) → ⊥
err_ok e y h = let z : ◌≡◌ {A = ℕ} 0 1 = cc in omega arith

pub same_ok : {A : Type 0} (x y : A) → ◌≡◌ {A = Out A} (Ok x) (Ok y) → x ≡ y
same_ok x y h = cc

pub same_err : {A : Type 0} (e f : ReadFault) → ◌≡◌ {A = Out A} (Err e) (Err f) → e ≡ f
same_err e f h = cc

pub then_ok : {A B : Type 0} (o : Out A) (k : A → Out B) (y : B) → then o k ≡ Ok y → (x : A) × (o ≡ Ok x) × (k x ≡ Ok y)
then_ok (Ok x) k y h = (x, refl, h)
then_ok (Err e) k y h = absurd (err_ok e y h)

pub cond_ok : {A : Type 0} (b : Bool) (o : Out A) (e : ReadFault) (y : A) → cond b o (Err e) ≡ Ok y → (b ≡ true) × (o ≡ Ok y)
cond_ok true o e y h = (refl, h)
cond_ok false o e y h = absurd (err_ok e y h)

pub else_ok : {A : Type 0} (b : Bool) (e : ReadFault) (o : Out A) (y : A) → cond b (Err e) o ≡ Ok y → (b ≡ false) × (o ≡ Ok y)
else_ok true e o y h = absurd (err_ok e y h)
else_ok false e o y h = (refl, h)

pub then_is : {A B : Type 0} (o : Out A) (k : A → Out B) (x : A) → o ≡ Ok x → then o k ≡ k x
then_is {A} o k x e = ap (λ (v : Out A). then v k) e
