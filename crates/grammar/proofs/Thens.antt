-- Equations between answers that go on.
use Rattle.std.proofs.Common.{◌≡◌, Bool, true, false, cond, not, Ok, Err, refl, ap}
use Rattle.script.specs.declared.fault.ReadFault.{ReadFault}
use Rattle.script.specs.Faults.{Out}
use Rattle.script.specs.Reads.{then}

pub then_then : {A B C : Type 0} (o : Out A) (k : A → Out B) (j : B → Out C) → then (then o k) j ≡ then o (λ x. then (k x) j)
then_then (Ok x) k j = refl
then_then (Err e) k j = refl

pub then_same : {A B : Type 0} (o : Out A) (k j : A → Out B) → ((x : A) → o ≡ Ok x → k x ≡ j x) → then o k ≡ then o j
then_same (Ok x) k j h = h x refl
then_same (Err e) k j h = refl

pub then_cond :
    {A B C : Type 0} (v : Bool) (o : Out A) (u : Out B) (e : ReadFault) (k : A → Out C) (j : B → Out C)
    → (v ≡ true → then o k ≡ then u j)
    → then (cond v o (Err e)) k ≡ then (cond v u (Err e)) j
then_cond true o u e k j h = h refl
then_cond false o u e k j h = refl

pub then_on : {A B : Type 0} (v : Bool) (o u : Out A) (k : A → Out B) → v ≡ true → then (cond v o u) k ≡ then o k
then_on {A} v o u k e = ap (λ (t : Bool). then (cond t o u) k) e

pub then_off : {A B : Type 0} (v : Bool) (o u : Out A) (k : A → Out B) → v ≡ false → then (cond v o u) k ≡ then u k
then_off {A} v o u k e = ap (λ (t : Bool). then (cond t o u) k) e

pub then_not :
    {A B C : Type 0} (v : Bool) (o : Out A) (u : Out B) (e : ReadFault) (k : A → Out C) (j : B → Out C)
    → then o k ≡ then u j
    → then (cond (not v) o (Err e)) k ≡ then (cond v (Err e) u) j
then_not true o u e k j h = refl
then_not false o u e k j h = h
