-- The end of the loop: where it denies, all is undone.
use Rattle.std.proofs.Common.{◌≡◌, ℕ, ◌+◌, ◌≤◌, List, [], ◌∷◌, ◌++◌, length, take, drop, sym, refl, ap, ◌∙◌, subst, subst₂, ap₂, arith, length-append, Ok, Err}
use Rattle.cells.specs.declared.What.TheVariants.{Leaf}
use Rattle.cells.specs.declared.Cell.{Cell}
use Rattle.cells.specs.declared.Pair.{Pair}
use Rattle.cells.specs.Steps.{pair, Never}
use Rattle.cells.proofs.Chains.{known}
use Rattle.unifier.specs.declared.undo.Undo.{Undo}
use Rattle.unifier.specs.Trails.{Since, Roomy, rewound}
use Rattle.unifier.specs.Fine.{Fine}
use Rattle.unifier.specs.Turns.{Left, Ran, trees}
use Rattle.unifier.specs.Settled.{Settled}
use Rattle.unifier.proofs.Trailing.{since_back}
use Rattle.unifier.specs.declared.misfit.Misfit.{Misfit}
use Rattle.unifier.specs.declared.misfit.Misfit.TheVariants.{Clash, Full}
use Rattle.cells.specs.declared.Bare.TheVariants.{Absent}

pub undone : (cs es ds : List (Cell ℕ)) (tr us ts : List Undo) (n m : ℕ) → Since cs tr es us → n ≡ length cs → m ≡ length tr → ds ≡ take n (rewound es (drop m us)) → ts ≡ take m us → (ds ≡ cs) × (ts ≡ tr)
undone cs es ds tr us ts n m s en em ed et =
    let b = since_back cs es tr us s in (
      ed ∙ ap₂ (λ (i j : ℕ). take i (rewound es (drop j us))) en em ∙ b.0,
      et ∙ ap (λ (j : ℕ). take j us) em ∙ b.1,
    )

-- and there is room again
pub undone_room : (cs es : List (Cell ℕ)) (tr us : List Undo) (n m : ℕ) → Since cs tr es us → n ≡ length cs → m ≡ length tr → Roomy cs tr → Roomy (take n (rewound es (drop m us))) (take m us)
undone_room cs es tr us n m s en em h =
    let u = undone cs es (take n (rewound es (drop m us))) tr us (take m us) n m s en em refl refl in
    subst₂ (λ (x : List (Cell ℕ)) (y : List Undo). Roomy x y) (sym u.0) (sym u.1) h

-- the one pair at the start, and the slots that all turns ask for
pub first : (fs gs hs : List (Pair ℕ)) (p : Pair ℕ) → fs ≡ [] → gs ≡ [] → hs ≡ p ∷ gs → fs ++ hs ≡ p ∷ []
first fs gs hs p ef eg eh = ap (λ (x : List (Pair ℕ)). x ++ hs) ef ∙ eh ∙ ap (λ (x : List (Pair ℕ)). p ∷ x) eg

pub first_slots : (limit : ℕ) (cs : List (Cell ℕ)) (fs hs : List (Pair ℕ)) (p : Pair ℕ) (room : ℕ) → Fine cs → length cs ≤ limit → fs ++ hs ≡ p ∷ [] → fs ≡ [] → limit + 2 ≤ room → length hs + 1 + trees limit cs ≤ room
first_slots limit cs fs hs p room f l e ef h = omega (arith, l, length-append fs hs, ap length e, ap length ef, f.formed.ranks 0 (known cs 0 (Leaf Absent) f.absent refl), h)

pub settled_done : (limit : ℕ) (cs ds : List (Cell ℕ)) (tr ts : List Undo) (a b : ℕ) (ps : List (Pair ℕ)) → ps ≡ pair a b ∷ [] → Left 0 cs ps ds [] → Since cs tr ds ts → Settled limit cs tr a b (Ok tt) ds ts
settled_done limit cs ds tr ts a b ps ep l s = (subst (λ (x : List (Pair ℕ)). Left 0 cs x ds []) ep l, s)

pub settled_err : (limit : ℕ) (cs es ds : List (Cell ℕ)) (tr us ts : List Undo) (a b : ℕ) (m : Misfit) (ps : List (Pair ℕ)) → ps ≡ pair a b ∷ [] → Ran limit cs ps (Err m) es → Since cs tr es us → (ds ≡ cs) × (ts ≡ tr) → Settled limit cs tr a b (Err m) ds ts
settled_err limit cs es ds tr us ts a b Clash ps ep n s u = (subst (Never cs) ep n, u.0, u.1)
settled_err limit cs es ds tr us ts a b Full ps ep n s u = ((es, us, s, n), u.0, u.1)
