-- A solver as a constraint system.
use Rattle.std.specs.Prelude.{◌≡◌, ℕ, zero, suc, ◌+◌, ◌-◌, ◌*◌, ◌<◌, ◌≤◌, max, ◌⊎◌, List, [], ◌∷◌, ◌++◌, length, Ok, Err, vec_items, Result, ◌≢◌}
use Rattle.ground.specs.Depths.{Agree}
use Rattle.ground.specs.declared.code.Code.{Code}
use Rattle.ground.specs.declared.sort.Sort.{Sort}
use Rattle.system.specs.Meaning.{Valuation, Meaning, New}
use Rattle.system.specs.declared.fault.SystemFault.{SystemFault}
use Rattle.system.specs.declared.fault.SystemFault.TheVariants.{NoClasses, Clash, Cyclic, NoCells, Unknown, TooManyMarks}
use Rattle.system.specs.Requests.{Request, Reply}
use Rattle.system.specs.Follows.{Follows}
use Rattle.system.specs.Replies.{kind_of}
use Rattle.system.specs.declared.fault.NewFault.{NewFault}
use Rattle.system.specs.declared.fault.NewFault.TheVariants.{Capacity, Memory}
use Rattle.cells.specs.declared.What.{What}
use Rattle.cells.specs.declared.What.TheVariants.{Open, Link, Leaf, One, Two, Row as RowAt}
use Rattle.cells.specs.declared.Cell.{Cell}
use Rattle.cells.specs.Cells.{what_at}
use Rattle.unifier.specs.declared.solver.Solver.{Solver}
use Rattle.unifier.specs.Fine.{cell_of}
use Rattle.unifier.specs.Settled.{FullAfter}
use Rattle.unifier.specs.States.{meaning_of, Good}
use Rattle.unifier.specs.Views.{code}

-- What a solver means; one cell is its own and no part of its capacity.
abbrev pub means : (h : ℕ) → Solver h → Meaning
means h s = meaning_of (s.store.limit - 1) s.calls (vec_items s.store.cells) (vec_items s.store.trail) (vec_items s.saved)

-- What holds between calls, with h heads known.
abbrev pub sure : (h : ℕ) → Solver h → Type 0
sure h s = Good h (s.store.limit - 1) s.calls (vec_items s.store.cells) (vec_items s.store.trail) (vec_items s.saved)

-- What it answered, and the state that this led to.
abbrev pub asks : (h : ℕ) → Solver h → Request → Reply → Solver h → Type 0
asks h s q r t = Follows (kind_of h 0) (means h s) q r (means h t) × sure h t

-- How many heads and links can follow one another from a cell of this form, by what can from the others.
abbrev pub taller : (ℕ → ℕ) → What ℕ → ℕ
taller f Open = 0
taller f (Link p) = suc (f p)
taller f (Leaf h) = 1
taller f (One h x) = suc (f x)
taller f (Two x y) = suc (max (f x) (f y))
taller f (RowAt l x y) = suc (max (f x) (f y))

-- The same, by so many steps.
abbrev pub height : List (Cell ℕ) → ℕ → ℕ → ℕ
height cs zero c = 0
height cs (suc m) c = taller (height cs m) (what_at cs c)

-- The rank of a code.
abbrev pub ranks : (h : ℕ) → Solver h → ℕ → ℕ
ranks h s c = height (vec_items s.store.cells) s.store.limit c

-- A solver of this capacity is built new; it is refused when the capacity is outside 16 to 4,096, and only then, but for want of memory.
abbrev pub Built : (h : ℕ) → ℕ → Result (Solver h) NewFault → Type 0
Built h z (Ok s) = (16 ≤ z) × (z ≤ 4096) × sure h s × New z (means h s)
Built h z (Err Capacity) = (z < 16) ⊎ (4096 < z)
Built h z (Err Memory) = (16 ≤ z) × (z ≤ 4096)

-- 12 is answered where at some depth no solution makes both codes agree, 13 where at every depth some solution does.
abbrev pub Told : Meaning → ℕ → ℕ → SystemFault → Type 0
Told m a b NoClasses = Unit {0}
Told m a b Clash = (d : ℕ) × ((v : Valuation) → m.state.solves v → Agree d (v a) (v b) → ⊥)
Told m a b Cyclic = (d : ℕ) → (v : Valuation) × m.state.solves v × Agree d (v a) (v b)
Told m a b NoCells = Unit {0}
Told m a b Unknown = Unit {0}
Told m a b TooManyMarks = Unit {0}

-- All but the cells and the calls stands.
abbrev pub Unmoved : (h : ℕ) → Solver h → Solver h → Type 0
Unmoved h s t =
    (t.store.limit ≡ s.store.limit) × (vec_items t.store.trail ≡ vec_items s.store.trail) × (vec_items t.saved ≡ vec_items s.saved)
    × (vec_items t.seen.marks ≡ vec_items s.seen.marks) × (t.seen.clock ≡ s.seen.clock) × (vec_items t.pairs ≡ vec_items s.pairs)

-- One cell more and one call more, where a cell is left; nothing changed where none is.
abbrev pub Grown : (h : ℕ) → Solver h → What ℕ → Sort → Result Code SystemFault → Solver h → Type 0
Grown h s w o (Ok c) t =
    (length (vec_items s.store.cells) < s.store.limit) × (c ≡ code (length (vec_items s.store.cells)))
    × (vec_items t.store.cells ≡ vec_items s.store.cells ++ cell_of w o ∷ []) × (t.calls ≡ s.calls + 1) × Unmoved h s t
Grown h s w o (Err f) t =
    (s.store.limit ≤ length (vec_items s.store.cells)) × (f ≡ NoCells)
    × (vec_items t.store.cells ≡ vec_items s.store.cells) × (t.calls ≡ s.calls) × Unmoved h s t

-- How many of the cells are in use, the owned one apart.
abbrev pub in_use : (h : ℕ) → Solver h → ℕ
in_use h s = length (vec_items s.store.cells) - 1

-- What fresh and build take: one cell, refused with 16 only where none is left; no other refusal takes any. Since no more than the capacity are in use, 16 is
-- then answered exactly where none is left.
abbrev pub Spent : (h : ℕ) → Solver h → Result Code SystemFault → Solver h → Type 0
Spent h s (Ok c) t = in_use h t ≡ in_use h s + 1
Spent h s (Err NoClasses) t = ⊥
Spent h s (Err Clash) t = ⊥
Spent h s (Err Cyclic) t = ⊥
Spent h s (Err NoCells) t = (in_use h s ≡ (means h s).capacity) × (in_use h t ≡ in_use h s)
Spent h s (Err Unknown) t = in_use h t ≡ in_use h s
Spent h s (Err TooManyMarks) t = ⊥

-- What equate takes, where it leaves the cells ds: two cells for each extension, and none where only five heads are known; a refusal takes none, and 16 is answered only where cells and
-- trail come to where an extension finds fewer than two cells left, and never with five heads. 12 and 13 are told apart by the depths to which the codes can agree.
abbrev pub Took : (h : ℕ) → Solver h → ℕ → ℕ → Result (Unit {0}) SystemFault → List (Cell ℕ) → Type 0
Took h s a b (Ok u) ds = (n : ℕ) × (length ds ≡ length (vec_items s.store.cells) + 2 * n) × (h ≡ 5 → n ≡ 0)
Took h s a b (Err NoClasses) ds = ⊥
Took h s a b (Err Clash) ds = Told (means h s) a b Clash × (ds ≡ vec_items s.store.cells)
Took h s a b (Err Cyclic) ds = Told (means h s) a b Cyclic × (ds ≡ vec_items s.store.cells)
Took h s a b (Err NoCells) ds = FullAfter s.store.limit (vec_items s.store.cells) (vec_items s.store.trail) × (h ≢ 5) × (ds ≡ vec_items s.store.cells)
Took h s a b (Err Unknown) ds = ds ≡ vec_items s.store.cells
Took h s a b (Err TooManyMarks) ds = ⊥
