-- What is asked of the scope that a form is typed in.
use Rattle.std.specs.Prelude.{◌≡◌, ℕ, ◌<◌, ◌≤◌, true, false, [], ◌∷◌, ◌≢◌}
use Rattle.std.proofs.Math.Option.{some}
use Rattle.ground.specs.Classes.{Asked}
use Rattle.ground.specs.Heads.{gives, none_lacked, has_first, has_second, first_sort, second_sort}
use Rattle.ground.specs.declared.sort.Sort.{Sort}
use Rattle.ground.specs.declared.sort.Sort.TheVariants.{«Type» as OfType}
use Rattle.ground.specs.declared.classes.Classes.{Classes}
use Rattle.system.specs.Meaning.{Kind, Valuation, Meaning, knows_sort}
use Rattle.system.specs.Requests.{head_number, labelled}
use Rattle.engine.specs.Trees.{Tree, any, stay, leaf, over, pair, Binding, code, scheme, Scope}
use Rattle.engine.specs.Schemes.{Mono}

-- Both valuations give the fun and rec names of the scope the same values.
abbrev pub Level : Valuation → Valuation → Scope → Type 0
Level v w E = (c : ℕ) → Mono E c → v c ≡ w c

-- The tree can be copied to a code of the sort p, in the meaning m of a system that knows K. Each variable has one sort and one set of classes,
-- those that σ and κ say; a class is asked only of a type and only where classes are known. A code that stays is known, and the fun and rec names
-- of E fix its value. Heads and labels are such as the system builds, each child of its sort.
abbrev pub Grown : Kind → (ℕ → Sort) → (ℕ → Classes) → Meaning → Scope → Tree → Sort → Type 0
Grown K σ κ m E (any g o k) p =
    (o ≡ p) × (σ g ≡ o) × (κ g ≡ k) × (knows_sort K o ≡ true)
    × ((j : ℕ) → Asked j k → (j ≤ 3) × (o ≡ OfType) × (K.classes ≢ 0))
Grown K σ κ m E (stay c) p =
    (m.state.sort_of c ≡ some p) × ((v w : Valuation) → m.state.solves v → m.state.solves w → Level v w E → v c ≡ w c)
Grown K σ κ m E (leaf h s) p = (gives h s 0 ≡ p) × (has_first h ≡ false) × (head_number h < K.heads) × (labelled h 0 s ≡ true)
Grown K σ κ m E (over h t) p =
    (gives h none_lacked 0 ≡ p) × (has_second h ≡ false) × (head_number h < K.heads) × (labelled h 0 none_lacked ≡ true)
    × Grown K σ κ m E t (first_sort h)
Grown K σ κ m E (pair h l s t u) p =
    (gives h s l ≡ p) × (head_number h < K.heads) × (labelled h l s ≡ true)
    × Grown K σ κ m E t (first_sort h) × Grown K σ κ m E u (second_sort h s)

-- A code of the scope is known and a type's; a scheme can be copied to a type, and what stays of it is fixed by the names of E.
abbrev pub Fine : Kind → Meaning → Scope → Binding → Type 0
Fine K m E (code c) = m.state.sort_of c ≡ some OfType
Fine K m E (scheme t) = (σ : ℕ → Sort) × (κ : ℕ → Classes) × Grown K σ κ m E t OfType

-- Each binding of the scope is so, by the names outside it.
abbrev pub Ready : Kind → Meaning → Scope → Type 0
Ready K m [] = Unit {0}
Ready K m (b ∷ E) = Fine K m E b.1 × Ready K m E
