-- How two roots come together.
use Rattle.std.specs.Prelude.{ℕ, cond, ◌==◌}
use Rattle.cells.specs.declared.What.{What}
use Rattle.cells.specs.declared.What.TheVariants.{Open, Link, Leaf, One, Two, Row as RowAt}
use Rattle.cells.specs.Steps.{pair}
use Rattle.unifier.specs.declared.meet.Meet.{Meet}
use Rattle.unifier.specs.declared.meet.Meet.TheVariants.{Clash, Left, Right, Same, One as OnePair, Two as TwoPairs, Over, Under}
use Rattle.cells.specs.declared.Bare.{Bare}
use Rattle.cells.specs.declared.Bare.TheVariants.{Whole, Tenth, Flag, Absent, Empty}
use Rattle.cells.specs.declared.Wrap.{Wrap}
use Rattle.cells.specs.declared.Wrap.TheVariants.{List as ListOf, Record as RecordOf, Has as HasOf}

-- the place of a head among those of its kind
abbrev pub bare_place : Bare → ℕ
bare_place Whole = 0
bare_place Tenth = 1
bare_place Flag = 2
bare_place Absent = 3
bare_place Empty = 4

abbrev pub wrap_place : Wrap → ℕ
wrap_place ListOf = 0
wrap_place RecordOf = 1
wrap_place HasOf = 2

abbrev pub meet_leaf : Bare → What ℕ → Meet
meet_leaf h Open = Right
meet_leaf h (Link p) = Clash
meet_leaf h (Leaf k) = cond (bare_place h == bare_place k) Same Clash
meet_leaf h (One k x) = Clash
meet_leaf h (Two x y) = Clash
meet_leaf h (RowAt l x y) = Under

abbrev pub meet_one : Wrap → ℕ → What ℕ → Meet
meet_one h x Open = Right
meet_one h x (Link p) = Clash
meet_one h x (Leaf k) = Clash
meet_one h x (One k y) = cond (wrap_place h == wrap_place k) (OnePair (pair x y)) Clash
meet_one h x (Two y z) = Clash
meet_one h x (RowAt l y z) = Clash

abbrev pub meet_two : ℕ → ℕ → What ℕ → Meet
meet_two x y Open = Right
meet_two x y (Link p) = Clash
meet_two x y (Leaf k) = Clash
meet_two x y (One k z) = Clash
meet_two x y (Two z w) = TwoPairs (pair x z) (pair y w)
meet_two x y (RowAt l z w) = Clash

abbrev pub meet_row : What ℕ → Meet
meet_row Open = Right
meet_row (Link p) = Clash
meet_row (Leaf k) = Over
meet_row (One k x) = Clash
meet_row (Two x y) = Clash
meet_row (RowAt l x y) = Over

abbrev pub meet_of : What ℕ → What ℕ → Meet
meet_of Open b = Left
meet_of (Link p) b = Clash
meet_of (Leaf h) b = meet_leaf h b
meet_of (One h x) b = meet_one h x b
meet_of (Two x y) b = meet_two x y b
meet_of (RowAt l x y) b = meet_row b
