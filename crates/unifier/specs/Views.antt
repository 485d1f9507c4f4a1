-- What a look shows of a root, and what a head puts into a cell.
use Rattle.std.specs.Prelude.{ℕ}
use Rattle.ground.specs.declared.code.Code.{Code}
use Rattle.ground.specs.declared.head.Head.{Head}
use Rattle.ground.specs.declared.head.Head.TheVariants.{Whole, Tenth, Flag, To, List as ListOf, Record, Absent, Has, Empty, Row as RowWith}
use Rattle.system.specs.declared.view.View.{View}
use Rattle.system.specs.declared.view.View.TheVariants.{Open as OpenCode, Built}
use Rattle.cells.specs.declared.What.{What}
use Rattle.cells.specs.declared.What.TheVariants.{Open, Link, Leaf, One, Two, Row as RowAt}
pub use Rattle.cells.specs.Heads.{leaf_head, one_head}
use Rattle.unifier.specs.States.{unclassed}
use Rattle.cells.specs.declared.Bare.TheVariants.{Whole as BareWhole, Tenth as BareTenth, Flag as BareFlag, Absent as BareAbsent, Empty as BareEmpty}
use Rattle.cells.specs.declared.Wrap.TheVariants.{List as OneList, Record as OneRecord, Has as OneHas}

abbrev pub code : ℕ → Code
code c = record { 0 = c }

-- What a look shows of the root r with this content; a root is no link.
abbrev pub viewed : ℕ → What ℕ → View
viewed r Open = OpenCode (code r) unclassed
viewed r (Link p) = OpenCode (code r) unclassed
viewed r (Leaf h) = Built (leaf_head h) (code 0) (code 0) 0
viewed r (One h x) = Built (one_head h) (code x) (code 0) 0
viewed r (Two x y) = Built To (code x) (code y) 0
viewed r (RowAt l x y) = Built RowWith (code x) (code y) l

-- What a cell holds that a head builds of the cells x and y with the label l.
abbrev pub contents : Head → ℕ → ℕ → ℕ → What ℕ
contents Whole x y l = Leaf BareWhole
contents Tenth x y l = Leaf BareTenth
contents Flag x y l = Leaf BareFlag
contents To x y l = Two x y
contents ListOf x y l = One OneList x
contents Record x y l = One OneRecord x
contents Absent x y l = Leaf BareAbsent
contents Has x y l = One OneHas x
contents Empty x y l = Leaf BareEmpty
contents RowWith x y l = RowAt l x y
