-- What cells and binds say of a code.
use Rattle.std.specs.Prelude.{ℕ, zero, suc, ◌+◌, Bool, true, false, cond, List, [], ◌∷◌, ◌++◌, length, Some, None, Ok, Err, Option, Result, ◌==◌, nat_lt, slice_index_or}
use Rattle.std.specs.List.{find}
use Rattle.ground.specs.Heads.{has_first, has_second}
use Rattle.ground.specs.declared.head.Head.{Head}
use Rattle.system.specs.Requests.{head_number}
use Rattle.system.specs.declared.fault.SystemFault.{SystemFault}
use Rattle.system.specs.declared.fault.SystemFault.TheVariants.{Clash, Cyclic, NoCells}
use Rattle.model.specs.Stock.{Stock}
use Rattle.model.specs.declared.cell.Cell.{Cell}
use Rattle.model.specs.declared.cell.Cell.TheVariants.{Open, Link, Built}
use Rattle.model.specs.declared.cell.Bind.{Bind}

-- The bind of the code c.
abbrev pub lookup : List Bind → ℕ → Option Bind
lookup bs c = find (λ b. b.from == c) bs

-- An open code, by its bind.
abbrev pub linked : Option Bind → Cell
linked None = Open
linked (Some b) = Link b.to

-- The cell of the code c, as the binds have it.
abbrev pub seen : List Bind → ℕ → Cell → Cell
seen bs c Open = linked (lookup bs c)
seen bs c (Link p) = Link p
seen bs c (Built h x y) = Built h x y

-- The code c as it stands.
abbrev pub view : List Cell → List Bind → ℕ → Cell
view cs bs c = seen bs c (slice_index_or cs c Open)

-- Where a step by a link leads, if it is one.
abbrev pub onward : (ℕ → ℕ) → ℕ → Cell → ℕ
onward f c Open = c
onward f c (Link p) = f p
onward f c (Built h x y) = c

-- The code at the end of the links from c, by so many steps.
abbrev pub root : (ℕ → Cell) → ℕ → ℕ → ℕ
root w zero c = c
root w (suc m) c = onward (root w m) c (w c)

-- One of what the shape refers to is such.
abbrev pub among : (ℕ → Bool) → Cell → Bool
among f Open = false
among f (Link p) = f p
among f (Built h x y) = cond (cond (has_first h) (f x) false) true (cond (has_second h) (f y) false)

-- The code a is c, or reached from it by links and children, by so many steps.
abbrev pub occurs : (ℕ → Cell) → ℕ → ℕ → ℕ → Bool
occurs w zero a c = false
occurs w (suc m) a c = cond (a == c) true (among (occurs w m a) (w c))

-- How a unification ends: with these binds, or with a fault and the binds made before it.
pub data Out : Type 0 where
  held : List Bind → Out
  lost : SystemFault → List Bind → Out

-- The answer of a unification.
abbrev pub answer : Out → Result (Unit {0}) SystemFault
answer (held bs) = Ok tt
answer (lost f bs) = Err f

-- The binds that it leaves.
abbrev pub left : Out → List Bind
left (held bs) = bs
left (lost f bs) = bs

-- The codes with the binds that it leaves.
abbrev pub rebound : Stock → Out → Stock
rebound c o = record { cells = c.cells; binds = left o; limit = c.limit }

-- Go on from the binds of the first, if it did not fail.
abbrev pub then : Out → (List Bind → Out) → Out
then (held bs) f = f bs
then (lost e bs) f = lost e bs

-- Bind the open code a to b, unless it occurs there; there are at most z cells.
abbrev pub bind : List Cell → ℕ → ℕ → ℕ → List Bind → Out
bind cs z a b bs =
    cond (occurs (view cs bs) (z + 1) a b) (lost Cyclic bs) (cond (nat_lt (length bs) z) (held (bs ++ record { from = a; to = b } ∷ [])) (lost NoCells bs))

-- Unify the children of two heads that are one.
abbrev pub children : (ℕ → ℕ → List Bind → Out) → Head → ℕ → ℕ → ℕ → ℕ → List Bind → Out
children f h x y p q bs = then (cond (has_first h) (f x p bs) (held bs)) (λ ds. cond (has_second h) (f y q ds) (held ds))

-- Unify the codes a and b of these shapes.
abbrev pub meet : (ℕ → ℕ → List Bind → Out) → List Cell → ℕ → ℕ → ℕ → List Bind → Cell → Cell → Out
meet f cs z a b bs (Link p) s = f p b bs
meet f cs z a b bs Open (Link q) = f a q bs
meet f cs z a b bs Open Open = bind cs z a b bs
meet f cs z a b bs Open (Built h x y) = bind cs z a b bs
meet f cs z a b bs (Built h x y) (Link q) = f a q bs
meet f cs z a b bs (Built h x y) Open = bind cs z b a bs
meet f cs z a b bs (Built h x y) (Built g p q) = cond (head_number h == head_number g) (children f h x y p q bs) (lost Clash bs)

-- Unify the codes a and b, by so many steps.
abbrev pub unify : List Cell → ℕ → ℕ → ℕ → ℕ → List Bind → Out
unify cs z zero a b bs = lost Cyclic bs
unify cs z (suc m) a b bs = cond (a == b) (held bs) (meet (unify cs z m) cs z a b bs (view cs bs a) (view cs bs b))
