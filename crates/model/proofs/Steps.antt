-- One step of a unification, by the cells that it meets.
use Rattle.std.proofs.Common.{◌≡◌, ℕ, zero, suc, ◌-◌, Bool, true, false, not, cond, eqb, List, refl, sym, ap, ap₂, ◌∙◌, ne_eqb, arith}
use denote.Enum.Bare.{sameb}
use denote.Enum.Declared.{tag_of}
use Rattle.ground.specs.contracts.head.Head.{the_type}
use Rattle.ground.specs.declared.head.Head.{Head}
use Rattle.ground.specs.declared.head.Head.TheVariants.{Whole, Tenth, Flag, To, List as ListOf, Record, Absent, Has, Empty, Row as RowWith}
use Rattle.system.specs.Requests.{head_number}
use Rattle.system.specs.declared.fault.SystemFault.TheVariants.{Clash}
use Rattle.model.specs.Cells.{Out, unify, meet, bind, children, view, held, lost}
use Rattle.model.specs.declared.cell.Cell.{Cell}
use Rattle.model.specs.declared.cell.Cell.TheVariants.{Open, Link, Built}
use Rattle.model.specs.declared.cell.Bind.{Bind}

-- two heads are told apart by their numbers
tag_number : (h : Head) → tag_of the_type h ≡ head_number h
tag_number Whole = refl
tag_number Tenth = refl
tag_number Flag = refl
tag_number To = refl
tag_number ListOf = refl
tag_number Record = refl
tag_number Absent = refl
tag_number Has = refl
tag_number Empty = refl
tag_number RowWith = refl

same_number : (h g : Head) → sameb the_type h g ≡ eqb (head_number h) (head_number g)
same_number h g = ap₂ eqb (tag_number h) (tag_number g)

unless : (t : Bool) {b : Bool} → not t ≡ b → t ≡ not b
unless true e = ap not e
unless false e = ap not e

open_cell : (s : Cell) → ((p : ℕ) → s ≡ Link p → ⊥) → ((h : Head) (x y : ℕ) → s ≡ Built h x y → ⊥) → s ≡ Open
open_cell Open f g = refl
open_cell (Link p) f g = absurd (f p refl)
open_cell (Built h x y) f g = absurd (g h x y refl)

module _ (cs : List Cell) (z m a b : ℕ) (bs : List Bind) where
  meet_open : (f : ℕ → ℕ → List Bind → Out) (t : Cell) → ((p : ℕ) → t ≡ Link p → ⊥) → meet f cs z a b bs Open t ≡ bind cs z a b bs
  meet_open f Open n = refl
  meet_open f (Link q) n = absurd (n q refl)
  meet_open f (Built h x y) n = refl

  unify_more : (m ≡ 0 → ⊥) → (a ≡ b → ⊥) → (s t : Cell) → s ≡ view cs bs a → t ≡ view cs bs b → unify cs z m a b bs ≡ meet (unify cs z (m - 1)) cs z a b bs s t
  unify_more h n s t p q =
      more m h
      ∙ ap (λ (u : Bool). cond u (held bs) (meet (unify cs z (m - 1)) cs z a b bs (view cs bs a) (view cs bs b))) (ne_eqb a b n)
      ∙ ap₂ (meet (unify cs z (m - 1)) cs z a b bs) (sym p) (sym q)
    where
      more : (m : ℕ) → (m ≡ 0 → ⊥) → unify cs z m a b bs ≡ cond (eqb a b) (held bs) (meet (unify cs z (m - 1)) cs z a b bs (view cs bs a) (view cs bs b))
      more zero h = absurd (h refl)
      more (suc m) h = ap (λ (k : ℕ). cond (eqb a b) (held bs) (meet (unify cs z k) cs z a b bs (view cs bs a) (view cs bs b))) (omega arith)

  module _ (more : m ≡ 0 → ⊥) (apart : a ≡ b → ⊥) (s t : Cell) (es : s ≡ view cs bs a) (et : t ≡ view cs bs b) where
    pub binds : ((p : ℕ) → s ≡ Link p → ⊥) → ((h : Head) (x y : ℕ) → s ≡ Built h x y → ⊥) → ((p : ℕ) → t ≡ Link p → ⊥) → unify cs z m a b bs ≡ bind cs z a b bs
    binds f g n = unify_more more apart Open t (sym (open_cell s f g) ∙ es) et ∙ meet_open (unify cs z (m - 1)) t n

    module _ (h : Head) (x y : ℕ) (is : s ≡ Built h x y) where
      pub binds_back : ((p : ℕ) → t ≡ Link p → ⊥) → ((g : Head) (p q : ℕ) → t ≡ Built g p q → ⊥) → unify cs z m a b bs ≡ bind cs z b a bs
      binds_back f g = unify_more more apart (Built h x y) Open (sym is ∙ es) (sym (open_cell t f g) ∙ et)

      pub by_heads : (g : Head) (p q : ℕ) → t ≡ Built g p q → (u : Bool) → not (sameb the_type h g) ≡ u
          → unify cs z m a b bs ≡ cond (not u) (children (unify cs z (m - 1)) h x y p q bs) (lost Clash bs)
      by_heads g p q it u e =
          unify_more more apart (Built h x y) (Built g p q) (sym is ∙ es) (sym it ∙ et)
          ∙ ap (λ (v : Bool). cond v (children (unify cs z (m - 1)) h x y p q bs) (lost Clash bs)) (sym (same_number h g) ∙ unless (sameb the_type h g) e)
