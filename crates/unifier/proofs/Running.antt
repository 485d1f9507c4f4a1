-- The loop over the pending pairs.
use Rattle.std.proofs.Common.{◌≡◌, ℕ, zero, suc, ◌+◌, ◌<◌, ◌≤◌, List, [], ◌∷◌, ◌++◌, length, Some, Option, sym, refl, ap, ◌∙◌, subst, ap₂, arith, Ok, Err}
use Rattle.stack.specs.Stacks.{top, under}
use Rattle.ground.specs.declared.sort.Sort.{Sort}
use Rattle.ground.specs.declared.sort.Sort.TheVariants.{«Type» as OfType, Field as OfField, Row as OfRow}
use Rattle.cells.specs.declared.What.TheVariants.{Leaf}
use Rattle.cells.specs.declared.Cell.{Cell}
use Rattle.cells.specs.declared.Pair.{Pair}
use Rattle.cells.specs.Cells.{what_at, sort_at, Root, rootly, roots}
use Rattle.cells.specs.Rooms.{left, Short}
use Rattle.cells.specs.Steps.{Denied, Never}
use Rattle.cells.proofs.Chains.{known}
use Rattle.cells.proofs.Ends.{never}
use Rattle.unifier.specs.Fine.{Fine, Rowly}
use Rattle.unifier.specs.Turns.{Fieldly, Next, Turned, Left, trees, price, Spent, Came, Ran}
use Rattle.unifier.specs.declared.misfit.Misfit.{Misfit}
use Rattle.unifier.specs.declared.misfit.Misfit.TheVariants.{Clash, Full}
use Rattle.unifier.proofs.Turning.{turned_more}
use Rattle.cells.specs.declared.Bare.TheVariants.{Absent}

pub top_under : {T : Type 0} (xs : List T) (p : T) → Some p ≡ top xs → xs ≡ p ∷ under xs
top_under [] p e = cc
top_under (x ∷ xs) p e = cc

roots_one : (cs : List (Cell ℕ)) (i : ℕ) → i < length cs → Root (what_at cs i) → 1 ≤ roots cs
roots_one [] i h r = absurd (let z : ⊥ = omega arith in z)
roots_one (b ∷ cs) zero h r = omega arith
roots_one (b ∷ cs) (suc i) h r = omega (arith, roots_one cs i (omega arith) r)

-- the next pair, and what is left on both stacks
pub next_all : (fs hs gs qs : List (Pair ℕ)) (p : Pair ℕ) → Next fs hs (Some p) gs qs → fs ++ hs ≡ p ∷ (gs ++ qs)
next_all [] hs gs qs p n = top_under hs p n.0 ∙ ap (λ (x : List (Pair ℕ)). p ∷ x) (sym n.2 ∙ ap (λ (x : List (Pair ℕ)). x ++ qs) (sym n.1))
next_all (f ∷ fs) hs gs qs p n = let e : f ≡ p = first in ap₂ (λ (x : Pair ℕ) (y : List (Pair ℕ)). x ∷ y) e (ap₂ (λ (x y : List (Pair ℕ)). x ++ y) (sym n.1) (sym n.2))
  where
    first : f ≡ p
    first = let q = n.0 in cc

pub next_none : (fs hs gs qs : List (Pair ℕ)) (r : Option (Pair ℕ)) → Next fs hs r gs qs → ((p : Pair ℕ) → r ≡ Some p → ⊥) → fs ++ hs ≡ []
next_none [] hs gs qs r n e = go hs (λ p h. e p (n.0 ∙ h))
  where
    go : (xs : List (Pair ℕ)) → ((p : Pair ℕ) → top xs ≡ Some p → ⊥) → xs ≡ []
    go [] h = refl
    go (x ∷ xs) h = absurd (h x refl)
next_none (f ∷ fs) hs gs qs r n e = absurd (e f n.0)

pub next_fieldly : (cs : List (Cell ℕ)) (fs hs gs qs : List (Pair ℕ)) (r : Option (Pair ℕ)) → Next fs hs r gs qs → Fieldly cs fs → Fieldly cs gs
next_fieldly cs [] hs gs qs r n h = subst (Fieldly cs) (sym n.1) tt
next_fieldly cs (f ∷ fs) hs gs qs r n h = subst (Fieldly cs) (sym n.1) h.1

field_first : (cs : List (Cell ℕ)) (f p : Pair ℕ) → Some p ≡ Some f → sort_at cs f.left ≡ OfField → sort_at cs p.left ≡ OfField
field_first cs f p e h = let q : p ≡ f = cc in ap (λ (x : Pair ℕ). sort_at cs x.left) q ∙ h

no_row : (o : Sort) → o ≡ OfField → Rowly o → ⊥
no_row o e w =
    let q : OfField ≡ OfRow w.0 = sym e ∙ w.1 in
    let z : ◌≡◌ {A = ℕ} 0 1 = cc in omega arith

-- a pair that is no field finds no fields before it
pub next_free : (cs : List (Cell ℕ)) (fs hs gs qs : List (Pair ℕ)) (p : Pair ℕ) (room : ℕ) → Next fs hs (Some p) gs qs → Fieldly cs fs → 24 ≤ room → Rowly (sort_at cs p.left) → length gs + 24 ≤ room
next_free cs [] hs gs qs p room n h l w = omega (arith, ap length n.1, l)
next_free cs (f ∷ fs) hs gs qs p room n h l w = absurd (no_row (sort_at cs p.left) (field_first cs f p n.0 h.0) w)

price_most : (o : Sort) → price o ≤ 1
price_most OfType = omega arith
price_most OfField = omega arith
price_most (OfRow m) = omega arith

-- the pair that is taken pays for one that is left beyond the roots
pub next_paid : (cs : List (Cell ℕ)) (fs hs gs qs : List (Pair ℕ)) (p : Pair ℕ) → Next fs hs (Some p) gs qs → Fieldly cs fs → length qs + price (sort_at cs p.left) ≤ length hs
next_paid cs [] hs gs qs p n h = omega (arith, ap length (top_under hs p n.0), ap length n.2, price_most (sort_at cs p.left))
next_paid cs (f ∷ fs) hs gs qs p n h = omega (arith, ap length n.2, ap price (field_first cs f p n.0 h.0))

-- the owned cell is a root, so a turn has the slots that it asks for
pub slots : (limit : ℕ) (cs : List (Cell ℕ)) (fs hs gs qs : List (Pair ℕ)) (p : Pair ℕ) (room : ℕ) → Fine cs → Next fs hs (Some p) gs qs → Fieldly cs fs → length hs + 1 + trees limit cs ≤ room → length qs + 2 ≤ room
slots limit cs fs hs gs qs p room f n h l = omega (arith, roots_one cs 0 (known cs 0 (Leaf Absent) f.absent refl) (ap rootly f.absent), next_paid cs fs hs gs qs p n h, l)

pub slots_next : (limit : ℕ) (cs ds : List (Cell ℕ)) (fs hs gs qs ks rs : List (Pair ℕ)) (p : Pair ℕ) (room : ℕ) → Next fs hs (Some p) gs qs → Fieldly cs fs → length hs + 1 + trees limit cs ≤ room →
    Spent limit (sort_at cs p.left) cs qs (Ok tt) ds ks rs → length rs + 1 + trees limit ds ≤ room
slots_next limit cs ds fs hs gs qs ks rs p room n h l s =
    go (length hs) (length qs) (length rs) (trees limit cs) (trees limit ds) (price (sort_at cs p.left)) l s.1 (next_paid cs fs hs gs qs p n h)
  where
    go : (a b c x y k : ℕ) → a + 1 + x ≤ room → c + y ≤ b + k + x → b + k ≤ a → c + 1 + y ≤ room
    go a b c x y k l m n = omega arith

module _ (cs : List (Cell ℕ)) (ps : List (Pair ℕ)) (es : List (Cell ℕ)) (hs : List (Pair ℕ)) (p : Pair ℕ) (rest : List (Pair ℕ)) (eh : hs ≡ p ∷ rest) (t : Turned 0 cs ps es hs) where
  here : Turned 0 cs ps es (p ∷ rest)
  here = subst (λ (x : List (Pair ℕ)). Turned 0 cs ps es x) eh t

  run_clash : Denied es p.left p.right → Never cs ps
  run_clash n = never here.turns cs es ps rest p.left p.right here.led n

  run_full : (limit : ℕ) (ds : List (Cell ℕ)) → Short limit es ds → Short limit cs ds
  run_full limit ds h = (omega (arith, here.paid, h.0), h.1)

  -- a turn that cannot be
  pub run_err : (limit : ℕ) (m : Misfit) (ds : List (Cell ℕ)) (qs : List (Pair ℕ)) → Came limit es p.left p.right rest (Err m) ds qs → Ran limit cs ps (Err m) ds
  run_err limit Clash ds qs h = run_clash h
  run_err limit Full ds qs h = run_full limit ds h

  pub run_turn : (ds : List (Cell ℕ)) (qs : List (Pair ℕ)) → Left 1 es (p ∷ rest) ds qs → Turned 0 cs ps ds qs
  run_turn ds qs l =
      let u = turned_more 0 1 cs ps es (p ∷ rest) ds qs here l.turned in
      record { turns = u.turns; led = u.led; paid = u.paid; nearer = λ C h. go (left C (length qs) ds) (left C (length ps) cs) (u.nearer C h) }
    where
      go : (x y : ℕ) → x + (0 + 1) ≤ y → x + 0 ≤ y
      go x y h = omega arith

  pub run_nearer : (C : ℕ) (ds : List (Cell ℕ)) (qs : List (Pair ℕ)) → length ds ≤ C → Left 1 es (p ∷ rest) ds qs → left C (length qs) ds < left C (length hs) es
  run_nearer C ds qs h l =
      subst (λ (n : ℕ). left C (length qs) ds < left C n es) (sym (ap length eh)) (go (left C (length qs) ds) (left C (suc (length rest)) es) (l.turned.nearer C h))
    where
      go : (x y : ℕ) → x + 1 ≤ y → x < y
      go x y h = omega arith
