-- Each pair that a turn leaves is paid for: by a root that was linked, or by cells that may still come.
use Rattle.std.proofs.Common.{◌≡◌, ℕ, ◌+◌, ◌<◌, ◌≤◌, List, [], ◌∷◌, ◌++◌, length, set, sym, ap, ◌∙◌, subst, arith, length-set, Ok}
use Rattle.ground.specs.declared.sort.Sort.{Sort}
use Rattle.cells.specs.declared.What.TheVariants.{Open, Leaf}
use Rattle.cells.specs.declared.Cell.{Cell}
use Rattle.cells.specs.declared.Pair.{Pair}
use Rattle.cells.specs.Cells.{what_at, rank_at, sort_at, Root, rootly, linked}
use Rattle.cells.proofs.Linking.{length_linked, roots_linked, roots_set}
use Rattle.unifier.specs.declared.undo.Undo.{Undo}
use Rattle.unifier.specs.Trails.{Since}
use Rattle.unifier.specs.Turns.{Alike, Fieldly, trees, price, Spent}
use Rattle.unifier.proofs.Swapping.{alike_left}
use Rattle.cells.specs.declared.Bare.TheVariants.{Empty}

pub fieldly_both : (cs : List (Cell ℕ)) (ps qs : List (Pair ℕ)) → Fieldly cs ps → Fieldly cs qs → Fieldly cs (ps ++ qs)
fieldly_both cs [] qs h k = k
fieldly_both cs (p ∷ ps) qs h k = (h.0, fieldly_both cs ps qs h.1 k)

-- no write changes a sort
pub fieldly_since : (cs ds : List (Cell ℕ)) (tr ts : List Undo) → Since cs tr ds ts → (ps : List (Pair ℕ)) → Alike cs ps → Fieldly cs ps → Fieldly ds ps
fieldly_since cs ds tr ts s [] a h = tt
fieldly_since cs ds tr ts s (p ∷ ps) a h = (s.sorts p.left a.0 ∙ h.0, fieldly_since cs ds tr ts s ps a.3 h.1)

-- a link takes a root, and a row made empty none
pub trees_linked : (limit : ℕ) (cs ds : List (Cell ℕ)) (r t : ℕ) → r < length cs → t < length cs → (r ≡ t → ⊥) → Root (what_at cs r) → ds ≡ linked cs r t → trees limit ds + 1 ≡ trees limit cs
trees_linked limit cs ds r t rl tl ne ro e =
    subst (λ (x : List (Cell ℕ)). trees limit x + 1 ≡ trees limit cs) (sym e) (omega (arith, length_linked cs r t rl tl ne, roots_linked cs r t rl tl ne ro))

pub trees_emptied : (limit : ℕ) (cs ds : List (Cell ℕ)) (o : ℕ) → o < length cs → what_at cs o ≡ Open → ds ≡ set cs o (record { what = Leaf Empty; rank = rank_at cs o; sort = sort_at cs o }) → trees limit ds ≡ trees limit cs
trees_emptied limit cs ds o ol oo e =
    let c : Cell ℕ = record { what = Leaf Empty; rank = rank_at cs o; sort = sort_at cs o } in
    subst (λ (x : List (Cell ℕ)). trees limit x ≡ trees limit cs) (sym e) (omega (arith, length-set cs o c, roots_set cs o c ol, ap rootly oo))

pub spent_done : (limit : ℕ) (o : Sort) (cs ds : List (Cell ℕ)) (tr ts : List Undo) (fs hs qs : List (Pair ℕ)) (n : ℕ) → Since cs tr ds ts → Alike cs (fs ++ hs) → Fieldly cs fs → length qs ≡ length hs + n →
    trees limit ds + n ≤ price o + trees limit cs → Spent limit o cs hs (Ok tt) ds fs qs
spent_done limit o cs ds tr ts fs hs qs n s a h e l = (fieldly_since cs ds tr ts s fs (alike_left cs fs hs a) h, go (trees limit ds) (trees limit cs) (price o) (length hs) (length qs) n e l)
  where
    go : (x y p a b n : ℕ) → b ≡ a + n → x + n ≤ p + y → b + x ≤ a + p + y
    go x y p a b n e l = omega arith

-- a turn that links, with so many pairs left; and one that finds nothing to do
pub spent_linked : (limit : ℕ) (o : Sort) (cs ds : List (Cell ℕ)) (tr ts : List Undo) (fs hs qs : List (Pair ℕ)) (n r t : ℕ) → r < length cs → t < length cs → (r ≡ t → ⊥) → Root (what_at cs r) → ds ≡ linked cs r t → Since cs tr ds ts →
    Alike cs (fs ++ hs) → Fieldly cs fs → length qs ≡ length hs + n → n ≤ price o + 1 → Spent limit o cs hs (Ok tt) ds fs qs
spent_linked limit o cs ds tr ts fs hs qs n r t rl tl ne ro e s a h q l =
    spent_done limit o cs ds tr ts fs hs qs n s a h q (go (trees limit ds) (trees limit cs) (price o) l (trees_linked limit cs ds r t rl tl ne ro e))
  where
    go : (x y p : ℕ) → n ≤ p + 1 → x + 1 ≡ y → x + n ≤ p + y
    go x y p l e = omega arith

pub spent_none : (limit : ℕ) (o : Sort) (cs : List (Cell ℕ)) (fs hs : List (Pair ℕ)) → Fieldly cs fs → Spent limit o cs hs (Ok tt) cs fs hs
spent_none limit o cs fs hs h = (h, go (trees limit cs) (price o) (length hs))
  where
    go : (x p a : ℕ) → a + x ≤ a + p + x
    go x p a = omega arith
