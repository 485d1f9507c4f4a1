-- The order in which pairs wait says nothing.
use Rattle.std.proofs.Common.{◌≡◌, ℕ, ◌+◌, ◌≤◌, List, [], ◌∷◌, ◌++◌, length, sym, subst, arith, length-append}
use Rattle.ground.specs.Values.{Value}
use Rattle.cells.specs.declared.Cell.{Cell}
use Rattle.cells.specs.declared.Pair.{Pair}
use Rattle.cells.specs.Cuts.{cut}
use Rattle.cells.specs.Cells.{Valuation}
use Rattle.cells.specs.Rooms.{left}
use Rattle.cells.specs.Steps.{Paired, Led}
use Rattle.cells.proofs.Whole.{paired_append, paired_left, paired_right}
use Rattle.unifier.specs.Turns.{Alike, Left}
use Rattle.unifier.proofs.Turning.{alike_both}

pub alike_left : (cs : List (Cell ℕ)) (ps qs : List (Pair ℕ)) → Alike cs (ps ++ qs) → Alike cs ps
alike_left cs [] qs h = tt
alike_left cs (p ∷ ps) qs h = (h.0, h.1, h.2, alike_left cs ps qs h.3)

pub alike_right : (cs : List (Cell ℕ)) (ps qs : List (Pair ℕ)) → Alike cs (ps ++ qs) → Alike cs qs
alike_right cs [] qs h = h
alike_right cs (p ∷ ps) qs h = alike_right cs ps qs h.3

paired_swap : (f : Value → Value) (v : Valuation) (xs ys zs : List (Pair ℕ)) → Paired f (xs ++ (ys ++ zs)) v → Paired f (ys ++ (xs ++ zs)) v
paired_swap f v xs ys zs h =
    let r = paired_right f v xs (ys ++ zs) h in
    paired_append f v ys (xs ++ zs) (paired_left f v ys zs r) (paired_append f v xs zs (paired_left f v xs (ys ++ zs) h) (paired_right f v ys zs r))

led_swap : (k : ℕ) (cs : List (Cell ℕ)) (ps : List (Pair ℕ)) (ds : List (Cell ℕ)) (xs ys zs : List (Pair ℕ)) → Led k cs ps ds (xs ++ (ys ++ zs)) → Led k cs ps ds (ys ++ (xs ++ zs))
led_swap k cs ps ds xs ys zs g = record {
  more = g.more;
  even = g.even;
  grow = g.grow;
  agree = g.agree;
  down = λ d v h p. let r = g.down d v h p in (r.0, paired_swap (cut d) (g.grow v) xs ys zs r.1);
  up = λ d v h p. g.up d v h (paired_swap (cut d) v ys xs zs p);
  fixed = λ v w p q e. g.fixed v w (λ d. ((p d).0, paired_swap (cut d) v ys xs zs (p d).1)) (λ d. ((q d).0, paired_swap (cut d) w ys xs zs (q d).1)) e;
}

-- pairs noted below those of fields
pub left_noted : (n : ℕ) (cs : List (Cell ℕ)) (ps : List (Pair ℕ)) (ds : List (Cell ℕ)) (new fs hs qs : List (Pair ℕ)) → qs ≡ new ++ hs → Left n cs ps ds (new ++ (fs ++ hs)) → Left n cs ps ds (fs ++ qs)
left_noted n cs ps ds new fs hs qs e l =
    let len : length (new ++ (fs ++ hs)) ≡ length (fs ++ (new ++ hs)) = omega (arith, length-append new (fs ++ hs), length-append fs hs, length-append fs (new ++ hs), length-append new hs) in
    let r = alike_right ds new (fs ++ hs) l.alike in
    subst (λ (x : List (Pair ℕ)). Left n cs ps ds (fs ++ x)) (sym e)
    (record {
      turned = record {
        turns = l.turned.turns;
        led = led_swap l.turned.turns cs ps ds new fs hs l.turned.led;
        paid = l.turned.paid;
        nearer = λ C h. subst (λ (m : ℕ). left C m ds + n ≤ left C (length ps) cs) len (l.turned.nearer C h);
      };
      fine = l.fine;
      alike = alike_both ds fs (new ++ hs) (alike_left ds fs hs r) (alike_both ds new hs (alike_left ds new (fs ++ hs) l.alike) (alike_right ds fs hs r));
    })
