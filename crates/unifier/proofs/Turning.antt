-- Turn after turn.
use Rattle.std.proofs.Common.{◌≡◌, ℕ, suc, ◌+◌, ◌<◌, ◌≤◌, List, [], ◌∷◌, ◌++◌, length, sym, ◌∙◌, subst, arith, length-append}
use Rattle.cells.specs.declared.Cell.{Cell}
use Rattle.cells.specs.declared.Pair.{Pair}
use Rattle.cells.specs.Cuts.{cut}
use Rattle.cells.specs.Cells.{sort_at, Holds}
use Rattle.cells.specs.Rooms.{left}
use Rattle.cells.specs.Steps.{pair, Paired, Among, Stepped, Led}
use Rattle.cells.proofs.Whole.{led_none, led_step}
use Rattle.unifier.specs.Turns.{Alike, Turned}

pub alike_among : (cs : List (Cell ℕ)) (ps : List (Pair ℕ)) → Alike cs ps → Among (length cs) ps
alike_among cs [] h = tt
alike_among cs (p ∷ ps) h = (h.0, h.1, alike_among cs ps h.3)

pub alike_both : (cs : List (Cell ℕ)) (ps qs : List (Pair ℕ)) → Alike cs ps → Alike cs qs → Alike cs (ps ++ qs)
alike_both cs [] qs h k = k
alike_both cs (p ∷ ps) qs h k = (h.0, h.1, h.2, alike_both cs ps qs h.3 k)

-- sorts stand, and so do alike pairs
pub alike_more : (cs ds : List (Cell ℕ)) → length cs ≤ length ds → ((i : ℕ) → i < length cs → sort_at ds i ≡ sort_at cs i) → (ps : List (Pair ℕ)) → Alike cs ps → Alike ds ps
alike_more cs ds l s [] h = tt
alike_more cs ds l s (p ∷ ps) h =
    (omega (arith, l, h.0), omega (arith, l, h.1), s p.left h.0 ∙ h.2 ∙ sym (s p.right h.1), alike_more cs ds l s ps h.3)

led_more : (j k : ℕ) (cs : List (Cell ℕ)) (ps : List (Pair ℕ)) (es : List (Cell ℕ)) (qs : List (Pair ℕ)) (ds : List (Cell ℕ)) (rs : List (Pair ℕ)) → Led j cs ps es qs → Led k es qs ds rs → Led (j + k) cs ps ds rs
led_more j k cs ps es qs ds rs g s = record {
  more = omega (arith, g.more, s.more);
  even = (g.even.0 + s.even.0, omega (arith, g.even.1, s.even.1));
  grow = λ v. s.grow (g.grow v);
  agree = λ v i il. s.agree (g.grow v) i (omega (arith, g.more, il)) ∙ g.agree v i il;
  down = λ d v h p.
      let e : j + k + d ≡ j + (k + d) = omega arith in
      let x = g.down (k + d) v (subst (λ (n : ℕ). Holds (cut n) cs v) e h) (subst (λ (n : ℕ). Paired (cut n) ps v) e p) in
      s.down d (g.grow v) x.0 x.1;
  up = λ d v h p. let x = s.up d v h p in g.up d v x.0 x.1;
  fixed = λ v w p q e. s.fixed v w p q (g.fixed v w (λ d. s.up d v (p d).0 (p d).1) (λ d. s.up d w (q d).0 (q d).1) e);
}

pub turned_none : (cs : List (Cell ℕ)) (ps : List (Pair ℕ)) → Turned 0 cs ps cs ps
turned_none cs ps = record { turns = 0; led = led_none cs ps; paid = omega arith; nearer = λ C h. omega arith }

pub turned_more : (m n : ℕ) (cs : List (Cell ℕ)) (ps : List (Pair ℕ)) (es : List (Cell ℕ)) (qs : List (Pair ℕ)) (ds : List (Cell ℕ)) (rs : List (Pair ℕ)) → Turned m cs ps es qs → Turned n es qs ds rs → Turned (m + n) cs ps ds rs
turned_more m n cs ps es qs ds rs g s = record {
  turns = g.turns + s.turns;
  led = led_more g.turns s.turns cs ps es qs ds rs g.led s.led;
  paid = omega (arith, g.paid, s.paid);
  nearer = λ C h.
      let a = s.nearer C h in
      let b = g.nearer C (omega (arith, h, s.led.more)) in
      go (left C (length rs) ds) (left C (length qs) es) (left C (length ps) cs) a b;
}
  where
    go : (x y z : ℕ) → x + n ≤ y → y + m ≤ z → x + (m + n) ≤ z
    go x y z a b = omega arith

pub turned_step : (es : List (Cell ℕ)) (a b : ℕ) (new rest : List (Pair ℕ)) (ds : List (Cell ℕ)) → a < length es → b < length es → Among (length es) rest → Stepped es a b new ds → Turned 1 es (pair a b ∷ rest) ds (new ++ rest)
turned_step es a b new rest ds al bl am s = record {
  turns = 1;
  led = led_step 0 es (pair a b ∷ rest) es ds a b rest new am al bl (led_none es (pair a b ∷ rest)) s;
  paid = s.paid;
  nearer = λ C h.
      let e : length (new ++ rest) ≡ length new + length rest = length-append new rest in
      let k = s.nearer C (length rest) h in
      subst (λ (n : ℕ). left C n ds + 1 ≤ left C (suc (length rest)) es) (sym e) (go (left C (length new + length rest) ds) (left C (suc (length rest)) es) k);
}
  where
    go : (x y : ℕ) → x < y → x + 1 ≤ y
    go x y h = omega arith

pub turned_less : (cs : List (Cell ℕ)) (ps : List (Pair ℕ)) (ds : List (Cell ℕ)) (qs : List (Pair ℕ)) → Turned 1 cs ps ds qs → Turned 0 cs ps ds qs
turned_less cs ps ds qs t = record {
  turns = t.turns;
  led = t.led;
  paid = t.paid;
  nearer = λ C h. go (left C (length qs) ds) (left C (length ps) cs) (t.nearer C h);
}
  where
    go : (x y : ℕ) → x + 1 ≤ y → x + 0 ≤ y
    go x y h = omega arith

-- a turn with the pair the other way round
pub stepped_turn : (cs : List (Cell ℕ)) (a b : ℕ) (ps : List (Pair ℕ)) (ds : List (Cell ℕ)) → Stepped cs a b ps ds → Stepped cs b a ps ds
stepped_turn cs a b ps ds s = record {
  formed = s.formed;
  more = s.more;
  even = s.even;
  known = s.known;
  paid = s.paid;
  nearer = s.nearer;
  grow = s.grow;
  agree = s.agree;
  down = λ d v h e. s.down d v h (sym e);
  up = λ d v h p. let x = s.up d v h p in (x.0, sym x.1);
  fixed = s.fixed;
}
