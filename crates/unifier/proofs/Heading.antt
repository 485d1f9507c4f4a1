-- What each way to come together leaves for the next turn.
use Rattle.std.proofs.Common.{◌≡◌, ℕ, zero, suc, ◌+◌, ◌<◌, Bool, true, false, cond, eqb, List, [], ◌∷◌, ◌++◌, length, get_or, sym, refl, ap, ◌∙◌, subst, ap₂, arith, Ok, Err, Result}
use Rattle.std.proofs.lemmas.List.{get_or_read}
use Rattle.std.proofs.lemmas.Bool.{eqb-true}
use Rattle.cells.specs.declared.What.{What}
use Rattle.cells.specs.declared.What.TheVariants.{Open, Link, Leaf, One, Two, Row as RowAt}
use Rattle.cells.specs.declared.Cell.{Cell}
use Rattle.cells.specs.declared.Pair.{Pair}
use Rattle.cells.specs.Cuts.{cut}
use Rattle.cells.specs.Cells.{none, what_at, sort_at, Root, one_sort, Refers, Formed, linked, Valuation, Says, Holds, Leads}
use Rattle.cells.specs.Steps.{pair, Stepped, Led}
use Rattle.cells.specs.Widths.{built}
use Rattle.cells.proofs.Linking.{sort_same}
use Rattle.cells.proofs.Chains.{lead}
use Rattle.cells.proofs.Whole.{holds_less}
use Rattle.cells.proofs.Meeting.{open_stepped, one_stepped, two_stepped}
use Rattle.unifier.specs.declared.meet.Meet.{Meet}
use Rattle.unifier.specs.declared.meet.Meet.TheVariants.{Clash, Left as LeftOpen, Right as RightOpen, Same, One as OnePair, Two as TwoPairs, Over, Under}
use Rattle.unifier.specs.Trails.{Movable}
use Rattle.unifier.specs.Fine.{Fine}
use Rattle.unifier.specs.Meets.{bare_place, wrap_place, meet_of}
use Rattle.unifier.specs.Turns.{Alike, Left, Rowed, Came}
use Rattle.unifier.proofs.Turning.{alike_among, alike_both, alike_more, turned_step}
use Rattle.unifier.proofs.Rowing.{fine_linked}
use Rattle.unifier.specs.declared.misfit.Misfit.{Misfit}
use Rattle.unifier.specs.declared.misfit.Misfit.TheVariants.{Clash as Clashed, Full}
use Rattle.cells.specs.declared.Bare.{Bare}
use Rattle.cells.specs.declared.Bare.TheVariants.{Whole, Tenth, Flag, Absent, Empty}
use Rattle.cells.specs.declared.Wrap.{Wrap}
use Rattle.cells.specs.declared.Wrap.TheVariants.{List as ListOf, Record as RecordOf, Has as HasOf}

-- a turn that links, or does nothing
pub left_by : (cs : List (Cell ℕ)) (a b : ℕ) (new hs qs : List (Pair ℕ)) (ds : List (Cell ℕ)) → a < length cs → b < length cs → Alike cs hs → Fine ds → ((i : ℕ) → i < length cs → sort_at ds i ≡ sort_at cs i) →
    Alike ds new → Stepped cs a b new ds → qs ≡ new ++ hs → Left 1 cs (pair a b ∷ hs) ds qs
left_by cs a b new hs qs ds al bl am f so an s e =
    subst (λ (x : List (Pair ℕ)). Left 1 cs (pair a b ∷ hs) ds x) (sym e)
    (record {
      turned = turned_step cs a b new hs ds al bl (alike_among cs hs am) s;
      fine = f;
      alike = alike_both ds new hs an (alike_more cs ds s.more so hs am);
    })

-- nothing to do: the cells say it already
pub stood : (cs : List (Cell ℕ)) (a b : ℕ) → Formed cs → ((d : ℕ) (v : Valuation) → Holds (cut d) cs v → cut d (v a) ≡ cut d (v b)) → Stepped cs a b [] cs
stood cs a b f h = record {
  formed = f;
  more = omega arith;
  even = (0, omega arith);
  known = tt;
  paid = omega arith;
  nearer = λ C p l. omega arith;
  grow = λ v. v;
  agree = λ v i l. refl;
  down = λ d v k e. (holds_less d cs v k, tt);
  up = λ d v k p. (k, h d v k);
  fixed = λ v w p q a. a;
}

module _ (cs : List (Cell ℕ)) (r t : ℕ) (rl : r < length cs) (tl : t < length cs) (ne : r ≡ t → ⊥) (f : Fine cs) (ro : Root (what_at cs r)) (to : Root (what_at cs t)) (ss : sort_at cs r ≡ sort_at cs t) (hs : List (Pair ℕ)) (am : Alike cs hs) where
  -- r is linked to t, with these pairs
  linked_left : (ps qs : List (Pair ℕ)) (ds : List (Cell ℕ)) → ds ≡ linked cs r t → qs ≡ ps ++ hs → Movable (what_at cs r) → Alike cs ps → Stepped cs r t ps (linked cs r t) → Left 1 cs (pair r t ∷ hs) ds qs
  linked_left ps qs ds e eq mv ap s =
      subst (λ (x : List (Cell ℕ)). Left 1 cs (pair r t ∷ hs) x qs) (sym e)
      (left_by cs r t ps hs qs (linked cs r t) rl tl am (fine_linked cs r t rl tl ne mv f s.formed) (λ i il. sort_same cs r t rl tl ne i)
      (alike_more cs (linked cs r t) s.more (λ i il. sort_same cs r t rl tl ne i) ps ap) s eq)

  pub met_left : (ds : List (Cell ℕ)) (qs : List (Pair ℕ)) → ds ≡ linked cs r t → qs ≡ hs → what_at cs r ≡ Open → Left 1 cs (pair r t ∷ hs) ds qs
  met_left ds qs e eq w = linked_left [] qs ds e eq (subst Movable (sym w) tt) tt (open_stepped cs r t rl tl ne f.formed ro to ss w)

  pub met_same : (qs : List (Pair ℕ)) (h : Bare) → qs ≡ hs → what_at cs r ≡ Leaf h → what_at cs t ≡ Leaf h → Left 1 cs (pair r t ∷ hs) cs qs
  met_same qs h eq w u =
      left_by cs r t [] hs qs cs rl tl am f (λ i il. refl) tt
      (stood cs r t f.formed (λ d v k. subst (λ (c : What ℕ). Says (cut d) v r c) w (k r rl).0 ∙ sym (subst (λ (c : What ℕ). Says (cut d) v t c) u (k t tl).0))) eq

  one_alike : (h : Wrap) (x y : ℕ) → one_sort h (sort_at cs x) → one_sort h (sort_at cs y) → sort_at cs x ≡ sort_at cs y
  one_alike ListOf x y p q = p ∙ sym q
  one_alike RecordOf x y p q = p ∙ sym q
  one_alike HasOf x y p q = p ∙ sym q

  pub met_one : (ds : List (Cell ℕ)) (qs : List (Pair ℕ)) (h : Wrap) (x y : ℕ) → ds ≡ linked cs r t → qs ≡ pair x y ∷ hs → what_at cs r ≡ One h x → what_at cs t ≡ One h y → Left 1 cs (pair r t ∷ hs) ds qs
  met_one ds qs h x y e eq w u =
      let a = subst (Refers cs r) w (f.formed.refers r rl) in
      let b = subst (Refers cs t) u (f.formed.refers t tl) in
      linked_left (pair x y ∷ []) qs ds e eq (subst Movable (sym w) tt) (a.0, b.0, one_alike h x y a.1 b.1, tt) (one_stepped cs r t rl tl ne f.formed ro to ss h x y w u)

  pub met_two : (ds : List (Cell ℕ)) (qs : List (Pair ℕ)) (x y z q : ℕ) → ds ≡ linked cs r t → qs ≡ pair x z ∷ pair y q ∷ hs → what_at cs r ≡ Two x y → what_at cs t ≡ Two z q → Left 1 cs (pair r t ∷ hs) ds qs
  met_two ds qs x y z q e eq w u =
      let a = subst (Refers cs r) w (f.formed.refers r rl) in
      let b = subst (Refers cs t) u (f.formed.refers t tl) in
      linked_left (pair x z ∷ pair y q ∷ []) qs ds e eq (subst Movable (sym w) tt) (a.0, b.0, a.2 ∙ sym b.2, (a.1, b.1, a.3 ∙ sym b.3, tt)) (two_stepped cs r t rl tl ne f.formed ro to ss x y z q w u)

-- a turn with one pair is one with another that says the same
led_other : (k : ℕ) (cs : List (Cell ℕ)) (a b x y : ℕ) (hs : List (Pair ℕ)) (ds : List (Cell ℕ)) (qs : List (Pair ℕ)) →
    ((d : ℕ) (v : Valuation) → Holds (cut d) cs v → cut d (v a) ≡ cut d (v b) → cut d (v x) ≡ cut d (v y)) → ((d : ℕ) (v : Valuation) → Holds (cut d) cs v → cut d (v x) ≡ cut d (v y) → cut d (v a) ≡ cut d (v b)) →
    Led k cs (pair x y ∷ hs) ds qs → Led k cs (pair a b ∷ hs) ds qs
led_other k cs a b x y hs ds qs there back g = record {
  more = g.more;
  even = g.even;
  grow = g.grow;
  agree = g.agree;
  down = λ d v h p. g.down d v h (there (k + d) v h p.0, p.1);
  up = λ d v h p. let r = g.up d v h p in (r.0, (back d v r.0 r.1.0, r.1.1));
  fixed = g.fixed;
}

came_other : (limit : ℕ) (cs : List (Cell ℕ)) (a b x y : ℕ) (hs : List (Pair ℕ)) (r : Result (Unit {0}) Misfit) (ds : List (Cell ℕ)) (qs : List (Pair ℕ)) →
    ((d : ℕ) (v : Valuation) → Holds (cut d) cs v → cut d (v a) ≡ cut d (v b) → cut d (v x) ≡ cut d (v y)) → ((d : ℕ) (v : Valuation) → Holds (cut d) cs v → cut d (v x) ≡ cut d (v y) → cut d (v a) ≡ cut d (v b)) →
    Came limit cs x y hs r ds qs → Came limit cs a b hs r ds qs
came_other limit cs a b x y hs (Ok tt) ds qs there back c = record {
  turned = record { turns = c.turned.turns; led = led_other c.turned.turns cs a b x y hs ds qs there back c.turned.led; paid = c.turned.paid; nearer = c.turned.nearer };
  fine = c.fine;
  alike = c.alike;
}
came_other limit cs a b x y hs (Err Clashed) ds qs there back c = λ v h e. c v h (there (suc zero) v h e)
came_other limit cs a b x y hs (Err Full) ds qs there back c = c

pub came_turn : (limit : ℕ) (cs : List (Cell ℕ)) (a b : ℕ) (hs : List (Pair ℕ)) (r : Result (Unit {0}) Misfit) (ds : List (Cell ℕ)) (qs : List (Pair ℕ)) → Came limit cs b a hs r ds qs → Came limit cs a b hs r ds qs
came_turn limit cs a b hs r ds qs c = came_other limit cs a b b a hs r ds qs (λ d v h e. sym e) (λ d v h e. sym e) c

pub came_from : (limit : ℕ) (cs : List (Cell ℕ)) {a b x y : ℕ} (hs : List (Pair ℕ)) (r : Result (Unit {0}) Misfit) (ds : List (Cell ℕ)) (qs : List (Pair ℕ)) → Leads cs a x → Leads cs b y → Came limit cs x y hs r ds qs → Came limit cs a b hs r ds qs
came_from limit cs {a = a} {b = b} {x = x} {y = y} hs r ds qs la lb c =
    came_other limit cs a b x y hs r ds qs
    (λ d v h e. sym (lead (cut d) cs v h la) ∙ e ∙ lead (cut d) cs v h lb)
    (λ d v h e. lead (cut d) cs v h la ∙ e ∙ sym (lead (cut d) cs v h lb)) c

-- both lead to one root already
pub came_same : (limit : ℕ) (cs : List (Cell ℕ)) (a b x y : ℕ) (hs : List (Pair ℕ)) → a < length cs → b < length cs → Fine cs → Alike cs hs → Leads cs a x → Leads cs b y → x ≡ y → Came limit cs a b hs (Ok tt) cs hs
came_same limit cs a b x y hs al bl f am la lb e =
    left_by cs a b [] hs hs cs al bl am f (λ i il. refl) tt
    (stood cs a b f.formed (λ d v h. lead (cut d) cs v h la ∙ ap (λ (i : ℕ). cut d (v i)) e ∙ sym (lead (cut d) cs v h lb))) refl

-- what an answer tells of two roots
abbrev pub Means : What ℕ → What ℕ → Meet → Type 0
Means w u Clash = Unit {0}
Means w u LeftOpen = w ≡ Open
Means w u RightOpen = u ≡ Open
Means w u Same = (h : Bare) × (w ≡ Leaf h) × (u ≡ Leaf h)
Means w u (OnePair p) = (h : Wrap) × (x : ℕ) × (y : ℕ) × (w ≡ One h x) × (u ≡ One h y) × (p ≡ pair x y)
Means w u (TwoPairs p q) = (x : ℕ) × (y : ℕ) × (z : ℕ) × (n : ℕ) × (w ≡ Two x y) × (u ≡ Two z n) × (p ≡ pair x z) × (q ≡ pair y n)
Means w u Over = Rowed w × (built u ≡ 1)
Means w u Under = Rowed u × (built w ≡ 1)

-- a place has one head
bare_of : ℕ → Bare
bare_of zero = Whole
bare_of (suc zero) = Tenth
bare_of (suc (suc zero)) = Flag
bare_of (suc (suc (suc zero))) = Absent
bare_of (suc (suc (suc (suc n)))) = Empty

bare_back : (h : Bare) → bare_of (bare_place h) ≡ h
unfolding bare_of
bare_back Whole = refl
bare_back Tenth = refl
bare_back Flag = refl
bare_back Absent = refl
bare_back Empty = refl

one_bare : (h k : Bare) → bare_place h ≡ bare_place k → h ≡ k
one_bare h k e = sym (bare_back h) ∙ ap bare_of e ∙ bare_back k

wrap_of : ℕ → Wrap
wrap_of zero = ListOf
wrap_of (suc zero) = RecordOf
wrap_of (suc (suc n)) = HasOf

wrap_back : (h : Wrap) → wrap_of (wrap_place h) ≡ h
unfolding wrap_of
wrap_back ListOf = refl
wrap_back RecordOf = refl
wrap_back HasOf = refl

one_wrap : (h k : Wrap) → wrap_place h ≡ wrap_place k → h ≡ k
one_wrap h k e = sym (wrap_back h) ∙ ap wrap_of e ∙ wrap_back k

means_leaf : (h : Bare) (u : What ℕ) → Means (Leaf h) u (meet_of (Leaf h) u)
means_leaf h Open = refl
means_leaf h (Link p) = tt
means_leaf h (Leaf k) = go (eqb (bare_place h) (bare_place k)) refl
  where
    go : (t : Bool) → eqb (bare_place h) (bare_place k) ≡ t → Means (Leaf h) (Leaf k) (cond t Same Clash)
    go true e = (h, refl, ap Leaf (sym (one_bare h k (eqb-true (bare_place h) (bare_place k) e))))
    go false e = tt
means_leaf h (One k x) = tt
means_leaf h (Two x y) = tt
means_leaf h (RowAt l x y) = (tt, refl)

means_one : (h : Wrap) (x : ℕ) (u : What ℕ) → Means (One h x) u (meet_of (One h x) u)
means_one h x Open = refl
means_one h x (Link p) = tt
means_one h x (Leaf k) = tt
means_one h x (One k y) = go (eqb (wrap_place h) (wrap_place k)) refl
  where
    go : (t : Bool) → eqb (wrap_place h) (wrap_place k) ≡ t → Means (One h x) (One k y) (cond t (OnePair (pair x y)) Clash)
    go true e = (h, x, y, refl, ap (λ (i : Wrap). One i y) (sym (one_wrap h k (eqb-true (wrap_place h) (wrap_place k) e))), refl)
    go false e = tt
means_one h x (Two y z) = tt
means_one h x (RowAt l y z) = tt

means_two : (x y : ℕ) (u : What ℕ) → Means (Two x y) u (meet_of (Two x y) u)
means_two x y Open = refl
means_two x y (Link p) = tt
means_two x y (Leaf k) = tt
means_two x y (One k z) = tt
means_two x y (Two z w) = (x, y, z, w, refl, refl, refl, refl)
means_two x y (RowAt l z w) = tt

means_row : (l x y : ℕ) (u : What ℕ) → Means (RowAt l x y) u (meet_of (RowAt l x y) u)
means_row l x y Open = refl
means_row l x y (Link p) = tt
means_row l x y (Leaf k) = (tt, refl)
means_row l x y (One k z) = tt
means_row l x y (Two z w) = tt
means_row l x y (RowAt k z w) = (tt, refl)

means : (w u : What ℕ) → Means w u (meet_of w u)
means Open u = refl
means (Link p) u = tt
means (Leaf h) u = means_leaf h u
means (One h x) u = means_one h x u
means (Two x y) u = means_two x y u
means (RowAt l x y) u = means_row l x y u

-- by what was read
pub answered : (cs : List (Cell ℕ)) (r t : ℕ) (f g : Cell ℕ) (m x : Meet) → r < length cs → t < length cs → f ≡ get_or cs r f → g ≡ get_or cs t g → m ≡ meet_of f.what g.what → m ≡ x → meet_of (what_at cs r) (what_at cs t) ≡ x
answered cs r t f g m x rl tl ef eg em e =
    sym (ap₂ (λ (c d : Cell ℕ). meet_of c.what d.what) (get_or_read cs r f rl ef none) (get_or_read cs t g tl eg none)) ∙ sym em ∙ e

pub meant : (cs : List (Cell ℕ)) (r t : ℕ) (f g : Cell ℕ) (m x : Meet) → r < length cs → t < length cs → f ≡ get_or cs r f → g ≡ get_or cs t g → m ≡ meet_of f.what g.what → m ≡ x → Means (what_at cs r) (what_at cs t) x
meant cs r t f g m x rl tl ef eg em e = subst (Means (what_at cs r) (what_at cs t)) (answered cs r t f g m x rl tl ef eg em e) (means (what_at cs r) (what_at cs t))
