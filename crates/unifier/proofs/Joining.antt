-- Two rows become one: what each part of the turn leaves for the next.
use Rattle.std.proofs.Common.{◌≡◌, ℕ, ◌+◌, ◌<◌, ◌≤◌, List, ◌∷◌, ◌++◌, length, sym, refl, ap, ◌∙◌, subst, subst₂, append_assoc, arith, Ok}
use Rattle.ground.specs.declared.sort.Sort.{Sort}
use Rattle.ground.specs.declared.sort.Sort.TheVariants.{«Type» as OfType, Field as OfField, Row as OfRow}
use Rattle.cells.specs.declared.What.{What}
use Rattle.cells.specs.declared.What.TheVariants.{Open, Link, Leaf, One, Two, Row as RowAt}
use Rattle.cells.specs.declared.Cell.{Cell}
use Rattle.cells.specs.declared.Pair.{Pair}
use Rattle.cells.specs.Cells.{what_at, rank_at, sort_at, Over, Root, rootly, Refers, Formed, linked}
use Rattle.cells.specs.Steps.{pair}
use Rattle.cells.specs.Widths.{Widened, built}
use Rattle.cells.proofs.Linking.{sort_same, length_linked}
use Rattle.unifier.specs.declared.side.Side.{Side}
use Rattle.unifier.specs.declared.undo.Undo.{Undo}
use Rattle.unifier.specs.Trails.{Movable, Since}
use Rattle.unifier.specs.Fine.{Fine, Rowly}
use Rattle.unifier.specs.Sides.{Tabled, Facing, Covered, Widens}
use Rattle.unifier.specs.Notes.{field_pairs}
use Rattle.unifier.specs.Turns.{Alike, Fieldly, Turned, Left, Tails, Rowed, trees, price, Spent}
use Rattle.unifier.proofs.Turning.{alike_among, alike_both, alike_more, turned_more, turned_step}
use Rattle.unifier.proofs.Rowing.{rows_stepped, rows_fine, rows_alike, rows_fieldly, rows_tails}
use Rattle.unifier.proofs.Swapping.{alike_left}
use Rattle.unifier.proofs.Paying.{fieldly_both, fieldly_since, trees_linked}

pub noted_below : (ps fs gs hs : List (Pair ℕ)) → gs ≡ ps ++ fs → gs ++ hs ≡ ps ++ (fs ++ hs)
noted_below ps fs gs hs e = ap (λ (x : List (Pair ℕ)). x ++ hs) e ∙ append_assoc ps fs hs

pub is_row : (w : What ℕ) → Rowed w → (l : ℕ) × (x : ℕ) × (y : ℕ) × (w ≡ RowAt l x y)
is_row Open h = absurd h
is_row (Link p) h = absurd h
is_row (Leaf k) h = absurd h
is_row (One k x) h = absurd h
is_row (Two x y) h = absurd h
is_row (RowAt l x y) h = (l, x, y, refl)

over_rowly : (s t : Sort) (l : ℕ) → Over s l t → Rowly s
over_rowly OfType t l o = absurd o
over_rowly OfField t l o = absurd o
over_rowly (OfRow m) t l o = (m, refl)

pub row_sort : (cs : List (Cell ℕ)) (a : ℕ) → Formed cs → a < length cs → Rowed (what_at cs a) → Rowly (sort_at cs a)
row_sort cs a f al h =
    let r = is_row (what_at cs a) h in
    let g = subst (Refers cs a) r.3 (f.refers a al) in
    over_rowly (sort_at cs a) (sort_at cs r.2) r.0 g.3

pub rows_face : (cs : List (Cell ℕ)) (a b : ℕ) (p q : Side) → Fine cs → a < length cs → Rowed (what_at cs a) → sort_at cs a ≡ sort_at cs b → Tabled cs p → Tabled cs q → p.root ≡ a → q.root ≡ b → Facing cs p q
rows_face cs a b p q f al h e tp tq ep eq =
    let s = row_sort cs a f.formed al h in
    record {
      fine = f;
      left = tp;
      right = tq;
      lacked = s.0;
      left_sort = ap (sort_at cs) ep ∙ s.1;
      right_sort = ap (sort_at cs) eq ∙ sym e ∙ s.1;
    }

module _ (cs : List (Cell ℕ)) (a b : ℕ) (al : a < length cs) (bl : b < length cs) (ne : a ≡ b → ⊥) (row : Rowed (what_at cs a)) (ro : Root (what_at cs b)) (bu : built (what_at cs b) ≡ 1)
    (p q : Side) (ep : p.root ≡ a) (eq : q.root ≡ b) (ds : List (Cell ℕ)) (s t : Side) (w : Widens cs p q ds s t) where
  abbrev r : (l : ℕ) × (x : ℕ) × (y : ℕ) × (what_at cs a ≡ RowAt l x y)
  r = is_row (what_at cs a) row

  wd : Widened cs a b ds
  wd = subst₂ (λ (i j : ℕ). Widened cs i j ds) ep eq w.wide

  wa : what_at ds a ≡ RowAt r.0 r.1 r.2
  wa = wd.stays a (RowAt r.0 r.1 r.2) r.3 refl

  wb : Root (what_at ds b)
  wb = subst Root (sym (wd.stays b (what_at cs b) refl bu)) ro

  al2 : a < length ds
  al2 = omega (arith, wd.cells, al)

  bl2 : b < length ds
  bl2 = omega (arith, wd.cells, bl)

  -- what the link asks for
  pub record Linkable : Type 0 where
    pub low : rank_at ds a ≤ length ds
    pub from : a < length ds
    pub to : b < length ds
    pub one : Movable (what_at ds a)
    pub two : Root (what_at ds b)

  pub rows_linkable : Linkable
  rows_linkable = record {
    low = let k = wd.formed.ranks a al2 in omega (arith, k);
    from = al2;
    to = bl2;
    one = subst Movable (sym wa) tt;
    two = wb;
  }

  module _ (cov : Covered ds s t 24) (hs ks : List (Pair ℕ)) (es : List (Cell ℕ)) (ee : es ≡ linked ds a b) (ek : ks ≡ field_pairs s t 24 ++ hs) (am : Alike cs hs) where
    ra : s.root ≡ a
    ra = w.left_root ∙ ep

    rb : t.root ≡ b
    rb = w.right_root ∙ eq

    ll : length (linked ds a b) ≡ length ds
    ll = length_linked ds a b al2 bl2 ne

    joined_fine : Fine es
    joined_fine = subst Fine (sym ee) (rows_fine cs ds a b r.0 r.1 r.2 s t ne wd al bl w.facing ra rb cov wa wb)

    joined_tails : Tails es s.tail t.tail
    joined_tails = subst (λ (e : List (Cell ℕ)). Tails e s.tail t.tail) (sym ee) (rows_tails cs ds a b r.0 r.1 r.2 s t ne wd al bl w.facing ra rb cov wa wb)

    joined_alike : Alike es ks
    joined_alike =
        subst₂ Alike (sym ee) (sym ek)
        (alike_both (linked ds a b) (field_pairs s t 24) hs (rows_alike cs ds a b r.0 r.1 r.2 s t ne wd al bl w.facing ra rb cov wa wb)
        (alike_more cs (linked ds a b) (omega (arith, ll, wd.cells)) (λ i il. sort_same ds a b al2 bl2 ne i ∙ wd.sorts i il) hs am))

    joined_turned : Turned 1 cs (pair a b ∷ hs) es (pair s.tail t.tail ∷ ks)
    joined_turned =
        subst₂ (λ (e : List (Cell ℕ)) (k : List (Pair ℕ)). Turned 1 cs (pair a b ∷ hs) e (pair s.tail t.tail ∷ k)) (sym ee) (sym ek)
        (turned_step cs a b (pair s.tail t.tail ∷ field_pairs s t 24) hs (linked ds a b) al bl (alike_among cs hs am)
        (rows_stepped cs ds a b r.0 r.1 r.2 s t ne wd al bl w.facing ra rb cov wa wb))

    joined : (fs : List (Cell ℕ)) (qs : List (Pair ℕ)) → Left 0 es (pair s.tail t.tail ∷ ks) fs qs → Left 1 cs (pair a b ∷ hs) fs qs
    joined fs qs h = record {
      turned = turned_more 1 0 cs (pair a b ∷ hs) es (pair s.tail t.tail ∷ ks) fs qs joined_turned h.turned;
      fine = h.fine;
      alike = h.alike;
    }

    -- an extension takes two cells for a root, the link takes a root, and the tails ask for one slot
    joined_spent : (limit : ℕ) (gs fs zs qs : List (Pair ℕ)) (us : List (Cell ℕ)) (tr te tu : List Undo) → Since cs tr es te → Since es te us tu → length ds ≤ limit → Alike cs (fs ++ zs) → Fieldly cs fs → gs ≡ field_pairs s t 24 ++ fs →
        Alike es gs → length qs + trees limit us ≤ length zs + 1 + trees limit es → Spent limit (sort_at cs a) cs zs (Ok tt) us gs qs
    joined_spent limit gs fs zs qs us tr te tu s1 s2 dl az hf eg ag l =
        let here : Fieldly es (field_pairs s t 24) = subst (λ (e : List (Cell ℕ)). Fieldly e (field_pairs s t 24)) (sym ee) (rows_fieldly cs ds a b r.0 r.1 r.2 s t ne wd al bl w.facing ra rb cov wa wb) in
        let all : Fieldly es gs = subst (Fieldly es) (sym eg) (fieldly_both es (field_pairs s t 24) fs here (fieldly_since cs es tr te s1 fs (alike_left cs fs zs az) hf)) in
        let less : trees limit ds ≤ trees limit cs = omega (arith, wd.cells, wd.trees, dl) in
        (fieldly_since es us te tu s2 gs ag all, go (length qs) (length zs) (trees limit us) (trees limit es) (trees limit ds) (trees limit cs) (price (sort_at cs a)) l (trees_linked limit ds es a b al2 bl2 ne (ap rootly wa) ee) less)
      where
        go : (q z x y v u p : ℕ) → q + x ≤ z + 1 + y → y + 1 ≡ v → v ≤ u → q + x ≤ z + p + u
        go q z x y v u p a b c = omega arith

    -- what the rows became: cells in order, tails that may be joined, pairs of one sort; what the rest of the turn leaves, and what it spends
    pub joined_all : Fine es × Tails es s.tail t.tail × Alike es ks × ((fs : List (Cell ℕ)) (qs : List (Pair ℕ)) → Left 0 es (pair s.tail t.tail ∷ ks) fs qs → Left 1 cs (pair a b ∷ hs) fs qs)
        × ((limit : ℕ) (gs fs zs qs : List (Pair ℕ)) (us : List (Cell ℕ)) (tr te tu : List Undo) → Since cs tr es te → Since es te us tu → length ds ≤ limit → Alike cs (fs ++ zs) → Fieldly cs fs → gs ≡ field_pairs s t 24 ++ fs → Alike es gs → length qs + trees limit us ≤ length zs + 1 + trees limit es → Spent limit (sort_at cs a) cs zs (Ok tt) us gs qs)
    joined_all = (joined_fine, joined_tails, joined_alike, joined, joined_spent)
