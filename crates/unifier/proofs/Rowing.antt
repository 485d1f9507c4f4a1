-- The whole turn of two rows, by their tables.
use Rattle.std.proofs.Common.{◌≡◌, ℕ, ◌<◌, true, false, eqb, List, [], ◌∷◌, length, sym, refl, ap, ◌∙◌, subst, ap₂, inl, inr, ⊎_elim, arith}
use Rattle.std.proofs.lemmas.Bool.{cases_eq, cases_Bool, eqb-true, cond-false, false≢true}
use Rattle.ground.specs.declared.sort.Sort.TheVariants.{Field as OfField, Row as OfRow}
use Rattle.ground.specs.declared.sort.Labels.{Labels}
use Rattle.cells.specs.declared.What.TheVariants.{Open, Leaf, Row as RowAt}
use Rattle.cells.specs.declared.Cell.{Cell}
use Rattle.cells.specs.declared.Pair.{Pair}
use Rattle.cells.specs.Cells.{what_at, sort_at, Root, rootly, Formed, Leads, stay, on, linked}
use Rattle.cells.specs.Rows.{Shown, Chain, ends, shows, shown, lookup, Tail, Rooted, bare, over}
use Rattle.cells.specs.Steps.{pair, pairs_at, Stepped}
use Rattle.cells.specs.Widths.{Widened}
use Rattle.cells.proofs.Linking.{what_from, what_else, sort_same, length_linked}
use Rattle.cells.proofs.Chains.{known, chain_sort, chain_field}
use Rattle.cells.proofs.Labelling.{tails_same}
use Rattle.cells.proofs.Whole.{row_stepped}
use Rattle.unifier.specs.declared.side.Side.{Side}
use Rattle.unifier.specs.Trails.{Movable}
use Rattle.unifier.specs.Fine.{Fine, Proper, Small}
use Rattle.unifier.specs.Sides.{Ended, Facing, Covered}
use Rattle.unifier.specs.Notes.{field_pairs}
use Rattle.unifier.specs.Turns.{Alike, Fieldly, Tails}
use Rattle.unifier.proofs.Sharing.{tail_is, open_leaf}
use Rattle.unifier.proofs.Noting.{labels, labels_length, label_left, label_right, pairs_are, shown_found, hidden_found}
use Rattle.cells.specs.declared.Bare.TheVariants.{Absent, Empty}

-- a root leads to itself alone, so its chain begins with itself
leads_root : (cs : List (Cell ℕ)) {c r : ℕ} → Root (what_at cs c) → Leads cs c r → r ≡ c
leads_root cs ro stay = refl
leads_root cs ro (on {i = i} {p = p} l e) =
    let q = leads_root cs ro l in
    absurd (let z : ◌≡◌ {A = ℕ} 1 0 = sym ro ∙ ap rootly (ap (what_at cs) (sym q) ∙ e) in let y : ⊥ = omega arith in y)

rooted_of : (cs : List (Cell ℕ)) {c t : ℕ} {fs : List Shown} → Root (what_at cs c) → Chain cs c fs t → Rooted cs c fs t
rooted_of cs {c = c} ro (ends l) = subst (λ (r : ℕ). Rooted cs c [] r) (sym (leads_root cs ro l)) bare
rooted_of cs {c = c} ro (shows p e ch) = over (ap (what_at cs) (sym (leads_root cs ro p)) ∙ e) ch

-- what follows a row
row_rest : (cs : List (Cell ℕ)) {a t : ℕ} {fs : List Shown} (l x y : ℕ) → what_at cs a ≡ RowAt l x y → Ended (what_at cs t) → Chain cs a fs t → (gs : List Shown) × (fs ≡ record { label = l; field = x } ∷ gs) × Chain cs y gs t
row_rest cs {a = a} {t = t} l x y w en (ends p) =
    absurd (subst Ended (ap (what_at cs) (leads_root cs (ap rootly w) p) ∙ w) en)
row_rest cs {a = a} {t = t} l x y w en (shows {z = z} {l = k} {x = u} {y = v} {fs = gs} p e ch) =
    let q : RowAt k u v ≡ RowAt l x y = sym e ∙ ap (what_at cs) (leads_root cs (ap rootly w) p) ∙ w in
    let ek : k ≡ l = cc in
    let eu : u ≡ x = cc in
    let ev : v ≡ y = cc in
    (gs, ap₂ (λ (i j : ℕ). record { label = i; field = j } ∷ gs) ek eu, subst (λ (i : ℕ). Chain cs i gs t) ev ch)

chain_few : (cs : List (Cell ℕ)) {c t : ℕ} {fs : List Shown} → Fine cs → Chain cs c fs t → (k : ℕ) → shown fs k ≡ true → k < 24
chain_few cs f (ends p) k e = absurd (false≢true e)
chain_few cs f (shows {z = z} {l = l} {x = x} {y = y} {fs = fs} p w ch) k e =
    let rest : shown fs k ≡ true → k < 24 = λ q. chain_few cs f ch k q in
    ⊎_elim
    (λ (q : eqb k l ≡ true). subst (λ (i : ℕ). i < 24) (sym (eqb-true k l q)) (subst Proper w (f.proper z (known cs z (RowAt l x y) w refl))).0)
    (λ (q : eqb k l ≡ false). rest (sym (cond-false (eqb k l) true (shown fs k) q) ∙ e))
    (cases_Bool (eqb k l))

alike_at : (cs : List (Cell ℕ)) (fs gs : List Shown) (ks : List ℕ) → ((k : ℕ) → (lookup fs k 0 < length cs) × (sort_at cs (lookup fs k 0) ≡ OfField)) → ((k : ℕ) → (lookup gs k 0 < length cs) × (sort_at cs (lookup gs k 0) ≡ OfField)) →
    Alike cs (pairs_at fs gs 0 ks)
alike_at cs fs gs [] ha hb = tt
alike_at cs fs gs (k ∷ ks) ha hb = ((ha k).0, (hb k).0, (ha k).1 ∙ sym (hb k).1, alike_at cs fs gs ks ha hb)

fieldly_at : (cs : List (Cell ℕ)) (fs gs : List Shown) (ks : List ℕ) → ((k : ℕ) → sort_at cs (lookup fs k 0) ≡ OfField) → Fieldly cs (pairs_at fs gs 0 ks)
fieldly_at cs fs gs [] h = tt
fieldly_at cs fs gs (k ∷ ks) h = (h k, fieldly_at cs fs gs ks h)

-- a link keeps cells as the solver keeps them
pub fine_linked : (cs : List (Cell ℕ)) (r t : ℕ) → r < length cs → t < length cs → (r ≡ t → ⊥) → Movable (what_at cs r) → Fine cs → Formed (linked cs r t) → Fine (linked cs r t)
fine_linked cs r t rl tl ne mv f formed = record {
  formed = formed;
  proper = λ i il.
      ⊎_elim
      (λ (e : i ≡ r). subst Proper (sym (ap (what_at (linked cs r t)) e ∙ what_from cs r t rl tl ne)) tt)
      (λ (q : i ≡ r → ⊥). subst Proper (sym (what_else cs r t rl tl ne i q)) (f.proper i (omega (arith, length_linked cs r t rl tl ne, il))))
      (cases_eq i r);
  small = λ i il. subst Small (sym (sort_same cs r t rl tl ne i)) (f.small i (omega (arith, length_linked cs r t rl tl ne, il)));
  absent = what_else cs r t rl tl ne 0 (λ e. subst Movable (ap (what_at cs) (sym e) ∙ f.absent) mv) ∙ f.absent;
  field = sort_same cs r t rl tl ne 0 ∙ f.field;
}

module _ (cs ds : List (Cell ℕ)) (a b l x y : ℕ) (s t : Side) (ne : a ≡ b → ⊥) (wd : Widened cs a b ds) (al : a < length cs) (bl : b < length cs) (f : Facing ds s t) (ra : s.root ≡ a) (rb : t.root ≡ b)
    (cov : Covered ds s t 24) (wa : what_at ds a ≡ RowAt l x y) (ro : Root (what_at ds b)) where
  abbrev fs : List Shown
  fs = f.left.shows

  abbrev gs : List Shown
  gs = f.right.shows

  abbrev es : List (Cell ℕ)
  es = linked ds a b

  chain_a : Chain ds a fs s.tail
  chain_a = subst (λ (i : ℕ). Chain ds i fs s.tail) ra f.left.chain

  chain_b : Chain ds b gs t.tail
  chain_b = subst (λ (i : ℕ). Chain ds i gs t.tail) rb f.right.chain

  sa : sort_at ds a ≡ OfRow f.lacked
  sa = ap (sort_at ds) (sym ra) ∙ f.left_sort

  sb : sort_at ds b ≡ OfRow f.lacked
  sb = ap (sort_at ds) (sym rb) ∙ f.right_sort

  al2 : a < length ds
  al2 = omega (arith, wd.cells, al)

  bl2 : b < length ds
  bl2 = omega (arith, wd.cells, bl)

  zl : 0 < length ds
  zl = known ds 0 (Leaf Absent) f.fine.absent refl

  rest : (hs : List Shown) × (fs ≡ record { label = l; field = x } ∷ hs) × Chain ds y hs s.tail
  rest = row_rest ds l x y wa f.left.ended chain_a

  -- a label shown by one alone: the other's tail is empty
  only_b : (k : ℕ) → shown fs k ≡ false → shown gs k ≡ true → what_at ds s.tail ≡ Leaf Empty
  only_b k p q =
      let kl = chain_few ds f.fine f.right.chain k q in
      (cov k kl).1 (lookup gs k 0) (f.right.table k kl ∙ shown_found gs k 0 q) (f.left.table k kl ∙ hidden_found fs k p)

  only_a : (k : ℕ) → shown fs k ≡ true → shown gs k ≡ false → what_at ds t.tail ≡ Leaf Empty
  only_a k p q =
      let kl = chain_few ds f.fine f.left.chain k p in
      (cov k kl).0 (lookup fs k 0) (f.left.table k kl ∙ shown_found fs k 0 p) (f.right.table k kl ∙ hidden_found gs k q)

  pairs : field_pairs s t 24 ≡ pairs_at fs gs 0 (labels s t 24)
  pairs = pairs_are s t fs gs 24 f.left.table f.right.table

  abbrev Goal : List Shown → Type 0
  Goal hs = Stepped cs a b (pair s.tail t.tail ∷ pairs_at hs gs 0 (labels s t 24)) es

  abbrev all : List Shown
  all = record { label = l; field = x } ∷ rest.0

  stepped_all : Goal all
  stepped_all =
      let e = rest.1 in
      row_stepped cs ds a b 0 l x y s.tail t.tail rest.0 gs f.lacked al bl ne wd wa ro rest.2 (rooted_of ds ro chain_b) sa sb zl f.fine.absent f.fine.field
      f.left.known f.right.known (labels s t 24) (labels_length s t 24)
      (λ k p q. only_b k (subst (λ (h : List Shown). shown h k ≡ false) (sym e) p) q)
      (λ k p q. only_a k (subst (λ (h : List Shown). shown h k ≡ true) (sym e) p) q)
      (λ k p.
      let p2 = subst (λ (h : List Shown). shown h k ≡ true) (sym e) p in
      let kl = chain_few ds f.fine f.left.chain k p2 in
      label_left s t 24 k (lookup fs k 0) kl (f.left.table k kl ∙ shown_found fs k 0 p2))
      (λ k p.
      let kl = chain_few ds f.fine f.right.chain k p in
      label_right s t 24 k (lookup gs k 0) kl (f.right.table k kl ∙ shown_found gs k 0 p))

  pub rows_stepped : Stepped cs a b (pair s.tail t.tail ∷ field_pairs s t 24) es
  rows_stepped =
      subst (λ (ps : List (Pair ℕ)). Stepped cs a b (pair s.tail t.tail ∷ ps) es) (sym pairs)
      (subst Goal (sym rest.1) stepped_all)

  movable : Movable (what_at ds a)
  movable = subst Movable (sym wa) tt

  pub rows_fine : Fine es
  rows_fine = fine_linked ds a b al2 bl2 ne movable f.fine rows_stepped.formed

  ll : length es ≡ length ds
  ll = length_linked ds a b al2 bl2 ne

  pub rows_alike : Alike es (field_pairs s t 24)
  rows_alike =
      subst (Alike es) (sym pairs)
      (alike_at es fs gs (labels s t 24)
      (λ k. let h = chain_field ds 0 f.fine.formed f.left.chain zl f.fine.field k in (omega (arith, ll, h.0), sort_same ds a b al2 bl2 ne (lookup fs k 0) ∙ h.1))
      (λ k. let h = chain_field ds 0 f.fine.formed f.right.chain zl f.fine.field k in (omega (arith, ll, h.0), sort_same ds a b al2 bl2 ne (lookup gs k 0) ∙ h.1)))

  pub rows_fieldly : Fieldly es (field_pairs s t 24)
  rows_fieldly =
      subst (Fieldly es) (sym pairs)
      (fieldly_at es fs gs (labels s t 24) (λ k. sort_same ds a b al2 bl2 ne (lookup fs k 0) ∙ (chain_field ds 0 f.fine.formed f.left.chain zl f.fine.field k).1))

  -- the tails stand as they were
  not_a : (i : ℕ) → Ended (what_at ds i) → i ≡ a → ⊥
  not_a i en e = subst Ended (ap (what_at ds) e ∙ wa) en

  what_left : what_at es s.tail ≡ what_at ds s.tail
  what_left = what_else ds a b al2 bl2 ne s.tail (not_a s.tail f.left.ended)

  what_right : what_at es t.tail ≡ what_at ds t.tail
  what_right = what_else ds a b al2 bl2 ne t.tail (not_a t.tail f.right.ended)

  row_a : (n : Labels) × (sort_at ds s.tail ≡ OfRow n) × Tail fs f.lacked n
  row_a = chain_sort ds f.lacked f.fine.formed chain_a sa

  row_b : (n : Labels) × (sort_at ds t.tail ≡ OfRow n) × Tail gs f.lacked n
  row_b = chain_sort ds f.lacked f.fine.formed chain_b sb

  -- open tails: the rows show the same labels, so their tails lack the same
  one_set : what_at ds s.tail ≡ Open → what_at ds t.tail ≡ Open → sort_at ds s.tail ≡ sort_at ds t.tail
  one_set p q =
      let agree : (k : ℕ) → shown fs k ≡ shown gs k = λ k.
      ⊎_elim
      (λ (e : shown fs k ≡ true).
      ⊎_elim (λ (h : shown gs k ≡ true). e ∙ sym h) (λ (h : shown gs k ≡ false). absurd (open_leaf Empty (sym q ∙ only_a k e h))) (cases_Bool (shown gs k)))
      (λ (e : shown fs k ≡ false).
      ⊎_elim (λ (h : shown gs k ≡ true). absurd (open_leaf Empty (sym p ∙ only_b k e h))) (λ (h : shown gs k ≡ false). e ∙ sym h) (cases_Bool (shown gs k)))
      (cases_Bool (shown fs k)) in
      let e = tails_same fs gs f.lacked row_a.0 row_b.0 row_a.2 row_b.2 agree
      (subst Small row_a.1 (f.fine.small s.tail f.left.known)) (subst Small row_b.1 (f.fine.small t.tail f.right.known)) in
      row_a.1 ∙ ap (λ (n : ℕ). OfRow (record { 0 = n })) e ∙ sym row_b.1

  pub rows_tails : Tails es s.tail t.tail
  rows_tails = record {
    left_known = omega (arith, ll, f.left.known);
    right_known = omega (arith, ll, f.right.known);
    left = ⊎_elim (λ (e : what_at ds s.tail ≡ Open). inl (what_left ∙ e)) (λ (e : what_at ds s.tail ≡ Leaf Empty). inr (what_left ∙ e)) (tail_is ds s.tail row_a.0 f.fine f.left.known f.left.ended row_a.1);
    right = ⊎_elim (λ (e : what_at ds t.tail ≡ Open). inl (what_right ∙ e)) (λ (e : what_at ds t.tail ≡ Leaf Empty). inr (what_right ∙ e)) (tail_is ds t.tail row_b.0 f.fine f.right.known f.right.ended row_b.1);
    left_row = (row_a.0, sort_same ds a b al2 bl2 ne s.tail ∙ row_a.1);
    right_row = (row_b.0, sort_same ds a b al2 bl2 ne t.tail ∙ row_b.1);
    same = λ p q. sort_same ds a b al2 bl2 ne s.tail ∙ one_set (sym what_left ∙ p) (sym what_right ∙ q) ∙ sym (sort_same ds a b al2 bl2 ne t.tail);
  }
