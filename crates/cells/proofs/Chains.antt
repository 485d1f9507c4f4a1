-- What a chain says of a valuation, its sorts, and how an extension lengthens it.
use Rattle.std.proofs.Common.{◌≡◌, ℕ, suc, ◌<◌, ◌≤◌, Bool, true, false, cond, eqb, ◌⊎◌, List, [], ◌∷◌, ◌++◌, length, sym, refl, ap, ◌∙◌, subst, inl, inr, ⊎_elim, arith}
use Rattle.std.proofs.lemmas.List.{get_or_past}
use Rattle.std.proofs.lemmas.Bool.{cases_lt, cases_Bool, eqb-true, eqb-false, cond-true, cond-false, false≢true}
use Rattle.ground.specs.Values.{Value, at, put}
use Rattle.ground.specs.Sorts.{In}
use Rattle.ground.specs.declared.sort.Sort.{Sort}
use Rattle.ground.specs.declared.sort.Sort.TheVariants.{«Type» as OfType, Field as OfField, Row as OfRow}
use Rattle.ground.specs.declared.sort.Labels.{Labels}
use Rattle.ground.proofs.Rows.{at_put, at_other}
use Rattle.cells.specs.declared.What.{What}
use Rattle.cells.specs.declared.What.TheVariants.{Link, Row as RowAt}
use Rattle.cells.specs.declared.Cell.{Cell}
use Rattle.cells.specs.Cuts.{cut_field, cut}
use Rattle.cells.specs.Cells.{as_field, as_row, row_of, what_at, sort_at, none, Says, Holds, Valuation, Leads, stay, on, Formed, Refers, Over, Adds}
use Rattle.cells.specs.Rows.{Shown, Chain, ends, shows, shown, lookup, shown_at, Reads, Tail}
use Rattle.cells.proofs.Cutting.{fields_agree}
use Rattle.cells.proofs.Building.{rows_seen}
pub use Rattle.cells.specs.Widths.{built, Stays}

-- what is built is known
pub known : (cs : List (Cell ℕ)) (i : ℕ) (w : What ℕ) → what_at cs i ≡ w → built w ≡ 1 → i < length cs
known cs i w e b =
    ⊎_elim (λ (l : i < length cs). l)
    (λ (g : length cs ≤ i). absurd (let z : ◌≡◌ {A = ℕ} 0 1 = ap built (ap (λ (c : Cell ℕ). c.what) (sym (get_or_past cs i none g)) ∙ e) ∙ b in let y : ⊥ = omega arith in y))
    (cases_lt i (length cs))

pub lead : (f : Value → Value) (cs : List (Cell ℕ)) (v : Valuation) {c r : ℕ} → Holds f cs v → Leads cs c r → f (v c) ≡ f (v r)
lead f cs v h stay = refl
lead f cs v h (on {i = i} {p = p} l e) = lead f cs v h l ∙ subst (λ (w : What ℕ). Says f v i w) e (h i (known cs i (Link p) e refl)).0

pub lead_sort : (cs : List (Cell ℕ)) {c r : ℕ} → Formed cs → Leads cs c r → sort_at cs c ≡ sort_at cs r
lead_sort cs f stay = refl
lead_sort cs f (on {i = i} {p = p} l e) = lead_sort cs f l ∙ (subst (Refers cs i) e (f.refers i (known cs i (Link p) e refl))).2

-- a row over a chain reads as the longer chain
pub reads_row : (d : ℕ) (v : Valuation) (l x y t : ℕ) (fs : List Shown) → Reads d v fs t (as_row (v y)) → Reads d v (record { label = l; field = x } ∷ fs) t (put (as_row (v y)) l (as_field (v x)))
reads_row d v l x y t fs ih k =
    ⊎_elim
    (λ (e : eqb k l ≡ true).
    ap (λ (i : ℕ). cut_field d (at (put (as_row (v y)) l (as_field (v x))) i)) (eqb-true k l e) ∙ ap (cut_field d) (at_put (as_row (v y)) l (as_field (v x)))
    ∙ sym (ap (cut_field d) (cond-true (eqb k l) (as_field (v x)) (shown_at v fs (as_row (v t)) k) e)))
    (λ (e : eqb k l ≡ false).
    ap (cut_field d) (at_other (as_row (v y)) l k (as_field (v x)) (eqb-false k l e)) ∙ ih k
    ∙ sym (ap (cut_field d) (cond-false (eqb k l) (as_field (v x)) (shown_at v fs (as_row (v t)) k) e)))
    (cases_Bool (eqb k l))

-- what a chain says of a valuation
pub chain_says : (d : ℕ) (cs : List (Cell ℕ)) (v : Valuation) {c t : ℕ} {fs : List Shown} → Holds (cut (suc d)) cs v → Chain cs c fs t → Reads d v fs t (as_row (v c))
chain_says d cs v {c = c} {t = t} h (ends l) k = fields_agree d (as_row (v c)) (as_row (v t)) (rows_seen (suc d) (v c) (v t) (lead (cut (suc d)) cs v h l)) k
chain_says d cs v {c = c} h (shows {z = z} {l = l} {x = x} {y = y} {t = t} {fs = fs} p e ch) k =
    let s : cut (suc d) (v z) ≡ cut (suc d) (row_of l (v x) (v y)) = subst (λ (w : What ℕ). Says (cut (suc d)) v z w) e (h z (known cs z (RowAt l x y) e refl)).0 in
    fields_agree d (as_row (v c)) (put (as_row (v y)) l (as_field (v x))) (rows_seen (suc d) (v c) (row_of l (v x) (v y)) (lead (cut (suc d)) cs v h p ∙ s)) k
    ∙ reads_row d v l x y t fs (chain_says d cs v h ch) k

-- cells that keep what is built keep leads and chains
pub leads_stay : (cs ds : List (Cell ℕ)) {c r : ℕ} → Stays cs ds → Leads cs c r → Leads ds c r
leads_stay cs ds s stay = stay
leads_stay cs ds s (on {i = i} {p = p} l e) = on (leads_stay cs ds s l) (s i (Link p) e refl)

pub chain_stays : (cs ds : List (Cell ℕ)) {c t : ℕ} {fs : List Shown} → Stays cs ds → Chain cs c fs t → Chain ds c fs t
chain_stays cs ds s (ends l) = ends (leads_stay cs ds s l)
chain_stays cs ds s (shows {z = z} {l = l} {x = x} {y = y} p e ch) = shows (leads_stay cs ds s p) (s z (RowAt l x y) e refl) (chain_stays cs ds s ch)

pub chain_snoc : (cs : List (Cell ℕ)) {c t z l x y : ℕ} {fs : List Shown} → Chain cs c fs t → what_at cs t ≡ Link z → what_at cs z ≡ RowAt l x y → Chain cs c (fs ++ record { label = l; field = x } ∷ []) y
chain_snoc cs (ends p) e g = shows (on p e) g (ends stay)
chain_snoc cs (shows p q ch) e g = shows p q (chain_snoc cs ch e g)

-- the sort of the tail
pub over_is : (s t : Sort) (l : ℕ) (m : Labels) → s ≡ OfRow m → Over s l t → (n : Labels) × (t ≡ OfRow n) × Adds m l n
over_is s t l m e h = go t (subst (λ (x : Sort). Over x l t) e h)
  where
    go : (t : Sort) → Over (OfRow m) l t → (n : Labels) × (t ≡ OfRow n) × Adds m l n
    go OfType h = absurd h
    go OfField h = absurd h
    go (OfRow n) h = (n, refl, h)

tail_none : (m : Labels) → Tail [] m m
tail_none m = record { here = λ k e. absurd (false≢true e); old = λ k i. i; only = λ k i. inr i; new = λ k e. absurd (false≢true e) }

first_or : (s : Shown) (fs : List Shown) (k : ℕ) → shown (s ∷ fs) k ≡ true → (k ≡ s.label) ⊎ (shown fs k ≡ true)
first_or s fs k e =
    ⊎_elim (λ (p : eqb k s.label ≡ true). inl (eqb-true k s.label p))
    (λ (p : eqb k s.label ≡ false). inr (sym (cond-false (eqb k s.label) true (shown fs k) p) ∙ e))
    (cases_Bool (eqb k s.label))

or_first : (s : Shown) (fs : List Shown) (k : ℕ) → (k ≡ s.label) ⊎ (shown fs k ≡ true) → shown (s ∷ fs) k ≡ true
or_first s fs k q =
    ⊎_elim (λ (p : eqb k s.label ≡ true). cond-true (eqb k s.label) true (shown fs k) p)
    (λ (p : eqb k s.label ≡ false).
    cond-false (eqb k s.label) true (shown fs k) p
    ∙ ⊎_elim (λ (e : k ≡ s.label). absurd (eqb-false k s.label p e)) (λ (e : shown fs k ≡ true). e) q)
    (cases_Bool (eqb k s.label))

tail_more : (s : Shown) (fs : List Shown) (m n o : Labels) → Adds m s.label n → Tail fs n o → Tail (s ∷ fs) m o
tail_more s fs m n o a t = record {
  here = λ k e. ⊎_elim (λ (p : k ≡ s.label). t.old k (subst (λ (i : ℕ). In i n) (sym p) a.here)) (λ (p : shown fs k ≡ true). t.here k p) (first_or s fs k e);
  old = λ k i. t.old k (a.old k i);
  only = λ k i.
      ⊎_elim (λ (p : shown fs k ≡ true). inl (or_first s fs k (inr p)))
      (λ (p : In k n). ⊎_elim (λ (q : k ≡ s.label). inl (or_first s fs k (inl q))) (λ (q : In k m). inr q) (a.only k p))
      (t.only k i);
  new = λ k e i. ⊎_elim (λ (p : k ≡ s.label). a.new (subst (λ (j : ℕ). In j m) p i)) (λ (p : shown fs k ≡ true). t.new k p (a.old k i)) (first_or s fs k e);
}

pub chain_sort : (cs : List (Cell ℕ)) {c t : ℕ} {fs : List Shown} (m : Labels) → Formed cs → Chain cs c fs t → sort_at cs c ≡ OfRow m → (n : Labels) × (sort_at cs t ≡ OfRow n) × Tail fs m n
chain_sort cs m f (ends l) e = (m, sym (lead_sort cs f l) ∙ e, tail_none m)
chain_sort cs m f (shows {z = z} {l = l} {x = x} {y = y} {t = t} {fs = fs} p q ch) e =
    let r = subst (Refers cs z) q (f.refers z (known cs z (RowAt l x y) q refl)) in
    let a = over_is (sort_at cs z) (sort_at cs y) l m (sym (lead_sort cs f p) ∙ e) r.3 in
    let b = chain_sort cs a.0 f ch a.1 in
    (b.0, b.1, tail_more (record { label = l; field = x }) fs m a.0 b.0 a.2 b.2)

-- every field that it shows is one
pub chain_field : (cs : List (Cell ℕ)) {c t : ℕ} {fs : List Shown} (z : ℕ) → Formed cs → Chain cs c fs t → z < length cs → sort_at cs z ≡ OfField → (k : ℕ) → (lookup fs k z < length cs) × (sort_at cs (lookup fs k z) ≡ OfField)
chain_field cs z f (ends l) zl zs k = (zl, zs)
chain_field cs z f (shows {z = i} {l = l} {x = x} {y = y} {fs = fs} p q ch) zl zs k =
    let r = subst (Refers cs i) q (f.refers i (known cs i (RowAt l x y) q refl)) in
    go (eqb k l) (r.0, r.2) (chain_field cs z f ch zl zs k)
  where
    go : (t : Bool) → (x < length cs) × (sort_at cs x ≡ OfField) → (lookup fs k z < length cs) × (sort_at cs (lookup fs k z) ≡ OfField) →
        (cond t x (lookup fs k z) < length cs) × (sort_at cs (cond t x (lookup fs k z)) ≡ OfField)
    go true a b = a
    go false a b = b
