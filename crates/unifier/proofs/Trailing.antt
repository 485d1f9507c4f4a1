-- The trail undoes what it notes, through new cells and links.
use Rattle.std.proofs.Common.{◌≡◌, ℕ, zero, suc, ◌+◌, ◌*◌, ◌<◌, ◌≤◌, max, List, [], ◌∷◌, ◌++◌, length, get_or, take, drop, set, sym, refl, ap, ◌∙◌, subst, ap₂, subst₂, ⊎_elim, arith, length-set}
use Rattle.std.proofs.lemmas.List.{get_or-set_same, get_or-set_other, get_or_append_left, set-set, set-get_or, append_assoc, append-nil, length-append, set-append_left, drop-append-le, take-append-le, take_at, drop_at}
use Rattle.std.proofs.lemmas.Bool.{cases_eq}
use Rattle.cells.specs.declared.What.{What}
use Rattle.cells.specs.declared.What.TheVariants.{Open, Link, Leaf, One, Two, Row as RowAt}
use Rattle.cells.specs.declared.Cell.{Cell}
use Rattle.cells.specs.Cells.{none, what_at, rank_at, sort_at, Root, linked}
use Rattle.cells.proofs.Linking.{what_else, sort_same, length_linked}
use Rattle.cells.proofs.Chains.{known}
use Rattle.unifier.specs.declared.undo.Undo.{Undo}
use Rattle.unifier.specs.Trails.{rewound, Under, Movable, due, dues, Roomy, Since}
use Rattle.cells.specs.declared.Bare.{Bare}
use Rattle.cells.specs.declared.Bare.TheVariants.{Empty}

pub movable_root : (w : What ℕ) → Movable w → Root w
movable_root Open m = refl
movable_root (Link p) m = absurd m
movable_root (Leaf h) m = absurd m
movable_root (One h x) m = refl
movable_root (Two x y) m = refl
movable_root (RowAt l x y) m = refl

movable_due : (w : What ℕ) → Movable w → 2 ≤ due w
movable_due Open m = omega arith
movable_due (Link p) m = absurd m
movable_due (Leaf h) m = absurd m
movable_due (One h x) m = omega arith
movable_due (Two x y) m = omega arith
movable_due (RowAt l x y) m = omega arith

movable_no_leaf : (w : What ℕ) (h : Bare) → Movable w → w ≡ Leaf h → ⊥
movable_no_leaf w h m e = subst Movable e m

due_le : (w : What ℕ) → due w ≤ 3
due_le Open = omega arith
due_le (Link p) = omega arith
due_le (Leaf h) = omega arith
due_le (One h x) = omega arith
due_le (Two x y) = omega arith
due_le (RowAt l x y) = omega arith

-- sums over the cells
pub dues_set : (cs : List (Cell ℕ)) (i : ℕ) (c : Cell ℕ) → i < length cs → dues (set cs i c) + due (what_at cs i) ≡ dues cs + due c.what
dues_set [] i c h = absurd (let z : ⊥ = omega arith in z)
dues_set (b ∷ cs) zero c h = omega arith
dues_set (b ∷ cs) (suc i) c h = omega (arith, dues_set cs i c (omega arith))

dues_append : (cs ds : List (Cell ℕ)) → dues (cs ++ ds) ≡ dues cs + dues ds
dues_append [] ds = omega arith
dues_append (c ∷ cs) ds = omega (arith, dues_append cs ds)

-- each write of a link keeps room
pub link_first : (cs : List (Cell ℕ)) (tr : List Undo) (r t : ℕ) (k : Cell ℕ) → r < length cs → Movable (what_at cs r) → Roomy cs tr → k.what ≡ Link t → length tr + 1 + dues (set cs r k) + 1 ≤ 3 * length cs
link_first cs tr r t k rl m h e = omega (arith, dues_set cs r k rl, ap due e, movable_due (what_at cs r) m, h)

pub link_second : (cs bs : List (Cell ℕ)) (tr ts : List Undo) (r t : ℕ) (k g : Cell ℕ) → r < length cs → t < length cs → (r ≡ t → ⊥) → Movable (what_at cs r) → Roomy cs tr → k.what ≡ Link t →
    g.what ≡ what_at cs t → bs ≡ set cs r k → length ts ≡ length tr + 1 → length ts + 1 + dues (set bs t g) ≤ 3 * length bs
link_second cs bs tr ts r t k g rl tl ne m h e ge eb et =
    subst (λ (x : List (Cell ℕ)). length ts + 1 + dues (set x t g) ≤ 3 * length x) (sym eb)
    (let tl2 : t < length (set cs r k) = simp length-set tl in
    let w : due (what_at (set cs r k) t) ≡ due (what_at cs t) = ap (λ (c : Cell ℕ). due c.what) (get_or-set_other cs r t k none (λ q. ne (sym q))) in
    omega (arith, dues_set (set cs r k) t g tl2, w, ap due ge, link_first cs tr r t k rl m h e, length-set cs r k, et))

-- undone entry by entry
pub rewound_append : (cs : List (Cell ℕ)) (xs ys : List Undo) → rewound cs (xs ++ ys) ≡ rewound (rewound cs ys) xs
rewound_append cs [] ys = refl
rewound_append cs (x ∷ xs) ys = ap (λ (l : List (Cell ℕ)). set l x.at x.was) (rewound_append cs xs ys)

pub length_rewound : (cs : List (Cell ℕ)) (es : List Undo) → length (rewound cs es) ≡ length cs
length_rewound cs [] = refl
length_rewound cs (e ∷ es) = length-set (rewound cs es) e.at e.was ∙ length_rewound cs es

rewound_more : (cs xs : List (Cell ℕ)) (es : List Undo) → Under (length cs) es → rewound (cs ++ xs) es ≡ rewound cs es ++ xs
rewound_more cs xs [] h = refl
rewound_more cs xs (e ∷ es) h =
    ap (λ (l : List (Cell ℕ)). set l e.at e.was) (rewound_more cs xs es h.1)
    ∙ set-append_left (rewound cs es) xs e.at e.was (omega (arith, length_rewound cs es, h.0))

under_more : (m n : ℕ) (es : List Undo) → m ≤ n → Under m es → Under n es
under_more m n [] l h = tt
under_more m n (e ∷ es) l h = (omega (arith, l, h.0), under_more m n es l h.1)

under_both : (n : ℕ) (xs ys : List Undo) → Under n xs → Under n ys → Under n (xs ++ ys)
under_both n [] ys h k = k
under_both n (x ∷ xs) ys h k = (h.0, under_both n xs ys h.1 k)

pub undo_step : (cs : List (Cell ℕ)) (old new : List Undo) (e : Undo) (n : ℕ) → old ≡ new ++ e ∷ [] → n < length old →
    (n ≤ length new) × (rewound (set cs e.at e.was) (drop n new) ≡ rewound cs (drop n old)) × (take n new ≡ take n old)
undo_step cs old new e n q h =
    let l : n ≤ length new = omega (arith, ap length q, length-append new (e ∷ []), h) in (
      l,
      sym (ap (λ (t : List Undo). rewound cs (drop n t)) q ∙ ap (rewound cs) (drop-append-le n new (e ∷ []) l) ∙ rewound_append cs (drop n new) (e ∷ [])),
      sym (ap (take n) q ∙ take-append-le n new (e ∷ []) l),
    )

-- from a state to itself, and to a later one by way of another
pub since_none : (cs : List (Cell ℕ)) (tr : List Undo) → Since cs tr cs tr
since_none cs tr = record {
  new = [];
  extra = [];
  trail = sym (append-nil tr);
  undoes = sym (append-nil cs);
  under = tt;
  cost = omega arith;
  sorts = λ i l. refl;
  leaves = λ i h e. e;
}

pub since_length : (cs ds : List (Cell ℕ)) (tr ts : List Undo) → Since cs tr ds ts → length cs ≤ length ds
since_length cs ds tr ts s = omega (arith, length_rewound ds s.new, ap length s.undoes, length-append cs s.extra)

pub since_trail : (cs ds : List (Cell ℕ)) (tr ts : List Undo) → Since cs tr ds ts → length tr ≤ length ts
since_trail cs ds tr ts s = omega (arith, ap length s.trail, length-append tr s.new)

pub since_more : (cs ds es : List (Cell ℕ)) (tr ts us : List Undo) → Since cs tr ds ts → Since ds ts es us → Since cs tr es us
since_more cs ds es tr ts us s t = record {
  new = s.new ++ t.new;
  extra = s.extra ++ t.extra;
  trail = t.trail ∙ ap (λ (l : List Undo). l ++ t.new) s.trail ∙ append_assoc tr s.new t.new;
  undoes =
      rewound_append es s.new t.new ∙ ap (λ (l : List (Cell ℕ)). rewound l s.new) t.undoes ∙ rewound_more ds t.extra s.new s.under
      ∙ ap (λ (l : List (Cell ℕ)). l ++ t.extra) s.undoes ∙ append_assoc cs s.extra t.extra;
  under = under_both (length es) s.new t.new (under_more (length ds) (length es) s.new (since_length ds es ts us t) s.under) t.under;
  cost = omega (arith, length-append s.new t.new, s.cost, t.cost);
  sorts = λ i il. t.sorts i (omega (arith, il, since_length cs ds tr ts s)) ∙ s.sorts i il;
  leaves = λ i h e. t.leaves i h (s.leaves i h e);
}

pub since_room : (cs ds : List (Cell ℕ)) (tr ts : List Undo) → Since cs tr ds ts → Roomy cs tr → Roomy ds ts
since_room cs ds tr ts s h = omega (arith, ap length s.trail, length-append tr s.new, s.cost, h)

-- undone to the length of the trail, then cut to the number of cells
pub since_back : (cs ds : List (Cell ℕ)) (tr ts : List Undo) → Since cs tr ds ts → (take (length cs) (rewound ds (drop (length tr) ts)) ≡ cs) × (take (length tr) ts ≡ tr)
since_back cs ds tr ts s = (
  ap (λ (t : List Undo). take (length cs) (rewound ds (drop (length tr) t))) s.trail
      ∙ ap (λ (t : List Undo). take (length cs) (rewound ds t)) (drop_at tr s.new (length tr) refl)
      ∙ ap (take (length cs)) s.undoes ∙ take_at cs s.extra (length cs) refl,
  ap (take (length tr)) s.trail ∙ take_at tr s.new (length tr) refl,
)

-- a new cell
pub since_fresh : (cs : List (Cell ℕ)) (tr : List Undo) (c : Cell ℕ) → Since cs tr (cs ++ c ∷ []) tr
since_fresh cs tr c = record {
  new = [];
  extra = c ∷ [];
  trail = sym (append-nil tr);
  undoes = refl;
  under = tt;
  cost = omega (arith, dues_append cs (c ∷ []), length-append cs (c ∷ []), due_le c.what);
  sorts = λ i il. ap (λ (x : Cell ℕ). x.sort) (get_or_append_left cs (c ∷ []) none i il);
  leaves = λ i h e. ap (λ (x : Cell ℕ). x.what) (get_or_append_left cs (c ∷ []) none i (known cs i (Leaf h) e refl)) ∙ e;
}

-- a link: two writes
module _ (cs : List (Cell ℕ)) (tr : List Undo) (r t : ℕ) (rl : r < length cs) (tl : t < length cs) (ne : r ≡ t → ⊥) (mv : Movable (what_at cs r)) where
  abbrev lk : Cell ℕ
  lk = record { what = Link t; rank = rank_at cs r; sort = sort_at cs r }

  abbrev tk : Cell ℕ
  tk = record { what = what_at cs t; rank = max (rank_at cs t) (rank_at cs r + 1); sort = sort_at cs t }

  dues_linked : dues (linked cs r t) + due (what_at cs r) ≡ dues cs
  dues_linked =
      let tl2 : t < length (set cs r lk) = simp length-set tl in
      let e : due (what_at (set cs r lk) t) ≡ due (what_at cs t) = ap (λ (c : Cell ℕ). due c.what) (get_or-set_other cs r t lk none (λ q. ne (sym q))) in
      omega (arith, dues_set cs r lk rl, dues_set (set cs r lk) t tk tl2, e)

  pub since_linked : Since cs tr (linked cs r t) ((tr ++ record { at = r; was = get_or cs r none } ∷ []) ++ record { at = t; was = get_or (set cs r lk) t none } ∷ [])
  since_linked = record {
    new = record { at = r; was = get_or cs r none } ∷ record { at = t; was = get_or (set cs r lk) t none } ∷ [];
    extra = [];
    trail = append_assoc tr (record { at = r; was = get_or cs r none } ∷ []) (record { at = t; was = get_or (set cs r lk) t none } ∷ []);
    undoes =
        ap (λ (l : List (Cell ℕ)). set l r (get_or cs r none)) (set-set (set cs r lk) t tk (get_or (set cs r lk) t none) ∙ set-get_or (set cs r lk) t none)
        ∙ set-set cs r lk (get_or cs r none) ∙ set-get_or cs r none ∙ sym (append-nil cs);
    under = (omega (arith, length_linked cs r t rl tl ne, rl), (omega (arith, length_linked cs r t rl tl ne, tl), tt));
    cost = omega (arith, dues_linked, movable_due (what_at cs r) mv, length_linked cs r t rl tl ne);
    sorts = λ i il. sort_same cs r t rl tl ne i;
    leaves = λ i h e. what_else cs r t rl tl ne i (λ q. movable_no_leaf (what_at cs r) h mv (ap (what_at cs) (sym q) ∙ e)) ∙ e;
  }

-- by what was read and written
pub link_made : (cs bs ds : List (Cell ℕ)) (tr ts us : List Undo) (r t m : ℕ) (f g : Cell ℕ) → r < length cs → t < length cs → (r ≡ t → ⊥) → Movable (what_at cs r) →
    f ≡ get_or cs r none → g ≡ get_or cs t none → m ≡ max g.rank (f.rank + 1) →
    bs ≡ set cs r (record { what = Link t; rank = f.rank; sort = f.sort }) → ds ≡ set bs t (record { what = g.what; rank = m; sort = g.sort }) →
    ts ≡ tr ++ record { at = r; was = get_or cs r none } ∷ [] → us ≡ ts ++ record { at = t; was = get_or bs t none } ∷ [] →
    (ds ≡ linked cs r t) × Since cs tr ds us
link_made cs bs ds tr ts us r t m f g rl tl ne mv ef eg em eb ed et eu =
    let b : bs ≡ set cs r (record { what = Link t; rank = rank_at cs r; sort = sort_at cs r }) = eb ∙ ap (λ (x : Cell ℕ). set cs r (record { what = Link t; rank = x.rank; sort = x.sort })) ef in
    let k : m ≡ max (rank_at cs t) (rank_at cs r + 1) = em ∙ ap₂ (λ (x y : Cell ℕ). max x.rank (y.rank + 1)) eg ef in
    let d : ds ≡ linked cs r t = ed ∙ ap₂ (λ (x : Cell ℕ) (n : ℕ). set bs t (record { what = x.what; rank = n; sort = x.sort })) eg k ∙ ap (λ (l : List (Cell ℕ)). set l t (record { what = what_at cs t; rank = max (rank_at cs t) (rank_at cs r + 1); sort = sort_at cs t })) b in
    let u : us ≡ (tr ++ record { at = r; was = get_or cs r none } ∷ []) ++ record { at = t; was = get_or (set cs r (record { what = Link t; rank = rank_at cs r; sort = sort_at cs r })) t none } ∷ [] =
    eu ∙ ap₂ (λ (l : List Undo) (x : List (Cell ℕ)). l ++ record { at = t; was = get_or x t none } ∷ []) et b in
    (d, subst₂ (λ (x : List (Cell ℕ)) (y : List Undo). Since cs tr x y) (sym d) (sym u) (since_linked cs tr r t rl tl ne mv))

-- an open row made empty: one write
module _ (cs : List (Cell ℕ)) (tr : List Undo) (o : ℕ) (ol : o < length cs) (oo : what_at cs o ≡ Open) where
  abbrev ek : Cell ℕ
  ek = record { what = Leaf Empty; rank = rank_at cs o; sort = sort_at cs o }

  kept : (i : ℕ) → (i ≡ o → ⊥) → get_or (set cs o ek) i none ≡ get_or cs i none
  kept i q = get_or-set_other cs o i ek none q

  empty_room_by : (k : Cell ℕ) → Roomy cs tr → k.what ≡ Leaf Empty → length tr + 1 + dues (set cs o k) ≤ 3 * length cs
  empty_room_by k h e = omega (arith, dues_set cs o k ol, ap due oo, ap due e, h)

  pub since_emptied : Since cs tr (set cs o ek) (tr ++ record { at = o; was = get_or cs o none } ∷ [])
  since_emptied = record {
    new = record { at = o; was = get_or cs o none } ∷ [];
    extra = [];
    trail = refl;
    undoes = set-set cs o ek (get_or cs o none) ∙ set-get_or cs o none ∙ sym (append-nil cs);
    under = (omega (arith, length-set cs o ek, ol), tt);
    cost = omega (arith, dues_set cs o ek ol, ap due oo, length-set cs o ek);
    sorts = λ i il.
        ⊎_elim (λ (e : i ≡ o). ap (sort_at (set cs o ek)) e ∙ ap (λ (c : Cell ℕ). c.sort) (get_or-set_same cs o ek none ol) ∙ ap (sort_at cs) (sym e))
        (λ (q : i ≡ o → ⊥). ap (λ (c : Cell ℕ). c.sort) (kept i q)) (cases_eq i o);
    leaves = λ i h e. ap (λ (c : Cell ℕ). c.what) (kept i (λ q. let z : Open ≡ Leaf h = sym oo ∙ ap (what_at cs) (sym q) ∙ e in let y : ◌≡◌ {A = ℕ} 0 1 = cc in let w : ⊥ = omega arith in w)) ∙ e;
  }

pub empty_room : (cs : List (Cell ℕ)) (tr : List Undo) (o : ℕ) (k : Cell ℕ) → o < length cs → what_at cs o ≡ Open → Roomy cs tr → k.what ≡ Leaf Empty → length tr + 1 + dues (set cs o k) ≤ 3 * length cs
empty_room cs tr o k ol oo h e = empty_room_by cs tr o ol oo k h e

pub empty_made : (cs ds : List (Cell ℕ)) (tr ts : List Undo) (o : ℕ) (c : Cell ℕ) → o < length cs → what_at cs o ≡ Open → c ≡ get_or cs o none →
    ds ≡ set cs o (record { what = Leaf Empty; rank = c.rank; sort = c.sort }) → ts ≡ tr ++ record { at = o; was = get_or cs o none } ∷ [] →
    (ds ≡ set cs o (record { what = Leaf Empty; rank = rank_at cs o; sort = sort_at cs o })) × Since cs tr ds ts
empty_made cs ds tr ts o c ol oo ec ed et =
    let d : ds ≡ set cs o (record { what = Leaf Empty; rank = rank_at cs o; sort = sort_at cs o }) = ed ∙ ap (λ (x : Cell ℕ). set cs o (record { what = Leaf Empty; rank = x.rank; sort = x.sort })) ec in
    (d, subst₂ (λ (x : List (Cell ℕ)) (y : List Undo). Since cs tr x y) (sym d) (sym et) (since_emptied cs tr o ol oo))
