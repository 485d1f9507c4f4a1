-- Cells and binds in order mean what every system means.
use Rattle.std.specs.Prelude.{◌≡◌, ℕ, zero, suc, ◌+◌, ◌/◌, ◌%◌, ◌^◌, ◌<◌, ◌≤◌, Bool, true, false, cond, List, length, ◌≢◌, nat_lt, refl}
use Rattle.std.proofs.Common.{sym, ◌∙◌, ap, subst, inl, arith, ltb-true, lt-ltb, le-ltb}
use Rattle.std.proofs.Math.Option.{some, none}
use Rattle.std.proofs.Math.Nat.{zero-div, zero-mod}
use Rattle.ground.specs.Values.{whole, Value, of_type, of_field, of_row}
use Rattle.ground.specs.Sorts.{Of}
use Rattle.ground.specs.Classes.{Asked, Allowed}
use Rattle.ground.specs.Heads.{Builds, gives, has_first, has_second, none_lacked}
use Rattle.ground.specs.declared.sort.Sort.{Sort}
use Rattle.ground.specs.declared.sort.Sort.TheVariants.{«Type» as OfType}
use Rattle.ground.specs.declared.sort.Labels.{Labels}
use Rattle.ground.specs.declared.classes.Classes.{Classes}
use Rattle.ground.specs.declared.head.Head.{Head}
use Rattle.ground.proofs.Built.{builds_swap}
use Rattle.system.proofs.Takes.{of_is, both_of}
use Rattle.system.specs.Meaning.{Valuation, State, Agree, Fitting, Sound, knows_sort}
use Rattle.system.specs.Requests.{head_number, takes, is_of}
use Rattle.system.specs.Replies.{kind_of, Stands, Shaped, Looks, open_code, built}
use Rattle.model.specs.declared.cell.Cell.{Cell}
use Rattle.model.specs.declared.cell.Bind.{Bind}
use Rattle.model.specs.declared.cell.Saved.{Saved}
use Rattle.model.specs.declared.cell.Cell.TheVariants.{Open, Link, Built}
use Rattle.model.specs.Cells.{view, root, onward}
use Rattle.model.specs.Means.{Says, Holds, Lower, Falls, Refers, Good, unclassed, state_of, meaning_of, height, taller}
use Rattle.model.specs.Ranks.{height_stable, height_most, root_end, open_link, open_built}
use Rattle.model.specs.Growing.{five, solved, solves, solves_open, only}
use Rattle.model.specs.Opens.{open_listed, listed_open, opens_once, opens_most}
use Rattle.model.specs.Unifying.{ranked, ranked_most, ranked_falls}

-- which codes are known
pub known_below : (n c : ℕ) (o : Sort) → cond (nat_lt c n) (some OfType) none ≡ some o → (c < n) × (OfType ≡ o)
known_below n c o e = go (nat_lt c n) refl e
  where
    go : (t : Bool) → nat_lt c n ≡ t → cond t (some OfType) none ≡ some o → (c < n) × (OfType ≡ o)
    go true f e = let q : OfType ≡ o = cc in (ltb-true c n f, q)
    go false f e = let z : ◌≡◌ {A = ℕ} 0 1 = cc in absurd (let y : ⊥ = omega (arith, z) in y)

pub below_known : (n c : ℕ) → c < n → cond (nat_lt c n) (some OfType) none ≡ some OfType
below_known n c l = ap (λ (t : Bool). cond t (some OfType) none) (lt-ltb c n l)

pub above_unknown : (n c : ℕ) → n ≤ c → cond (nat_lt c n) (some OfType) none ≡ none
above_unknown n c l = ap (λ (t : Bool). cond t (some OfType) none) (le-ltb c n l)

-- no class is in the empty set
not_asked : (k : ℕ) → Asked k unclassed → ⊥
not_asked k e =
    let p : (0 / 2 ^ k) % 2 ≡ 0 = ap (λ (x : ℕ). x % 2) (zero-div (2 ^ k)) ∙ zero-mod 2 in
    let y : ⊥ = omega (arith, p, e) in y

pub allowed_all : (v : Value) → Allowed unclassed v
allowed_all (of_type t) = λ k e. absurd (not_asked k e)
allowed_all (of_field f) = λ k e. not_asked k e
allowed_all (of_row r) = λ k e. not_asked k e

-- what the first five heads take and give
pub takes_five : (s : State) (h : Head) (x y l : ℕ) (m : Labels) → head_number h < 5 → (has_first h ≡ true → s.sort_of x ≡ some OfType) → (has_second h ≡ true → s.sort_of y ≡ some OfType) → takes s h x y l m ≡ true
takes_five s h x y l m =
    five (λ h. (has_first h ≡ true → s.sort_of x ≡ some OfType) → (has_second h ≡ true → s.sort_of y ≡ some OfType) → takes s h x y l m ≡ true)
    (λ p q. refl) (λ p q. refl) (λ p q. refl)
    (λ p q. both_of (is_of (s.sort_of x) OfType) (is_of (s.sort_of y) OfType) (of_is (s.sort_of x) OfType (p refl)) (of_is (s.sort_of y) OfType (q refl)))
    (λ p q. of_is (s.sort_of x) OfType (p refl)) h

pub gives_five : (h : Head) (m : Labels) (l : ℕ) → head_number h < 5 → gives h m l ≡ OfType
gives_five h m l = five (λ h. gives h m l ≡ OfType) refl refl refl refl refl h

says_agree : (n c : ℕ) (v w : Valuation) → ((d : ℕ) → d < n → v d ≡ w d) → c < n → (s : Cell) → Refers n s → Says v c s → Says w c s
says_agree n c v w f lc Open r h = tt
says_agree n c v w f lc (Link p) r h = sym (f c lc) ∙ h ∙ f p r
says_agree n c v w f lc (Built g x y) r h =
    subst (λ (u : Value). Builds g 0 (w x) (w y) u) (f c lc) (builds_swap g 0 (v x) (v y) (w x) (w y) (v c) (λ e. f x (r.1 e)) (λ e. f y (r.2 e)) h)

module _ (z : ℕ) (cs : List Cell) (bs : List Bind) (ss : List Saved) (good : Good z cs bs ss) where
  abbrev rank_of : ℕ → ℕ
  rank_of = ranked cs z good.cells good.most bs good.fine

  falls_of : Falls (view cs bs) rank_of
  falls_of = ranked_falls cs z good.cells good.most bs good.fine

  below_of : (c : ℕ) → rank_of c < z + 1
  below_of c = omega (arith, ranked_most cs z good.cells good.most bs good.fine c, good.cells)

  agreeing : (v w : Valuation) → Agree (state_of cs bs) v w → (d : ℕ) → d < length cs → v d ≡ w d
  agreeing v w a d l = a d (OfType, below_known (length cs) d l)

  fit : (a : Valuation) → Fitting (state_of cs bs) a → (c : ℕ) → c < length cs → view cs bs c ≡ Open → Of OfType (a c)
  fit a f c l e = (f c unclassed OfType (listed_open (length cs) (view cs bs) c l e) (below_known (length cs) c l)).0

  -- open codes as they are chosen, and the others of any type
  abbrev chosen : Valuation → Valuation
  chosen a = solved a (view cs bs) rank_of falls_of

  chosen_solves : (a : Valuation) → Holds (length cs) (view cs bs) (chosen a)
  chosen_solves a = solves a (view cs bs) rank_of falls_of (length cs) good.fine.refers

  pub sound : Sound (kind_of 5 0) (meaning_of z cs bs ss)
  sound = record {
    heads = inl refl;
    classes = inl refl;
    sorts = λ c o e. subst (λ (s : Sort). knows_sort (kind_of 5 0) s ≡ true) (known_below (length cs) c o e).1 refl;
    least = good.least;
    most = good.most;
    counted = good.cells;
    opened = omega (arith, opens_most (length cs) (view cs bs), good.cells);
    once = opens_once (length cs) (view cs bs);
    known = λ c k l. (OfType, below_known (length cs) c (open_listed (length cs) (view cs bs) c k l).0);
    classless = λ e c k l. ap (λ (s : Classes). s.0) (open_listed (length cs) (view cs bs) c k l).2;
    blind = λ v w s a c lc.
        let f = agreeing v w a in
        (subst (λ (u : Value). Of OfType u) (f c lc) (s c lc).0, says_agree (length cs) c v w f lc (view cs bs c) (good.fine.refers c lc) (s c lc).1);
    sorted = λ v s c o e. let r = known_below (length cs) c o e in subst (λ (k : Sort). Of k (v c)) r.1 (s c r.0).0;
    fitting = λ v s c k o l e.
        let r = known_below (length cs) c o e in (
          subst (λ (k : Sort). Of k (v c)) r.1 (s c r.0).0,
          subst (λ (i : Classes). Allowed i (v c)) (sym (open_listed (length cs) (view cs bs) c k l).2) (allowed_all (v c)),
        );
    free = λ a f. (
      chosen a,
      chosen_solves a,
      λ c k l. let r = open_listed (length cs) (view cs bs) c k l in solves_open a (view cs bs) rank_of falls_of c (fit a f c r.0 r.1) r.1,
    );
    one = λ v w s t f c k.
        let r = known_below (length cs) c k.0 k.1 in
        only (length cs) (view cs bs) rank_of falls_of good.fine.refers v w s t (λ d ld e. f d unclassed (listed_open (length cs) (view cs bs) d ld e)) c r.0;
    some = (chosen (λ c. of_type whole), chosen_solves (λ c. of_type whole));
  }

  -- the heights of what a code refers to
  abbrev pub heights : ℕ → ℕ
  heights c = height (view cs bs) (z + 1) c

  lift : (c d : ℕ) → rank_of d < rank_of c → height (view cs bs) z d ≡ heights d
  lift c d l = height_stable (view cs bs) rank_of falls_of z (z + 1) d (omega (arith, below_of c, l)) (below_of d)

  heights_are : (c : ℕ) → heights c ≡ taller (height (view cs bs) z) (view cs bs c)
  heights_are c = ap (λ (m : ℕ). height (view cs bs) m c) (one_more z)
    where
      one_more : (m : ℕ) → m + 1 ≡ suc m
      one_more m = omega arith

  link_height : (c p : ℕ) → view cs bs c ≡ Link p → heights p < heights c
  link_height c p e =
      let l = subst (λ (s : Cell). Lower rank_of c s) e (falls_of c) in
      omega (arith, heights_are c, ap (taller (height (view cs bs) z)) e, lift c p l)

  built_height : (c : ℕ) (h : Head) (x y : ℕ) → view cs bs c ≡ Built h x y → (0 < heights c) × (has_first h ≡ true → heights x < heights c) × (has_second h ≡ true → heights y < heights c)
  built_height c h x y e =
      let l = subst (λ (s : Cell). Lower rank_of c s) e (falls_of c) in
      let t = heights_are c ∙ ap (taller (height (view cs bs) z)) e in (
        omega (arith, t),
        λ f. let q = ap (λ (b : Bool). cond b (height (view cs bs) z x) 0) f in omega (arith, t, lift c x (l.0 f), q),
        λ f. let q = ap (λ (b : Bool). cond b (height (view cs bs) z y) 0) f in omega (arith, t, lift c y (l.1 f), q),
      )

  -- by links from c
  pub record Led (c r : ℕ) : Type 0 where
    pub within : r < length cs
    pub equal : (v : Valuation) → Holds (length cs) (view cs bs) v → v c ≡ v r
    pub under : heights r ≤ heights c
    pub itself : view cs bs c ≡ Open → r ≡ c

  led_go : (m c : ℕ) → c < length cs → ((d : ℕ) → d < length cs → Led d (root (view cs bs) m d)) → (s : Cell) → view cs bs c ≡ s → Led c (onward (root (view cs bs) m) c s)
  led_go m c lc ih Open e = record { within = lc; equal = λ v h. refl; under = omega arith; itself = λ o. refl }
  led_go m c lc ih (Link p) e =
      let r = subst (λ (s : Cell). Refers (length cs) s) e (good.fine.refers c lc) in
      let i = ih p r in
      record {
        within = i.within;
        equal = λ v h. subst (λ (s : Cell). Says v c s) e (h c lc).1 ∙ i.equal v h;
        under = omega (arith, i.under, link_height c p e);
        itself = λ o. absurd (open_link p (sym o ∙ e));
      }
  led_go m c lc ih (Built h x y) e = record { within = lc; equal = λ v h. refl; under = omega arith; itself = λ o. absurd (open_built h x y (sym o ∙ e)) }

  pub led : (m c : ℕ) → c < length cs → Led c (root (view cs bs) m c)
  led zero c lc = record { within = lc; equal = λ v h. refl; under = omega arith; itself = λ o. refl }
  led (suc m) c lc = led_go m c lc (led m) (view cs bs c) refl

  pub look_open : (m c : ℕ) → c < length cs → view cs bs (root (view cs bs) m c) ≡ Open → Stands (meaning_of z cs bs ss) c (root (view cs bs) m c) unclassed
  look_open m c lc e =
      let i = led m c lc in
      record {
        listed = listed_open (length cs) (view cs bs) (root (view cs bs) m c) i.within e;
        sort = below_known (length cs) (root (view cs bs) m c) i.within ∙ sym (below_known (length cs) c lc);
        equal = λ v s. i.equal v s;
        itself = λ j l. i.itself (open_listed (length cs) (view cs bs) c j l).1;
      }

  pub look_built : (m c : ℕ) (h : Head) (x y : ℕ) → c < length cs → view cs bs (root (view cs bs) m c) ≡ Built h x y → Shaped heights (meaning_of z cs bs ss) c h x y 0
  look_built m c h x y lc e =
      let i = led m c lc in
      let r = subst (λ (s : Cell). Refers (length cs) s) e (good.fine.refers (root (view cs bs) m c) i.within) in
      let t = built_height (root (view cs bs) m c) h x y e in
      record {
        bound = λ j l.
            let o = (open_listed (length cs) (view cs bs) c j l).1 in
            open_built h x y (sym o ∙ sym (ap (view cs bs) (i.itself o)) ∙ e);
        lacked = none_lacked;
        takes = takes_five (state_of cs bs) h x y 0 none_lacked r.0 (λ f. below_known (length cs) x (r.1 f)) (λ f. below_known (length cs) y (r.2 f));
        gives = below_known (length cs) c lc ∙ ap some (sym (gives_five h none_lacked 0 r.0));
        builds = λ v s. subst (λ (u : Value). Builds h 0 (v x) (v y) u) (sym (i.equal v s)) (subst (λ (q : Cell). Says v (root (view cs bs) m c) q) e (s (root (view cs bs) m c) i.within).1);
        counts = omega (arith, t.0, i.under);
        first_falls = λ f. omega (arith, t.1 f, i.under);
        second_falls = λ f. omega (arith, t.2 f, i.under);
      }

  -- a head with other children where it takes none
  pub look_with : (m c : ℕ) (h : Head) (x y p q : ℕ) → c < length cs → view cs bs (root (view cs bs) m c) ≡ Built h x y → ((x < length cs → p ≡ x)) → ((y < length cs → q ≡ y))
      → Shaped heights (meaning_of z cs bs ss) c h p q 0
  look_with m c h x y p q lc e f g =
      let i = led m c lc in
      let r = subst (λ (s : Cell). Refers (length cs) s) e (good.fine.refers (root (view cs bs) m c) i.within) in
      let k = look_built m c h x y lc e in
      let px : has_first h ≡ true → x ≡ p = λ u. sym (f (r.1 u)) in
      let qy : has_second h ≡ true → y ≡ q = λ u. sym (g (r.2 u)) in
      record {
        bound = k.bound;
        lacked = none_lacked;
        takes = takes_five (state_of cs bs) h p q 0 none_lacked r.0
            (λ u. subst (λ (i : ℕ). (state_of cs bs).sort_of i ≡ some OfType) (px u) (below_known (length cs) x (r.1 u)))
            (λ u. subst (λ (i : ℕ). (state_of cs bs).sort_of i ≡ some OfType) (qy u) (below_known (length cs) y (r.2 u)));
        gives = below_known (length cs) c lc ∙ ap some (sym (gives_five h none_lacked 0 r.0));
        builds = λ v s. builds_swap h 0 (v x) (v y) (v p) (v q) (v c) (λ u. ap v (px u)) (λ u. ap v (qy u)) (k.builds v s);
        counts = k.counts;
        first_falls = λ u. subst (λ (i : ℕ). heights i < heights c) (px u) (k.first_falls u);
        second_falls = λ u. subst (λ (i : ℕ). heights i < heights c) (qy u) (k.second_falls u);
      }

  pub never_link : (c p : ℕ) → view cs bs (root (view cs bs) (z + 1) c) ≢ Link p
  never_link c p e = root_end (view cs bs) rank_of falls_of (z + 1) c p (below_of c) e

  pub looks : (c : ℕ) → c < length cs → Looks heights (meaning_of z cs bs ss) c
  looks c lc = go (view cs bs (root (view cs bs) (z + 1) c)) refl
    where
      go : (s : Cell) → view cs bs (root (view cs bs) (z + 1) c) ≡ s → Looks heights (meaning_of z cs bs ss) c
      go Open e = open_code (root (view cs bs) (z + 1) c) unclassed (look_open (z + 1) c lc e)
      go (Link p) e = absurd (never_link c p e)
      go (Built h x y) e = built h x y 0 (look_built (z + 1) c h x y lc e)

  pub heights_most : (c : ℕ) → heights c ≤ z + 1
  heights_most c = height_most (view cs bs) (z + 1) c

  -- what fits into a code as it is written
  pub root_small : (m c : ℕ) → c < length cs → root (view cs bs) m c < 4097
  root_small m c lc = let i = (led m c lc).within in omega (arith, i, good.cells, good.most)
