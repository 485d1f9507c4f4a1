-- What each call makes of the cells is what it makes of the meaning.
use Rattle.std.proofs.Common.{◌≡◌, ℕ, zero, suc, ◌+◌, ◌-◌, ◌*◌, ◌^◌, ◌<◌, ◌≤◌, Bool, true, ◌&&◌, ltb, leb, List, [], ◌∷◌, ◌++◌, reverse, length, get_or, sym, refl, ap, ◌∙◌, subst, inl, ⊎_elim, arith, length-append, ltb-true}
use mathlib.Core.Option.{some}
use Rattle.std.proofs.lemmas.List.{get_or_append_left, get_or-append_right}
use Rattle.std.proofs.lemmas.Bool.{cases_lt}
use Rattle.ground.specs.Values.{Value}
use Rattle.ground.specs.Sorts.{Of, In}
use Rattle.ground.specs.Heads.{Suits, Builds, gives, has_first, has_second, first_sort, second_sort}
use Rattle.ground.specs.declared.sort.Sort.{Sort}
use Rattle.ground.specs.declared.sort.Sort.TheVariants.{«Type» as OfType, Field as OfField, Row as OfRow}
use Rattle.ground.specs.declared.sort.Labels.{Labels}
use Rattle.ground.specs.declared.head.Head.{Head}
use Rattle.ground.specs.declared.head.Head.TheVariants.{Row as RowWith}
use Rattle.ground.proofs.Built.{no_way, builds_swap}
use Rattle.ground.proofs.Sorted.{builds_once}
use Rattle.system.specs.Meaning.{Kind, Valuation, Meaning, knows_sort, small}
use Rattle.system.specs.Requests.{Request, fresh, build, Reply, code, fault, fits, takes, head_number, labelled, holds}
use Rattle.system.specs.Follows.{Follows, Goes, Added}
use Rattle.system.specs.Replies.{kind_of}
use Rattle.system.proofs.Same.{same_same}
use Rattle.system.proofs.Takes.{both, takes_first, takes_second, takes_label}
use Rattle.cells.specs.declared.What.{What}
use Rattle.cells.specs.declared.What.TheVariants.{Open}
use Rattle.cells.specs.declared.Cell.{Cell}
use Rattle.cells.specs.Cells.{none as blank, what_at, sort_at, Says, Holds, Refers}
use Rattle.cells.specs.Weights.{same}
use Rattle.cells.proofs.Extending.{Inside}
use Rattle.cells.proofs.Spending.{used_more}
use Rattle.unifier.specs.declared.undo.Undo.{Undo}
use Rattle.unifier.specs.declared.saved.Saved.{Saved}
use Rattle.unifier.specs.Fine.{Proper, Small, cell_of}
use Rattle.unifier.specs.Trails.{Since}
use Rattle.unifier.specs.States.{seated, sort_in, state_of, meaning_of, Sane, Good}
use Rattle.unifier.specs.Views.{contents}
use Rattle.unifier.proofs.Adding.{fine_added, falls_added}
use Rattle.unifier.specs.Codes.{known_code, code_known, code_past, seat}
use Rattle.unifier.specs.Sound.{owned}
use Rattle.unifier.proofs.Marking.{nested_along, states_along}
use Rattle.unifier.proofs.Planning.{taken_label, says_value, value_says, builds_value, value_builds, plan_refers, plan_proper, plan_small, plan_inside, plan_known}
use Rattle.unifier.proofs.Trailing.{since_fresh, since_room}

-- from one solver to another by a request and its reply
abbrev pub Step : ℕ → ℕ → ℕ → List (Cell ℕ) → List Undo → List Saved → Request → Reply → ℕ → List (Cell ℕ) → List Undo → List Saved → Type 0
Step h z n cs tr ss q r N D T S = Follows (kind_of h 0) (meaning_of z n cs tr ss) q r (meaning_of z N D T S) × Good h z N D T S

-- one cell more
module _ (h z n : ℕ) (cs : List (Cell ℕ)) (tr : List Undo) (ss : List Saved) (good : Good h z n cs tr ss) (w : What ℕ) (o : Sort)
    (proper : Proper w) (few : Small o) (knows : knows_sort (kind_of h 0) o ≡ true) (room : length cs < z + 1)
    (refers : Refers (cs ++ cell_of w o ∷ []) (length cs) w) (within : Inside (length cs) w) where
  abbrev ds : List (Cell ℕ)
  ds = cs ++ cell_of w o ∷ []

  abbrev sane : Sane h n cs tr
  sane = good.sane

  since : Since cs tr ds tr
  since = since_fresh cs tr (cell_of w o)

  longer : length ds ≡ suc (length cs)
  longer = omega (arith, length-append cs (cell_of w o ∷ []))

  first : 0 < length cs
  first = owned cs sane.fine

  old : (i : ℕ) → i < length cs → get_or ds i blank ≡ get_or cs i blank
  old i il = get_or_append_left cs (cell_of w o ∷ []) blank i il

  new : get_or ds (length cs) blank ≡ cell_of w o
  new =
      get_or-append_right cs (cell_of w o ∷ []) (length cs) (length cs) blank refl (omega arith)
      ∙ ap (λ (k : ℕ). get_or (cell_of w o ∷ []) k blank) (let e : length cs - length cs ≡ 0 = omega arith in e)

  either : (P : ℕ → Type 0) → ((i : ℕ) → i < length cs → P i) → P (length cs) → (i : ℕ) → i < length ds → P i
  either P p q i il =
      ⊎_elim (λ (l : i < length cs). p i l) (λ (l : length cs ≤ i). subst P (let e : length cs ≡ i = omega (arith, longer, il, l) in e) q) (cases_lt i (length cs))

  sane_added : Sane h (n + 1) ds tr
  sane_added =
      let f = falls_added cs (cell_of w o) sane.order sane.falls sane.fine.formed within in
      record {
        fine = fine_added cs (cell_of w o) sane.fine proper few refl refers;
        roomy = since_room cs ds tr tr since sane.roomy;
        sorts = λ i p il.
            either (λ j. 0 < j → knows_sort (kind_of h 0) (sort_at ds j) ≡ true)
            (λ j jl q. subst (λ (s : Sort). knows_sort (kind_of h 0) s ≡ true) (sym (ap (λ (c : Cell ℕ). c.sort) (old j jl))) (sane.sorts j q jl))
            (λ q. subst (λ (s : Sort). knows_sort (kind_of h 0) s ≡ true) (sym (ap (λ (c : Cell ℕ). c.sort) new)) knows) i il p;
        order = Rattle.unifier.proofs.Adding.raised cs (cell_of w o) sane.order sane.falls sane.fine.formed;
        falls = f;
        worth = omega (arith, used_more cs (cell_of w o), sane.worth);
        each = omega (arith, longer, sane.each);
      }

  good_added : Good h z (n + 1) ds tr ss
  good_added = record {
    heads = good.heads;
    least = good.least;
    most = good.most;
    cells = omega (arith, longer, room);
    sane = sane_added;
    marks = nested_along h cs ds tr tr since (reverse ss) good.marks;
    few = good.few;
  }

  -- the solutions of the longer list
  shorter : (v : Valuation) → Holds same ds (seated v) → Holds same cs (seated v)
  shorter v s i il =
      let k = s i (omega (arith, longer, il)) in (
        subst (Says same (seated v) i) (ap (λ (c : Cell ℕ). c.what) (old i il)) k.0,
        subst (λ (x : Sort). Of x (seated v i)) (ap (λ (c : Cell ℕ). c.sort) (old i il)) k.1,
      )

  at_new : (v : Valuation) → Holds same ds (seated v) → Says same (seated v) (length cs) w × Of o (v (length cs))
  at_new v s =
      let k = s (length cs) (omega (arith, longer)) in (
        subst (Says same (seated v) (length cs)) (ap (λ (c : Cell ℕ). c.what) new) k.0,
        subst (λ (x : Value). Of o x) (seat v (length cs) first) (subst (λ (x : Sort). Of x (seated v (length cs))) (ap (λ (c : Cell ℕ). c.sort) new) k.1),
      )

  join : (v : Valuation) → Holds same cs (seated v) → Says same (seated v) (length cs) w → Of o (v (length cs)) → Holds same ds (seated v)
  join v s a b =
      either (λ i. Says same (seated v) i (what_at ds i) × Of (sort_at ds i) (seated v i))
      (λ i il. (
        subst (Says same (seated v) i) (sym (ap (λ (c : Cell ℕ). c.what) (old i il))) (s i il).0,
        subst (λ (x : Sort). Of x (seated v i)) (sym (ap (λ (c : Cell ℕ). c.sort) (old i il))) (s i il).1,
      )) (
        subst (Says same (seated v) (length cs)) (sym (ap (λ (c : Cell ℕ). c.what) new)) a,
        subst (λ (x : Sort). Of x (seated v (length cs))) (sym (ap (λ (c : Cell ℕ). c.sort) new)) (subst (λ (x : Value). Of o x) (sym (seat v (length cs) first)) b),
      )

  sort_old : (d : ℕ) → (d ≡ length cs → ⊥) → sort_in ds d ≡ sort_in cs d
  sort_old zero q = refl
  sort_old (suc d) q =
      ⊎_elim
      (λ (l : suc d < length cs). code_known ds (suc d) (omega arith) (omega (arith, longer, l)) ∙ ap (λ (c : Cell ℕ). some c.sort) (old (suc d) l) ∙ sym (code_known cs (suc d) (omega arith) l))
      (λ (l : length cs ≤ suc d). code_past ds (suc d) (omega (arith, longer, l, q)) ∙ sym (code_past cs (suc d) l))
      (cases_lt (suc d) (length cs))

  pub added : (P : Valuation → Type 0) → ((v : Valuation) → Holds same cs (seated v) → Says same (seated v) (length cs) w → Of o (v (length cs)) → P v)
      → ((v : Valuation) → Holds same cs (seated v) → P v → Says same (seated v) (length cs) w × Of o (v (length cs)))
      → Added (meaning_of z n cs tr ss) (length cs) o P (meaning_of z (n + 1) ds tr ss)
  added P p q = record {
    capacity = refl;
    marks = states_along h cs ds tr tr since (reverse ss) good.marks;
    count = refl;
    unknown = code_past cs (length cs) (omega arith);
    known = code_known ds (length cs) first (omega (arith, longer)) ∙ ap (λ (c : Cell ℕ). some c.sort) new;
    old = sort_old;
    onto = λ v s. let a = at_new v s in let b = shorter v s in (b, p v b a.0 a.1);
    from = λ v s k. let a = q v s k in join v s a.0 a.1;
  }

module _ (h z n : ℕ) (cs : List (Cell ℕ)) (tr : List Undo) (ss : List Saved) (good : Good h z n cs tr ss) where
  abbrev K : Kind
  K = kind_of h 0

  abbrev m : Meaning
  m = meaning_of z n cs tr ss

  -- what there is no cell for
  no_cell : length cs ≡ z + 1 → z < 49 * (n + 1)
  no_cell e = let w = good.sane.worth in omega (arith, e, w)

  full : (q : Request) → fits K m q ≡ true → Goes K m q (fault 16 4) m → Step h z n cs tr ss q (fault 16 4) n cs tr ss
  full q e g = ((λ u. absurd (no_way (sym u ∙ e)), λ u. g), good)

  -- fresh
  module _ (o : Sort) where
    small_known : (o : Sort) → knows_sort K o ≡ true → Small o
    small_known OfType e = tt
    small_known OfField e = tt
    small_known (OfRow s) e = ltb-true s.0 (2 ^ 24) (both (leb 10 h) (small s) e).1

    pub fresh_done : knows_sort K o ≡ true → length cs < z + 1 → Step h z n cs tr ss (fresh o) (code (length cs)) (n + 1) (cs ++ cell_of Open o ∷ []) tr ss
    fresh_done e l = (
      (
        λ u. absurd (no_way (sym u ∙ e)),
        λ u. added h z n cs tr ss good Open o tt (small_known o e) e l tt tt (λ v. Of o (v (length cs))) (λ v s a b. b) (λ v s b. (tt, b)),
      ),
      good_added h z n cs tr ss good Open o tt (small_known o e) e l tt tt,
    )

    pub fresh_full : knows_sort K o ≡ true → length cs ≡ z + 1 → Step h z n cs tr ss (fresh o) (fault 16 4) n cs tr ss
    fresh_full e l = full (fresh o) e (same_same m, inl (refl, refl, no_cell l))

  -- build
  module _ (g : Head) (x y l : ℕ) (s : Labels) where
    abbrev fit : Bool
    fit = ltb (head_number g) h && takes (state_of n cs) g x y l s

    module _ (e : fit ≡ true) where
      taken : takes (state_of n cs) g x y l s ≡ true
      taken = (both (ltb (head_number g) h) (takes (state_of n cs) g x y l s) e).1

      abbrev es : List (Cell ℕ)
      es = cs ++ cell_of (contents g x y l) (gives g s l) ∷ []

      proper : Proper (contents g x y l)
      proper = plan_proper cs x y l s g taken

      few : Small (gives g s l)
      few = plan_small cs x y l s g taken

      knows : knows_sort K (gives g s l) ≡ true
      knows = plan_known cs x y l s h good.heads g (ltb-true (head_number g) h (both (ltb (head_number g) h) (takes (state_of n cs) g x y l s) e).0) few

      within : Inside (length cs) (contents g x y l)
      within = plan_inside cs x y l s g taken

      refers : Refers es (length cs) (contents g x y l)
      refers =
          plan_refers cs es (omega (arith, length-append cs (cell_of (contents g x y l) (gives g s l) ∷ [])))
          (λ i il. ap (λ (c : Cell ℕ). c.sort) (get_or_append_left cs (cell_of (contents g x y l) (gives g s l) ∷ []) blank i il)) x y l s g taken
          (ap (λ (c : Cell ℕ). c.sort) (get_or-append_right cs (cell_of (contents g x y l) (gives g s l) ∷ []) (length cs) (length cs) blank refl (omega arith)
          ∙ ap (λ (k : ℕ). get_or (cell_of (contents g x y l) (gives g s l) ∷ []) k blank) (let q : length cs - length cs ≡ 0 = omega arith in q)))

      -- values of the children
      first_of : has_first g ≡ true → (0 < x) × (x < length cs) × (sort_at cs x ≡ first_sort g)
      first_of t = known_code cs x (first_sort g) (takes_first (state_of n cs) g x y l s taken t)

      second_of : has_second g ≡ true → (0 < y) × (y < length cs) × (sort_at cs y ≡ second_sort g s)
      second_of t = known_code cs y (second_sort g s) (takes_second (state_of n cs) g x y l s taken t)

      child : (v : Valuation) → Holds same cs (seated v) → (c : ℕ) (o : Sort) → (0 < c) × (c < length cs) × (sort_at cs c ≡ o) → Of o (seated v c)
      child v k c o p = subst (λ (i : Sort). Of i (seated v c)) p.2 (k c p.1).1

      label_in : g ≡ RowWith → In l s
      label_in t = (taken_label s l (both (small s) (holds s l) (subst (λ (k : Head). labelled k l s ≡ true) t (takes_label (state_of n cs) g x y l s taken))).1).1

      suits : (v : Valuation) → Holds same cs (seated v) → Suits g s l (seated v x) (seated v y)
      suits v k = record { label = label_in; first = λ t. child v k x (first_sort g) (first_of t); second = λ t. child v k y (second_sort g s) (second_of t) }

      builds : (v : Valuation) → Holds same cs (seated v) → Says same (seated v) (length cs) (contents g x y l) → Builds g l (v x) (v y) (v (length cs))
      builds v k a =
          let b = value_builds g s l (seated v x) (seated v y) (seated v (length cs)) (λ t. child v k x (first_sort g) (first_of t)) (λ t. child v k y (second_sort g s) (second_of t)) (says_value g (seated v) (length cs) x y l a) in
          subst (λ (u : Value). Builds g l (v x) (v y) u) (seat v (length cs) (owned cs good.sane.fine))
          (builds_swap g l (seated v x) (seated v y) (v x) (v y) (seated v (length cs)) (λ t. let p = first_of t in seat v x p.0) (λ t. let p = second_of t in seat v y p.0) b)

      unbuilds : (v : Valuation) → Holds same cs (seated v) → Builds g l (v x) (v y) (v (length cs)) → Says same (seated v) (length cs) (contents g x y l) × Of (gives g s l) (v (length cs))
      unbuilds v k b =
          let c =
          builds_swap g l (v x) (v y) (seated v x) (seated v y) (seated v (length cs)) (λ t. let p = first_of t in sym (seat v x p.0)) (λ t. let p = second_of t in sym (seat v y p.0))
          (subst (λ (u : Value). Builds g l (v x) (v y) u) (sym (seat v (length cs) (owned cs good.sane.fine))) b) in
          let one = builds_once g s l (seated v x) (seated v y) (suits v k) in
          let only : seated v (length cs) ≡ one.0 = one.3 (seated v (length cs)) c in (
            value_says g (seated v) (length cs) x y l (builds_value g l (seated v x) (seated v y) (seated v (length cs)) c),
            subst (λ (u : Value). Of (gives g s l) u) (sym only ∙ seat v (length cs) (owned cs good.sane.fine)) one.2,
          )

      pub build_done : length cs < z + 1 → Step h z n cs tr ss (build g x y l s) (code (length cs)) (n + 1) es tr ss
      build_done r = (
        (
          λ u. absurd (no_way (sym u ∙ e)),
          λ u. added h z n cs tr ss good (contents g x y l) (gives g s l) proper few knows r refers within (λ v. Builds g l (v x) (v y) (v (length cs))) (λ v k a b. builds v k a) unbuilds,
        ),
        good_added h z n cs tr ss good (contents g x y l) (gives g s l) proper few knows r refers within,
      )

      pub build_full : length cs ≡ z + 1 → Step h z n cs tr ss (build g x y l s) (fault 16 4) n cs tr ss
      build_full r = full (build g x y l s) e (same_same m, inl (refl, refl, no_cell r))
