-- What a head puts into a cell says what the head builds.
use Rattle.std.proofs.Common.{◌≡◌, ℕ, ◌+◌, ◌-◌, ◌/◌, ◌%◌, ◌^◌, ◌<◌, ◌≤◌, true, ◌&&◌, eqb, leb, ◌⊎◌, List, length, sym, refl, ap, ◌∙◌, subst, ap₂, inl, inr, ⊎_elim, arith, ltb-true, lt-ltb, eqb-true, le-leb, leb-true}
use native.Mathlib.Nat.{div-eq_of_lt}
use Rattle.std.proofs.lemmas.Bool.{cases_lt}
use Rattle.ground.specs.Values.{Value}
use Rattle.ground.specs.Sorts.{Of, In}
use Rattle.ground.specs.Heads.{Builds, gives, has_first, has_second, none_lacked, without, first_sort, second_sort}
use Rattle.ground.specs.declared.sort.Sort.{Sort}
use Rattle.ground.specs.declared.sort.Sort.TheVariants.{«Type» as OfType, Field as OfField, Row as OfRow}
use Rattle.ground.specs.declared.sort.Labels.{Labels}
use Rattle.ground.specs.declared.head.Head.{Head}
use Rattle.ground.specs.declared.head.Head.TheVariants.{Whole, Tenth, Flag, To, List as ListOf, Record, Absent, Has, Empty, Row as RowWith}
use Rattle.ground.proofs.Rows.{at_end}
use Rattle.ground.proofs.Without.{without_one}
use Rattle.system.proofs.Takes.{both, both_of, is_of_holds}
use Rattle.system.specs.Meaning.{small, knows_sort}
use Rattle.system.specs.Requests.{head_number, takes, holds, is_of}
use Rattle.system.specs.Replies.{kind_of}
use Rattle.cells.specs.declared.What.TheVariants.{One}
use Rattle.cells.specs.declared.Cell.{Cell}
use Rattle.cells.specs.Cells.{Valuation, as_type, as_field, as_row, leaf, one, two, row_of, sort_at, Says, Refers, Adds, Over, one_sort, one_gives}
use Rattle.cells.specs.Weights.{same}
use Rattle.cells.proofs.Building.{type_is, field_is, row_is}
use Rattle.cells.proofs.Extending.{Inside}
use Rattle.cells.proofs.Labelling.{including, including_adds}
use Rattle.unifier.specs.Fine.{Proper, Small}
use Rattle.unifier.specs.States.{sort_in, state_of}
use Rattle.unifier.specs.Views.{contents}
use Rattle.unifier.specs.Codes.{known_code}
use Rattle.cells.specs.declared.Bare.TheVariants.{Whole as BareWhole, Tenth as BareTenth, Flag as BareFlag, Absent as BareAbsent, Empty as BareEmpty}
use Rattle.cells.specs.declared.Wrap.{Wrap}
use Rattle.cells.specs.declared.Wrap.TheVariants.{List as OneList, Record as OneRecord, Has as OneHas}

ten : (k : ℕ) → (k ≡ 5) ⊎ (k ≡ 10) → (n : ℕ) → n < k → 5 < n → 10 ≤ k
ten k (inl e) n b l = absurd (let z : ⊥ = omega arith in z)
ten k (inr e) n b l = omega arith

-- the value that a cell with these contents has
abbrev value_of : Head → ℕ → Value → Value → Value
value_of Whole l x y = leaf BareWhole
value_of Tenth l x y = leaf BareTenth
value_of Flag l x y = leaf BareFlag
value_of To l x y = two x y
value_of ListOf l x y = one OneList x
value_of Record l x y = one OneRecord x
value_of Absent l x y = leaf BareAbsent
value_of Has l x y = one OneHas x
value_of Empty l x y = leaf BareEmpty
value_of RowWith l x y = row_of l x y

pub says_value : (h : Head) (v : Valuation) (i x y l : ℕ) → Says same v i (contents h x y l) → v i ≡ value_of h l (v x) (v y)
says_value Whole v i x y l s = s
says_value Tenth v i x y l s = s
says_value Flag v i x y l s = s
says_value To v i x y l s = s
says_value ListOf v i x y l s = s
says_value Record v i x y l s = s
says_value Absent v i x y l s = s
says_value Has v i x y l s = s
says_value Empty v i x y l s = s
says_value RowWith v i x y l s = s

pub value_says : (h : Head) (v : Valuation) (i x y l : ℕ) → v i ≡ value_of h l (v x) (v y) → Says same v i (contents h x y l)
value_says Whole v i x y l s = s
value_says Tenth v i x y l s = s
value_says Flag v i x y l s = s
value_says To v i x y l s = s
value_says ListOf v i x y l s = s
value_says Record v i x y l s = s
value_says Absent v i x y l s = s
value_says Has v i x y l s = s
value_says Empty v i x y l s = s
value_says RowWith v i x y l s = s

pub builds_value : (h : Head) (l : ℕ) (x y v : Value) → Builds h l x y v → v ≡ value_of h l x y
builds_value Whole l x y v b = b
builds_value Tenth l x y v b = b
builds_value Flag l x y v b = b
builds_value To l x y v (a, c, p, q, e) = e ∙ sym (ap₂ two p q)
builds_value ListOf l x y v (a, p, e) = e ∙ sym (ap (one OneList) p)
builds_value Record l x y v (a, p, e) = e ∙ sym (ap (one OneRecord) p)
builds_value Absent l x y v b = b
builds_value Has l x y v (a, p, e) = e ∙ sym (ap (one OneHas) p)
builds_value Empty l x y v b = b
builds_value RowWith l x y v (f, r, p, q, e) = e ∙ sym (ap₂ (row_of l) p q)

pub value_builds : (h : Head) (m : Labels) (l : ℕ) (x y v : Value) → (has_first h ≡ true → Of (first_sort h) x) → (has_second h ≡ true → Of (second_sort h m) y) → v ≡ value_of h l x y → Builds h l x y v
value_builds Whole m l x y v f s e = e
value_builds Tenth m l x y v f s e = e
value_builds Flag m l x y v f s e = e
value_builds To m l x y v f s e = (as_type x, as_type y, type_is x (f refl), type_is y (s refl), e)
value_builds ListOf m l x y v f s e = (as_type x, type_is x (f refl), e)
value_builds Record m l x y v f s e = (as_row x, row_is none_lacked x (f refl), e)
value_builds Absent m l x y v f s e = e
value_builds Has m l x y v f s e = (as_type x, type_is x (f refl), e)
value_builds Empty m l x y v f s e = e
value_builds RowWith m l x y v f s e = (as_field x, as_row y, field_is x (f refl), row_is m y (s refl), e)

-- what is taken, by the cells
pub taken_label : (m : Labels) (l : ℕ) → holds m l ≡ true → (l < 24) × In l m
taken_label m l e = let p = both (leb l 23) (eqb ((m.0 / 2 ^ l) % 2) 1) e in (let q = leb-true l 23 p.0 in omega (arith, q), eqb-true ((m.0 / 2 ^ l) % 2) 1 p.1)

taken_child : (cs : List (Cell ℕ)) (x : ℕ) (o : Sort) → is_of (sort_in cs x) o ≡ true → (0 < x) × (x < length cs) × (sort_at cs x ≡ o)
taken_child cs x o e = known_code cs x o (is_of_holds (sort_in cs x) o e)

-- the sort of a row over a tail that lacks m
bit_least : (x l : ℕ) → (x / 2 ^ l) % 2 ≡ 1 → 2 ^ l ≤ x
bit_least x l i =
    ⊎_elim
    (λ (p : x < 2 ^ l). absurd (let e : (x / 2 ^ l) % 2 ≡ 0 = ap (λ (y : ℕ). y % 2) (div-eq_of_lt p) in let z : ⊥ = omega (arith, e, i) in z))
    (λ (p : 2 ^ l ≤ x). p)
    (cases_lt x (2 ^ l))

without_adds : (m : Labels) (l : ℕ) → In l m → Adds (without m l) l m
without_adds m l i =
    let gone : In l (without m l) → ⊥ = λ j. ((without_one m l l i).0 j).1 refl in
    let least = bit_least m.0 l i in
    let e : including (without m l) l ≡ m = ap (λ (x : ℕ). record { 0 = x }) (let z : m.0 - 2 ^ l + 2 ^ l ≡ m.0 = omega (arith, least) in z) in
    subst (λ (n : Labels). Adds (without m l) l n) e (including_adds (without m l) l gone)

-- what a row takes
abbrev Child : List (Cell ℕ) → ℕ → Sort → Type 0
Child cs x o = (0 < x) × (x < length cs) × (sort_at cs x ≡ o)

row_taken : (cs : List (Cell ℕ)) (x y l : ℕ) (m : Labels) → (small m && holds m l && is_of (sort_in cs x) OfField && is_of (sort_in cs y) (OfRow m)) ≡ true → (m.0 < 2 ^ 24) × (l < 24) × In l m × Child cs x OfField × Child cs y (OfRow m)
row_taken cs x y l m e =
    let a = both (small m && holds m l && is_of (sort_in cs x) OfField) (is_of (sort_in cs y) (OfRow m)) e in
    let b = both (small m && holds m l) (is_of (sort_in cs x) OfField) a.0 in
    let c = both (small m) (holds m l) b.0 in
    let k = taken_label m l c.1 in
    (ltb-true m.0 (2 ^ 24) c.0, k.0, k.1, taken_child cs x OfField b.1, taken_child cs y (OfRow m) a.1)

two_taken : (cs : List (Cell ℕ)) (x y : ℕ) → (is_of (sort_in cs x) OfType && is_of (sort_in cs y) OfType) ≡ true → Child cs x OfType × Child cs y OfType
two_taken cs x y e =
    let a = both (is_of (sort_in cs x) OfType) (is_of (sort_in cs y) OfType) e in
    (taken_child cs x OfType a.0, taken_child cs y OfType a.1)

-- the contents refer to what there is
abbrev Takes : List (Cell ℕ) → Head → ℕ → ℕ → ℕ → Labels → Type 0
Takes cs h x y l m = takes (state_of 0 cs) h x y l m ≡ true

module _ (cs ds : List (Cell ℕ)) (more : length cs < length ds) (sorts : (i : ℕ) → i < length cs → sort_at ds i ≡ sort_at cs i) (x y l : ℕ) (m : Labels) where
  one_refers : (k : Wrap) (o : Sort) → Child cs x o → one_sort k o → sort_at ds (length cs) ≡ one_gives k → Refers ds (length cs) (One k x)
  one_refers k o c s g = (omega (arith, c.1, more), subst (one_sort k) (sym (sorts x c.1 ∙ c.2)) s, g)

  pub plan_refers : (h : Head) → Takes cs h x y l m → sort_at ds (length cs) ≡ gives h m l → Refers ds (length cs) (contents h x y l)
  plan_refers Whole t g = subst (λ (s : Sort). Of s (leaf BareWhole)) (sym g) tt
  plan_refers Tenth t g = subst (λ (s : Sort). Of s (leaf BareTenth)) (sym g) tt
  plan_refers Flag t g = subst (λ (s : Sort). Of s (leaf BareFlag)) (sym g) tt
  plan_refers To t g =
      let p = two_taken cs x y t in
      let a = p.0 in
      let b = p.1 in
      (omega (arith, a.1, more), omega (arith, b.1, more), sorts x a.1 ∙ a.2, sorts y b.1 ∙ b.2, g)
  plan_refers ListOf t g = one_refers OneList OfType (taken_child cs x OfType t) refl g
  plan_refers Record t g = one_refers OneRecord (OfRow none_lacked) (taken_child cs x (OfRow none_lacked) t) refl g
  plan_refers Absent t g = subst (λ (s : Sort). Of s (leaf BareAbsent)) (sym g) tt
  plan_refers Has t g = one_refers OneHas OfType (taken_child cs x OfType t) refl g
  plan_refers Empty t g = subst (λ (s : Sort). Of s (leaf BareEmpty)) (sym g) (λ k i. at_end k)
  plan_refers RowWith t g =
      let p = row_taken cs x y l m t in
      let a = p.3 in
      let b = p.4 in (
        omega (arith, a.1, more),
        omega (arith, b.1, more),
        sorts x a.1 ∙ a.2,
        subst (λ (s : Sort). Over s l (sort_at ds y)) (sym g) (subst (λ (s : Sort). Over (OfRow (without m l)) l s) (sym (sorts y b.1 ∙ b.2)) (without_adds m l p.2)),
      )

module _ (cs : List (Cell ℕ)) (x y l : ℕ) (m : Labels) where
  pub plan_proper : (h : Head) → Takes cs h x y l m → Proper (contents h x y l)
  plan_proper Whole t = tt
  plan_proper Tenth t = tt
  plan_proper Flag t = tt
  plan_proper To t = tt
  plan_proper ListOf t = tt
  plan_proper Record t = tt
  plan_proper Absent t = tt
  plan_proper Has t = tt
  plan_proper Empty t = tt
  plan_proper RowWith t = let p = row_taken cs x y l m t in let a = p.3 in (p.1, a.0)

  pub plan_small : (h : Head) → Takes cs h x y l m → Small (gives h m l)
  plan_small Whole t = tt
  plan_small Tenth t = tt
  plan_small Flag t = tt
  plan_small To t = tt
  plan_small ListOf t = tt
  plan_small Record t = tt
  plan_small Absent t = tt
  plan_small Has t = tt
  plan_small Empty t = ltb-true m.0 (2 ^ 24) t
  plan_small RowWith t = let p = row_taken cs x y l m t in let z : m.0 - 2 ^ l < 2 ^ 24 = omega (arith, p.0) in z

  pub plan_inside : (h : Head) → Takes cs h x y l m → Inside (length cs) (contents h x y l)
  plan_inside Whole t = tt
  plan_inside Tenth t = tt
  plan_inside Flag t = tt
  plan_inside To t = let p = two_taken cs x y t in let a = p.0 in let b = p.1 in (a.1, b.1)
  plan_inside ListOf t = (taken_child cs x OfType t).1
  plan_inside Record t = (taken_child cs x (OfRow none_lacked) t).1
  plan_inside Absent t = tt
  plan_inside Has t = (taken_child cs x OfType t).1
  plan_inside Empty t = tt
  plan_inside RowWith t = let p = row_taken cs x y l m t in let a = p.3 in let b = p.4 in (a.1, b.1)

  -- with five heads known, the heads are those that give types
  pub plan_known : (k : ℕ) → (k ≡ 5) ⊎ (k ≡ 10) → (h : Head) → head_number h < k → Small (gives h m l) → knows_sort (kind_of k 0) (gives h m l) ≡ true
  plan_known k e Whole b s = refl
  plan_known k e Tenth b s = refl
  plan_known k e Flag b s = refl
  plan_known k e To b s = refl
  plan_known k e ListOf b s = refl
  plan_known k e Record b s = refl
  plan_known k e Absent b s = le-leb 10 k (ten k e 6 b (omega arith))
  plan_known k e Has b s = le-leb 10 k (ten k e 7 b (omega arith))
  plan_known k e Empty b s = both_of (leb 10 k) (small m) (le-leb 10 k (ten k e 8 b (omega arith))) (lt-ltb m.0 (2 ^ 24) s)
  plan_known k e RowWith b s = both_of (leb 10 k) (small (without m l)) (le-leb 10 k (ten k e 9 b (omega arith))) (lt-ltb (m.0 - 2 ^ l) (2 ^ 24) s)
