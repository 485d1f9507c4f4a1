-- The scheme of a code: it can be copied, and its values are those that the code can have, the fun and rec names being as they are.
use Rattle.std.proofs.Common.{◌≡◌, ℕ, zero, suc, ◌/◌, ◌%◌, ◌^◌, ◌<◌, ◌≤◌, Bool, true, false, eqb, ◌⊎◌, List, [], ◌∷◌, sym, refl, ap, ◌∙◌, subst, inl, inr, arith, eq-eqb, ne_eqb, eqb-true}
use mathlib.Core.Option.{Option, some, none}
use native.Mathlib.Nat.{zero-div}
use Rattle.ground.specs.Values.{Value, of_type, of_field, of_row}
use Rattle.ground.specs.Sorts.{Of}
use Rattle.ground.specs.Classes.{InClass, Asked, Allowed}
use Rattle.ground.specs.Heads.{Builds, none_lacked, first_sort, second_sort}
use Rattle.ground.specs.declared.sort.Sort.{Sort}
use Rattle.ground.specs.declared.sort.Sort.TheVariants.{«Type» as OfType, Field as OfField, Row as OfRow}
use Rattle.ground.specs.declared.classes.Classes.{Classes}
use Rattle.ground.specs.declared.head.Head.{Head}
use Rattle.ground.proofs.Built.{builds_swap, builds_one, builds_first, builds_second, gives_leaf, gives_over, no_way}
use Rattle.system.specs.Meaning.{Kind, Valuation, Meaning, Sound, Known, Listed, Once, Fitting}
use Rattle.system.specs.Requests.{head_number}
use Rattle.system.specs.Replies.{Shaped, Looks, open_code, built}
use Rattle.system.proofs.Takes.{takes_first, takes_second, takes_label, apt, head_known}
use Rattle.engine.specs.Trees.{Tree, any, stay, leaf, over, pair, Has, Scope}
use Rattle.engine.specs.Schemes.{Mono, Reached, name, stands, first, second, TreeOf, free, held, bare, on, two}
use Rattle.engine.specs.Scopes.{Level, Grown}
use Rattle.engine.proofs.FewChildren.{label_leaf, label_over, builds_leaf, builds_over}
use Rattle.engine.proofs.TreeValues.{Even, has_even, has_one}

-- The class set of an open code.
pub classes_at : List (ℕ × Classes) → ℕ → Classes
classes_at [] c = record { 0 = 0 }
classes_at (o ∷ os) c = elim (eqb o.0 c) [ true ↦ o.1 | false ↦ classes_at os c ]

pub listed_at : (os : List (ℕ × Classes)) (c : ℕ) (k : Classes) → Once os → Listed os c k → classes_at os c ≡ k
unfolding classes_at
listed_at [] c k n l = absurd l
listed_at (o ∷ os) c k n (inl e) = rw (eq-eqb o.0 c e.0, classes_at) e.1
listed_at (o ∷ os) c k n (inr l) = rw (ne_eqb o.0 c (λ e. n.0 k (subst (λ (x : ℕ). Listed os x k) (sym e) l)), classes_at) (listed_at os c k n.1 l)

pub sort_at : Meaning → ℕ → Sort
sort_at m c = elim (m.state.sort_of c) [ some o ↦ o | none ↦ OfType ]

sort_at_known : (m : Meaning) (c : ℕ) (o : Sort) → m.state.sort_of c ≡ some o → sort_at m c ≡ o
unfolding sort_at
sort_at_known m c o e = rw (e, sort_at)

pub some_inj : {o p : Sort} → ◌≡◌ {A = Option Sort} (some o) (some p) → o ≡ p
some_inj e = cc

class_number : (j : ℕ) (t : Rattle.ground.specs.Values.Ty) → InClass j t → j ≤ 3
class_number zero t h = omega arith
class_number (suc zero) t h = omega arith
class_number (suc (suc zero)) t h = omega arith
class_number (suc (suc (suc zero))) t h = omega arith
class_number (suc (suc (suc (suc k)))) t h = absurd h

-- A set of classes that allows something of a sort asks only of types, and of no class above 3.
class_sort : (k : Classes) (o : Sort) (x : Value) → Of o x → Allowed k x → (j : ℕ) → Asked j k → (j ≤ 3) × (o ≡ OfType)
class_sort k OfType (of_type t) q a j h = (class_number j t (a j h), refl)
class_sort k OfField (of_type t) q a j h = absurd q
class_sort k (OfRow m) (of_type t) q a j h = absurd q
class_sort k o (of_field f) q a j h = absurd (a j h)
class_sort k o (of_row r) q a j h = absurd (a j h)

pub none_asked : (k : Classes) (j : ℕ) → k.0 ≡ 0 → Asked j k → ⊥
none_asked k j e h =
    let z : (0 / 2 ^ j) % 2 ≡ 1 = subst (λ (x : ℕ). (x / 2 ^ j) % 2 ≡ 1) e h in
    let y : 0 % 2 ≡ 1 = subst (λ (x : ℕ). x % 2 ≡ 1) (zero-div (2 ^ j)) z in omega arith

-- Which variables a tree has.
abbrev either : Bool → Bool → Bool
either true b = true
either false b = b

either_left : (a b : Bool) → a ≡ true → either a b ≡ true
either_left true b e = refl
either_left false b e = absurd (no_way e)

either_right : (a b : Bool) → b ≡ true → either a b ≡ true
either_right true b e = refl
either_right false b e = e

either_split : (a b : Bool) → either a b ≡ true → (a ≡ true) ⊎ (b ≡ true)
either_split true b e = inl refl
either_split false b e = inr e

either_none : (a b : Bool) → a ≡ false → b ≡ false → either a b ≡ false
either_none true b p q = p
either_none false b p q = q

abbrev var_in : Tree → ℕ → Bool
var_in (any g o k) d = eqb g d
var_in (stay c) d = false
var_in (leaf h s) d = false
var_in (over h t) d = var_in t d
var_in (pair h l s t u) d = either (var_in t d) (var_in u d)

-- The values of a for the variables of the tree, those of v for all else.
mix : Tree → Valuation → Valuation → Valuation
mix t a v d = elim (var_in t d) [ true ↦ a d | false ↦ v d ]

mix_in : (t : Tree) (a v : Valuation) (d : ℕ) → var_in t d ≡ true → mix t a v d ≡ a d
unfolding mix
mix_in t a v d e = rw (e, mix)

mix_out : (t : Tree) (a v : Valuation) (d : ℕ) → var_in t d ≡ false → mix t a v d ≡ v d
unfolding mix
mix_out t a v d e = rw (e, mix)

module _ (K : Kind) (rank : ℕ → ℕ) (m : Meaning) (E : Scope) (snd : Sound K m) where
  -- What is reached from the names is fixed by them.
  pub reached_fixed : (v w : Valuation) → m.state.solves v → m.state.solves w → Level v w E → {c : ℕ} → Reached rank m E c → v c ≡ w c
  reached_fixed v w sv sw l (name {c = c} x) = l c x
  reached_fixed v w sv sw l (stands r s) = sym (s.equal v sv) ∙ reached_fixed v w sv sw l r ∙ s.equal w sw
  reached_fixed v w sv sw l (first {c = c} {x = x} {y = y} {l = i} {h = h} r b f) =
      let e = reached_fixed v w sv sw l r in
      builds_first h i (v x) (v y) (w x) (w y) (v c) f (b.builds v sv) (subst (Builds h i (w x) (w y)) (sym e) (b.builds w sw))
  reached_fixed v w sv sw l (second {c = c} {x = x} {y = y} {l = i} {h = h} r b f) =
      let e = reached_fixed v w sv sw l r in
      let s = takes_second m.state h x y i b.lacked b.takes f in
      let q = takes_label m.state h x y i b.lacked b.takes in
      builds_second h i (v x) (v y) (w x) (w y) (v c) f
      (apt h i b.lacked (v y) q (snd.sorted v sv y (second_sort h b.lacked) s))
      (apt h i b.lacked (w y) q (snd.sorted w sw y (second_sort h b.lacked) s))
      (b.builds v sv) (subst (Builds h i (w x) (w y)) (sym e) (b.builds w sw))

  shaped_head : {c x y l : ℕ} {h : Head} → Shaped rank m c h x y l → head_number h < K.heads
  shaped_head {c} {x} {y} {l} {h} b = head_known K m.state h x y l c b.lacked snd.heads snd.sorts b.takes b.gives

  -- The scheme can be copied.
  pub tree_grown : {c : ℕ} {t : Tree} → TreeOf rank m E c t → (p : Sort) → m.state.sort_of c ≡ some p → Grown K (sort_at m) (classes_at m.state.opens) m E t p
  tree_grown (free {d = d} {k = k} {o = o} s e n) p q =
      let v = snd.some in
      let f = snd.fitting v.0 v.1 d k o s.listed e in (
        some_inj (sym e ∙ s.sort ∙ q),
        sort_at_known m d o e,
        listed_at m.state.opens d k snd.once s.listed,
        snd.sorts d o e,
        λ j a. let z = class_sort k o (v.0 d) f.0 f.1 j a in (z.0, z.1, λ cl. none_asked k j (snd.classless cl d k s.listed) a),
      )
  tree_grown (held s r) p q = (s.sort ∙ q, λ v w sv sw l. reached_fixed v w sv sw l r)
  tree_grown (bare {x = x} {y = y} {l = l} {h = h} b f) p q =
      (gives_leaf h b.lacked 0 l f ∙ some_inj (sym b.gives ∙ q), f, shaped_head b, label_leaf h l 0 b.lacked f (takes_label m.state h x y l b.lacked b.takes))
  tree_grown (on {x = x} {y = y} {l = l} {h = h} b f g t) p q = (
    gives_over h none_lacked b.lacked 0 l f g ∙ some_inj (sym b.gives ∙ q),
    g,
    shaped_head b,
    label_over h 0 none_lacked f g,
    tree_grown t (first_sort h) (takes_first m.state h x y l b.lacked b.takes f),
  )
  tree_grown (two {x = x} {y = y} {l = l} {h = h} b f g t u) p q = (
    some_inj (sym b.gives ∙ q),
    shaped_head b,
    takes_label m.state h x y l b.lacked b.takes,
    tree_grown t (first_sort h) (takes_first m.state h x y l b.lacked b.takes f),
    tree_grown u (second_sort h b.lacked) (takes_second m.state h x y l b.lacked b.takes g),
  )

  -- Under each solution the tree has the code's value.
  pub tree_is : (v : Valuation) → m.state.solves v → {c : ℕ} {t : Tree} → TreeOf rank m E c t → Has v v t (v c)
  tree_is v sv (free {c = c} {d = d} {k = k} {o = o} s e n) =
      let q = s.equal v sv in
      let f = snd.fitting v sv d k o s.listed e in
      (q, subst (Of o) (sym q) f.0, subst (Allowed k) (sym q) f.1)
  tree_is v sv (held s r) = s.equal v sv
  tree_is v sv (bare {c = c} {x = x} {y = y} {l = l} {h = h} b f) = builds_leaf h l 0 (v x) (v y) (v c) (v c) (v c) f (b.builds v sv)
  tree_is v sv (on {c = c} {x = x} {y = y} {l = l} {h = h} b f g t) = (v x, tree_is v sv t, builds_over h l 0 (v x) (v y) (v x) (v c) g (b.builds v sv))
  tree_is v sv (two {c = c} {x = x} {y = y} {l = l} {h = h} b f g t u) = (v x, v y, tree_is v sv t, tree_is v sv u, b.builds v sv)

  -- The values that a tree allows its variables are within sort and class set.
  tree_fit : (a v : Valuation) {c : ℕ} {t : Tree} → TreeOf rank m E c t → (x : Value) → Has a v t x → (d : ℕ) (k : Classes) (o : Sort)
      → var_in t d ≡ true → Listed m.state.opens d k → m.state.sort_of d ≡ some o → Of o (a d) × Allowed k (a d)
  tree_fit a v (free {d = g} {k = j} {o = p} s e n) x h d k o i l q =
      let z = eqb-true g d i in
      let jk : j ≡ k = sym (listed_at m.state.opens g j snd.once s.listed) ∙ ap (classes_at m.state.opens) z ∙ listed_at m.state.opens d k snd.once l in
      let po : p ≡ o = some_inj (sym e ∙ ap (λ y. m.state.sort_of y) z ∙ q) in
      let y : x ≡ a d = h.0 ∙ ap a z in
      (subst (λ (s : Sort). Of s (a d)) po (subst (Of p) y h.1), subst (λ (s : Classes). Allowed s (a d)) jk (subst (Allowed j) y h.2))
  tree_fit a v (held s r) x h d k o i l q = absurd (no_way i)
  tree_fit a v (bare b f) x h d k o i l q = absurd (no_way i)
  tree_fit a v (on b f g t) x h d k o i l q = tree_fit a v t h.0 h.1 d k o i l q
  tree_fit a v (two {t = t} {u = u} b f g p r) x h d k o i l q =
      elim (either_split (var_in t d) (var_in u d) i) [
        | inl e ↦ tree_fit a v p h.0 h.2 d k o e l q
        | inr e ↦ tree_fit a v r h.1 h.3 d k o e l q
      ]

  tree_apart : {c : ℕ} {t : Tree} → TreeOf rank m E c t → (d : ℕ) → Reached rank m E d → var_in t d ≡ false
  tree_apart (free {d = g} s e n) d r = ne_eqb g d (λ z. n (subst (Reached rank m E) (sym z) r))
  tree_apart (held s r) d q = refl
  tree_apart (bare b f) d q = refl
  tree_apart (on b f g t) d q = tree_apart t d q
  tree_apart (two {t = t} {u = u} b f g p r) d q = either_none (var_in t d) (var_in u d) (tree_apart p d q) (tree_apart r d q)

  tree_even : (a v w : Valuation) → ((d : ℕ) (k : Classes) → Listed m.state.opens d k → Reached rank m E d → v d ≡ w d)
      → {c : ℕ} {t : Tree} → TreeOf rank m E c t → ((d : ℕ) (k : Classes) → Listed m.state.opens d k → var_in t d ≡ true → a d ≡ w d) → Even a w v w t
  tree_even a v w r (free {d = g} {k = k} s e n) f = f g k s.listed (eq-eqb g g refl)
  tree_even a v w r (held {d = d} {k = k} s q) f = r d k s.listed q
  tree_even a v w r (bare b g) f = tt
  tree_even a v w r (on b g i t) f = tree_even a v w r t f
  tree_even a v w r (two {t = t} {u = u} b g i p q) f =
      (tree_even a v w r p (λ d k l e. f d k l (either_left (var_in t d) (var_in u d) e)), tree_even a v w r q (λ d k l e. f d k l (either_right (var_in t d) (var_in u d) e)))

  module _ (looks : (c : ℕ) → Known m.state c → Looks rank m c) where
    -- The open codes that are reached fix all that is reached.
    reached_level : (v w : Valuation) → m.state.solves v → m.state.solves w → ((d : ℕ) (k : Classes) → Listed m.state.opens d k → Reached rank m E d → v d ≡ w d)
        → (n c : ℕ) → rank c < n → Reached rank m E c → Known m.state c → v c ≡ w c
    reached_level v w sv sw f zero c lt r k = absurd (omega arith)
    reached_level v w sv sw f (suc n) c lt r k = go (looks c k) (reached_level v w sv sw f n)
      where
        go : Looks rank m c → ((d : ℕ) → rank d < n → Reached rank m E d → Known m.state d → v d ≡ w d) → v c ≡ w c
        go (open_code d j s) ih = s.equal v sv ∙ f d j s.listed (stands r s) ∙ sym (s.equal w sw)
        go (built h x y l b) ih =
            builds_one h l (w x) (w y) (v c) (w c)
            (builds_swap h l (v x) (v y) (w x) (w y) (v c)
            (λ e. let z = b.first_falls e in ih x (omega arith) (first r b e) (first_sort h, takes_first m.state h x y l b.lacked b.takes e))
            (λ e. let z = b.second_falls e in ih y (omega arith) (second r b e) (second_sort h b.lacked, takes_second m.state h x y l b.lacked b.takes e))
            (b.builds v sv))
            (b.builds w sw)

    -- Each choice for the variables is that of a solution, in which the names are as they were.
    pub tree_free : ((c : ℕ) → Mono E c → Known m.state c) → {c : ℕ} {t : Tree} → TreeOf rank m E c t → (p : Sort) → m.state.sort_of c ≡ some p
        → (a v : Valuation) → m.state.solves v → (x : Value) → Has a v t x → (w : Valuation) × m.state.solves w × (w c ≡ x) × Level v w E
    tree_free kn {c} {t} tr p q a v sv x h =
        let fit : Fitting m.state (mix t a v) = λ d k o l e. pick d k o l e (var_in t d) refl in
        let r = snd.free (mix t a v) fit in
        let w = r.0 in
        let sw = r.1 in
        let stay-same : (d : ℕ) (k : Classes) → Listed m.state.opens d k → Reached rank m E d → v d ≡ w d =
        λ d k l y. sym (r.2 d k l ∙ mix_out t a v d (tree_apart tr d y)) in
        let ev : Even a w v w t = tree_even a v w stay-same tr (λ d k l e. sym (r.2 d k l ∙ mix_in t a v d e)) in (
          w,
          sw,
          has_one K (sort_at m) (classes_at m.state.opens) m E w w t p (w c) x (tree_grown tr p q) (tree_is w sw tr) (has_even a w v w t x ev h),
          λ d y. reached_level v w sv sw stay-same (suc (rank d)) d (omega arith) (name y) (kn d y),
        )
      where
        pick : (d : ℕ) (k : Classes) (o : Sort) → Listed m.state.opens d k → m.state.sort_of d ≡ some o → (b : Bool) → var_in t d ≡ b → Of o (mix t a v d) × Allowed k (mix t a v d)
        pick d k o l e true i =
            let z = tree_fit a v tr x h d k o i l e in
            (subst (Of o) (sym (mix_in t a v d i)) z.0, subst (Allowed k) (sym (mix_in t a v d i)) z.1)
        pick d k o l e false i =
            let z = snd.fitting v sv d k o l e in
            (subst (Of o) (sym (mix_out t a v d i)) z.0, subst (Allowed k) (sym (mix_out t a v d i)) z.1)
