-- Values that meet entries: one entry, a set joined to one, and entries that were followed.
use Rattle.std.specs.Prelude.{◌≡◌, ℕ, ◌<◌, Bool, true, false, cond, List, [], ◌∷◌, Some, ◌==◌, refl}
use Rattle.std.proofs.Common.{sym, ◌∙◌, ap, subst, inl, inr, arith, eqb-true}
use Rattle.std.proofs.Math.Option.{some}
use Rattle.ground.specs.Values.{Ty, Value, of_type, of_field, of_row}
use Rattle.ground.specs.Sorts.{Of}
use Rattle.ground.specs.Classes.{InClass, Asked, Allowed}
use Rattle.ground.specs.declared.sort.Sort.TheVariants.{«Type» as OfType}
use Rattle.ground.specs.declared.code.Code.{Code}
use Rattle.ground.specs.declared.classes.Classes.{Classes}
use Rattle.system.specs.Meaning.{Kind, Valuation, Meaning, Sound}
use Rattle.system.specs.Follows.{Within}
use Rattle.classes.specs.declared.entry.Entry.{Entry}
use Rattle.classes.specs.Entries.{unclassed, both, classed, joined}
use Rattle.classes.specs.Layered.{Meets, Followable}
use Rattle.classes.specs.Following.{Leads}
use Rattle.classes.specs.Setting.{of_both, in_both, none_asked, both_small}
use Rattle.classes.specs.Judging.{type_held}

-- the value of a type is within a set exactly when it is in each of its classes
pub allowed_in : (s : Classes) (c k : ℕ) (v : Valuation) → Of OfType (v c) → Allowed s (v c) → Asked k s → Within k c v
allowed_in s c k v o a h =
    let t = type_held (v c) o in
    let b : Allowed s (of_type t.0) = subst (Allowed s) t.1 a in (t.0, t.1, b k h)

same_type : (t u : Ty) → of_type t ≡ of_type u → t ≡ u
same_type t u e = cc

pub in_allowed : (s : Classes) (c : ℕ) (v : Valuation) → Of OfType (v c) → ((k : ℕ) → Asked k s → Within k c v) → Allowed s (v c)
in_allowed s c v o f =
    let t = type_held (v c) o in
    let b : Allowed s (of_type t.0) = λ k h. let w = f k h in subst (InClass k) (same_type w.0 t.0 (sym w.1 ∙ t.1)) w.2 in
    subst (Allowed s) (sym t.1) b

pub allowed_none : (x : Value) → Allowed unclassed x
allowed_none (of_type t) = λ k h. absurd (none_asked k h)
allowed_none (of_field f) = λ k h. none_asked k h
allowed_none (of_row r) = λ k h. none_asked k h

pub of_allowed : (s t : Classes) (x : Value) → Allowed (both s t) x → Allowed s x × Allowed t x
of_allowed s t (of_type u) h = (λ k a. h k (in_both s t k (inl a)), λ k a. h k (in_both s t k (inr a)))
of_allowed s t (of_field f) h = (λ k a. h k (in_both s t k (inl a)), λ k a. h k (in_both s t k (inr a)))
of_allowed s t (of_row r) h = (λ k a. h k (in_both s t k (inl a)), λ k a. h k (in_both s t k (inr a)))

pub both_allowed : (s t : Classes) (x : Value) → Allowed s x → Allowed t x → Allowed (both s t) x
both_allowed s t (of_type u) a b = λ k h. elim (of_both s t k h) [ inl p ↦ a k p | inr p ↦ b k p ]
both_allowed s t (of_field f) a b = λ k h. elim (of_both s t k h) [ inl p ↦ a k p | inr p ↦ b k p ]
both_allowed s t (of_row r) a b = λ k h. elim (of_both s t k h) [ inl p ↦ a k p | inr p ↦ b k p ]

-- the entries met, with a set joined
joined_at :
    (e : Entry) (es fs : List Entry) (d : Code) (s : Classes) (v : Valuation) (b : Bool) → (e.code.0 == d.0) ≡ b
    → (Meets fs v → Meets es v × Allowed s (v d.0)) → (Meets es v → Allowed s (v d.0) → Meets fs v)
    → (Meets (cond b (record { code = e.code; set = both e.set s } ∷ es) (e ∷ fs)) v → Meets (e ∷ es) v × Allowed s (v d.0))
    × (Meets (e ∷ es) v → Allowed s (v d.0) → Meets (cond b (record { code = e.code; set = both e.set s } ∷ es) (e ∷ fs)) v)
joined_at e es fs d s v true p f g =
    let q : v e.code.0 ≡ v d.0 = ap v (eqb-true e.code.0 d.0 p) in (
      λ h. let a = of_allowed e.set s (v e.code.0) h.0 in ((a.0, h.1), subst (Allowed s) q a.1),
      λ h a. (both_allowed e.set s (v e.code.0) h.0 (subst (Allowed s) (sym q) a), h.1),
    )
joined_at e es fs d s v false p f g = (λ h. let a = f h.1 in ((h.0, a.0), a.1), λ h a. (h.0, g h.1 a))

pub joined_meets : (es : List Entry) (d : Code) (s : Classes) (v : Valuation) → (Meets (joined es d s) v → Meets es v × Allowed s (v d.0)) × (Meets es v → Allowed s (v d.0) → Meets (joined es d s) v)
joined_meets [] d s v = (λ h. (tt, h.0), λ h a. (a, tt))
joined_meets (e ∷ es) d s v = let r = joined_meets es d s v in joined_at e es (joined es d s) d s v (e.code.0 == d.0) refl r.0 r.1

-- what the entries of a code say of it
classed_at : (e : Entry) (c : ℕ) (u : Classes) (v : Valuation) (b : Bool) → (e.code.0 == c) ≡ b → Allowed e.set (v e.code.0) → Allowed u (v c) → Allowed (cond b e.set u) (v c)
classed_at e c u v true p h k = subst (λ (i : ℕ). Allowed e.set (v i)) (eqb-true e.code.0 c p) h
classed_at e c u v false p h k = k

pub meets_classed : (es : List Entry) (c : ℕ) (v : Valuation) → Meets es v → Allowed (classed es c) (v c)
meets_classed [] c v h = allowed_none (v c)
meets_classed (e ∷ es) c v h = classed_at e c (classed es c) v (e.code.0 == c) refl h.0 (meets_classed es c v h.1)

-- sets of the four classes
abbrev pub Small : List Entry → Type 0
Small [] = Unit {0}
Small (e ∷ es) = (e.set.0 < 16) × Small es

classed_small_at : (b : Bool) (s u : Classes) → s.0 < 16 → u.0 < 16 → (cond b s u).0 < 16
classed_small_at true s u h k = h
classed_small_at false s u h k = k

pub classed_small : (es : List Entry) (c : ℕ) → Small es → (classed es c).0 < 16
classed_small [] c h = omega arith
classed_small (e ∷ es) c h = classed_small_at (e.code.0 == c) e.set (classed es c) h.0 (classed_small es c h.1)

joined_small_at : (b : Bool) (e f : Entry) (es fs : List Entry) → e.set.0 < 16 → f.set.0 < 16 → Small es → Small fs → Small (cond b (f ∷ es) (e ∷ fs))
joined_small_at true e f es fs h k l n = (k, l)
joined_small_at false e f es fs h k l n = (h, n)

pub joined_small : (es : List Entry) (d : Code) (s : Classes) → s.0 < 16 → Small es → Small (joined es d s)
joined_small [] d s h k = (h, tt)
joined_small (e ∷ es) d s h k =
    joined_small_at (e.code.0 == d.0) e (record { code = e.code; set = both e.set s }) es (joined es d s) k.0 (both_small e.set s k.0 h) k.1 (joined_small es d s h k.1)

module _ (K : Kind) (m : Meaning) (sound : Sound K m) where
  pub typed : (v : Valuation) (c : ℕ) → m.state.solves v → m.state.sort_of c ≡ some OfType → Of OfType (v c)
  typed v c p s = sound.sorted v p c OfType s

  -- classes left to an open code
  pub given : (e : Entry) (d : Code) (v : Valuation) → 0 < e.set.0 → m.state.solves v → Followable m.state e → m.state.sort_of d.0 ≡ some OfType → ((k : ℕ) → Asked k e.set → Leads m k e.code.0 (Some d))
      → (Allowed e.set (v e.code.0) → Allowed e.set (v d.0)) × (Allowed e.set (v d.0) → Allowed e.set (v e.code.0))
  given e d v n p f s l = (
    λ a. in_allowed e.set d.0 v (typed v d.0 p s) (λ k h. (l k h).2 v p (allowed_in e.set e.code.0 k v (typed v e.code.0 p f.sort) a h)),
    λ a. in_allowed e.set e.code.0 v (typed v e.code.0 p f.sort) (λ k h. (l k h).3 v p (allowed_in e.set d.0 k v (typed v d.0 p s) a h)),
  )
