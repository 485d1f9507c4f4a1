-- What following keeps: the values that meet the entries, and the order of the table.
use Rattle.std.specs.Prelude.{◌≡◌, ℕ, ◌<◌, Bool, true, false, cond, ◌⊎◌, List, [], ◌∷◌, Some, Ok, Err, Result, ◌==◌, ◌≢◌, refl}
use Rattle.std.proofs.Common.{sym, ◌∙◌, ap, subst, inl, inr, ne_eqb}
use Rattle.std.proofs.Math.Option.{some}
use Rattle.std.proofs.lemmas.Bool.{eqb-false}
use Rattle.ground.specs.Classes.{Asked, Allowed}
use Rattle.ground.specs.Members.{compatible}
use Rattle.ground.specs.declared.sort.Sort.TheVariants.{«Type» as OfType}
use Rattle.ground.specs.declared.code.Code.{Code}
use Rattle.ground.specs.declared.classes.Classes.{Classes}
use Rattle.ground.proofs.Built.{no_way}
use Rattle.ground.proofs.Members.{compatible_members}
use Rattle.system.specs.Meaning.{Kind, Valuation, State, Meaning, Sound}
use Rattle.system.specs.declared.fault.ClassFault.{ClassFault}
use Rattle.system.specs.declared.fault.ClassFault.TheVariants.{NotInClass, NoMember}
use Rattle.classes.specs.declared.entry.Entry.{Entry}
use Rattle.classes.specs.Entries.{both, has, classed, joined}
use Rattle.classes.specs.Layered.{Meets, Followable, Followables, Open, InOrder}
use Rattle.classes.specs.Following.{Leads, Turn, settled, outside, joins, clashes, onward, Followed}
use Rattle.classes.specs.Setting.{both_small, some_asked, both_some}
use Rattle.classes.specs.Judging.{type_held}
use Rattle.classes.specs.Meeting.{allowed_in, in_allowed, both_allowed, joined_meets, meets_classed, Small, classed_small, typed, given}

same_entries : (t u : List Entry) → ◌≡◌ {A = Result (List Entry) ClassFault} (Ok u) (Ok t) → u ≡ t
same_entries t u e = cc

-- a code that another is not has its entry as before
has_at : (c d : ℕ) (b r : Bool) (e : ℕ) (x : Bool) → (e == d) ≡ b → (d ≢ c) → r ≡ x → cond b (cond (e == c) true x) (cond (e == c) true r) ≡ cond (e == c) true x
has_at c d true r e x p n h = refl
has_at c d false r e x p n h = ap (λ y. cond (e == c) true y) h

has_cond : (b : Bool) (f e : Entry) (es fs : List Entry) (c : ℕ) → has (cond b (f ∷ es) (e ∷ fs)) c ≡ cond b (has (f ∷ es) c) (has (e ∷ fs) c)
has_cond true f e es fs c = refl
has_cond false f e es fs c = refl

pub has_joined : (es : List Entry) (d : Code) (s : Classes) (c : ℕ) → (d.0 ≢ c) → has (joined es d s) c ≡ has es c
has_joined [] d s c n = ap (λ b. cond b true false) (ne_eqb d.0 c n)
has_joined (e ∷ es) d s c n =
    has_cond (e.code.0 == d.0) (record { code = e.code; set = both e.set s }) e es (joined es d s) c
    ∙ has_at c d.0 (e.code.0 == d.0) (has (joined es d s) c) e.code.0 (has es c) refl n (has_joined es d s c n)

-- a set joined to entries in order leaves them in order
order_at :
    (s : State) (e : Entry) (es fs : List Entry) (d : Code) (k : Classes) (b : Bool) → (e.code.0 == d.0) ≡ b → k.0 < 16 → 0 < k.0
    → compatible (both (cond b e.set (classed es d.0)) k) ≡ true → InOrder s (e ∷ es)
    → (compatible (both (classed es d.0) k) ≡ true → InOrder s fs) → has fs e.code.0 ≡ cond b (has fs e.code.0) false
    → InOrder s (cond b (record { code = e.code; set = both e.set k } ∷ es) (e ∷ fs))
order_at s e es fs d k true p l n c o f h =
    (o.0, record { sort = o.1.sort; four = both_small e.set k o.1.four l; some_class = both_some e.set k n; member = c }, o.2, o.3)
order_at s e es fs d k false p l n c o f h = (o.0, o.1, h, f c)

fresh_has : (e : Entry) (es : List Entry) (d : Code) (k : Classes) (b : Bool) → (e.code.0 == d.0) ≡ b → has es e.code.0 ≡ false → has (joined es d k) e.code.0 ≡ cond b (has (joined es d k) e.code.0) false
fresh_has e es d k true p h = refl
fresh_has e es d k false p h = has_joined es d k e.code.0 (λ q. eqb-false e.code.0 d.0 p (sym q)) ∙ h

pub joined_order :
    (s : State) (es : List Entry) (d : Code) (k : Classes) → Open s d.0 → s.sort_of d.0 ≡ some OfType → k.0 < 16 → 0 < k.0
    → compatible (both (classed es d.0) k) ≡ true → InOrder s es → InOrder s (joined es d k)
joined_order s [] d k o t l n c h = (o, record { sort = t; four = l; some_class = n; member = c }, refl, tt)
joined_order s (e ∷ es) d k o t l n c h =
    order_at s e es (joined es d k) d k (e.code.0 == d.0) refl l n c h (λ q. joined_order s es d k o t l n q h.3) (fresh_has e es d k (e.code.0 == d.0) refl h.2)

pub order_small : (s : State) (es : List Entry) → InOrder s es → Small es
order_small s [] h = tt
order_small s (e ∷ es) h = (h.1.four, order_small s es h.3)

pub order_followable : (s : State) (es : List Entry) → InOrder s es → Followables s es
order_followable s [] h = tt
order_followable s (e ∷ es) h = (h.1, order_followable s es h.3)

module _ (K : Kind) (m : Meaning) (sound : Sound K m) where
  -- the open code that the classes are left to
  opened : (e : Entry) (d : Code) → Followable m.state e → ((k : ℕ) → Asked k e.set → Leads m k e.code.0 (Some d)) → Open m.state d.0 × (m.state.sort_of d.0 ≡ some OfType)
  opened e d f l = let k = some_asked e.set.0 f.four f.some_class in let q = l k.0 k.1 in (q.0, q.1)

  pub turn_meets :
      (e : Entry) (t u : List Entry) (v : Valuation) → Followable m.state e → m.state.solves v → Turn m e t (Ok u)
      → (Allowed e.set (v e.code.0) → Meets t v → Meets u v) × (Meets u v → Allowed e.set (v e.code.0) × Meets t v)
  turn_meets e t u v f p (settled l q) =
      let i = same_entries t u q in (
        λ a h. subst (λ (x : List Entry). Meets x v) (sym i) h,
        λ h. (in_allowed e.set e.code.0 v (typed K m sound v e.code.0 p f.sort) (λ k a. l k a v p), subst (λ (x : List Entry). Meets x v) i h),
      )
  turn_meets e t u v f p (outside k a o q) = cc
  turn_meets e t u v f p (joins d l c q) =
      let i = same_entries (joined t d e.set) u q in
      let o = opened e d f l in
      let g = given K m sound e d v f.some_class p f o.1 l in
      let j = joined_meets t d e.set v in (
        λ a h. subst (λ (x : List Entry). Meets x v) (sym i) (j.1 h (g.0 a)),
        λ h. let w = j.0 (subst (λ (x : List Entry). Meets x v) i h) in (g.1 w.1, w.0),
      )
  turn_meets e t u v f p (clashes d l c q) = cc

  pub turn_voids : (e : Entry) (t : List Entry) (z : ClassFault) (v : Valuation) → Followable m.state e → Small t → m.state.solves v → Turn m e t (Err z) → Allowed e.set (v e.code.0) → Meets t v → ⊥
  turn_voids e t z v f s p (settled l q) a h = cc
  turn_voids e t z v f s p (outside k b o q) a h = o v p (allowed_in e.set e.code.0 k v (typed K m sound v e.code.0 p f.sort) a b)
  turn_voids e t z v f s p (joins d l c q) a h = cc
  turn_voids e t z v f s p (clashes d l c q) a h =
      let o = opened e d f l in
      let g = given K m sound e d v f.some_class p f o.1 l in
      let w : Allowed (both (classed t d.0) e.set) (v d.0) = both_allowed (classed t d.0) e.set (v d.0) (meets_classed t d.0 v h) (g.0 a) in
      let x = type_held (v d.0) (typed K m sound v d.0 p o.1) in
      let y = (compatible_members (both (classed t d.0) e.set) (both_small (classed t d.0) e.set (classed_small t d.0 s) f.four)).0 (x.0, subst (Allowed (both (classed t d.0) e.set)) x.1 w) in
      no_way (sym c ∙ y)

  pub turn_order : (e : Entry) (t u : List Entry) → Followable m.state e → InOrder m.state t → Turn m e t (Ok u) → InOrder m.state u
  turn_order e t u f h (settled l q) = subst (InOrder m.state) (sym (same_entries t u q)) h
  turn_order e t u f h (outside k a o q) = cc
  turn_order e t u f h (joins d l c q) =
      let o = opened e d f l in
      subst (InOrder m.state) (sym (same_entries (joined t d e.set) u q)) (joined_order m.state t d e.set o.0 o.1 f.four f.some_class c h)
  turn_order e t u f h (clashes d l c q) = cc

  pub turn_fault : (e : Entry) (t : List Entry) (z : ClassFault) → Turn m e t (Err z) → (z ≡ NotInClass) ⊎ (z ≡ NoMember)
  turn_fault e t z (settled l q) = cc
  turn_fault e t z (outside k a o q) = inl cc
  turn_fault e t z (joins d l c q) = cc
  turn_fault e t z (clashes d l c q) = inr cc

  -- all of them
  abbrev Sames : List Entry → List Entry → List Entry → Valuation → Type 0
  Sames es t u v = (Meets es v → Meets t v → Meets u v) × (Meets u v → Meets es v × Meets t v)

  on_meets :
      (e : Entry) (es t u : List Entry) (v : Valuation) (o : Result (List Entry) ClassFault) → Followable m.state e → m.state.solves v → Turn m e t o → onward (Followed m es) o (Ok u)
      → ((w : List Entry) → Followed m es w (Ok u) → Sames es w u v) → Sames (e ∷ es) t u v
  on_meets e es t u v (Ok w) f p h g i =
      let a = turn_meets e t w v f p h in
      let b = i w g in
      (λ x y. b.0 x.1 (a.0 x.0 y), λ x. let y = b.1 x in let z = a.1 y.1 in ((z.0, y.0), z.1))
  on_meets e es t u v (Err z) f p h g i = cc

  pub followed_meets : (es t u : List Entry) (v : Valuation) → Followables m.state es → m.state.solves v → Followed m es t (Ok u) → Sames es t u v
  followed_meets [] t u v f p h = let i = same_entries t u h in (λ x y. subst (λ (x : List Entry). Meets x v) (sym i) y, λ y. (tt, subst (λ (x : List Entry). Meets x v) i y))
  followed_meets (e ∷ es) t u v f p h = on_meets e es t u v h.0 f.0 p h.1 h.2 (λ w. followed_meets es w u v f.1 p)

  on_order :
      (e : Entry) (es t u : List Entry) (o : Result (List Entry) ClassFault) → Followable m.state e → InOrder m.state t → Turn m e t o → onward (Followed m es) o (Ok u)
      → ((w : List Entry) → InOrder m.state w → Followed m es w (Ok u) → InOrder m.state u) → InOrder m.state u
  on_order e es t u (Ok w) f s h g i = i w (turn_order e t w f s h) g
  on_order e es t u (Err z) f s h g i = cc

  pub followed_order : (es t u : List Entry) → Followables m.state es → InOrder m.state t → Followed m es t (Ok u) → InOrder m.state u
  followed_order [] t u f s h = subst (InOrder m.state) (sym (same_entries t u h)) s
  followed_order (e ∷ es) t u f s h = on_order e es t u h.0 f.0 s h.1 h.2 (λ w. followed_order es w u f.1)

  on_voids :
      (e : Entry) (es t : List Entry) (z : ClassFault) (v : Valuation) (o : Result (List Entry) ClassFault) → Followable m.state e → InOrder m.state t → m.state.solves v → Turn m e t o → onward (Followed m es) o (Err z)
      → ((w : List Entry) → InOrder m.state w → Followed m es w (Err z) → Meets es v → Meets w v → ⊥) → Meets (e ∷ es) v → Meets t v → ⊥
  on_voids e es t z v (Ok w) f s p h g i x y = i w (turn_order e t w f s h) g x.1 ((turn_meets e t w v f p h).0 x.0 y)
  on_voids e es t z v (Err q) f s p h g i x y = turn_voids e t q v f (order_small m.state t s) p h x.0 y

  pub followed_voids : (es t : List Entry) (z : ClassFault) (v : Valuation) → Followables m.state es → InOrder m.state t → m.state.solves v → Followed m es t (Err z) → Meets es v → Meets t v → ⊥
  followed_voids [] t z v f s p h x y = cc
  followed_voids (e ∷ es) t z v f s p h x y = on_voids e es t z v h.0 f.0 s p h.1 h.2 (λ w o g. followed_voids es w z v f.1 o p g) x y

  on_fault : (e : Entry) (es t : List Entry) (z : ClassFault) (o : Result (List Entry) ClassFault) → Turn m e t o → onward (Followed m es) o (Err z) → ((w : List Entry) → Followed m es w (Err z) → (z ≡ NotInClass) ⊎ (z ≡ NoMember)) → (z ≡ NotInClass) ⊎ (z ≡ NoMember)
  on_fault e es t z (Ok w) h g i = i w g
  on_fault e es t z (Err q) h g i = let b : q ≡ z = cc in subst (λ (x : ClassFault). (x ≡ NotInClass) ⊎ (x ≡ NoMember)) b (turn_fault e t q h)

  pub followed_fault : (es t : List Entry) (z : ClassFault) → Followed m es t (Err z) → (z ≡ NotInClass) ⊎ (z ≡ NoMember)
  followed_fault [] t z h = cc
  followed_fault (e ∷ es) t z h = on_fault e es t z h.0 h.1 h.2 (λ w. followed_fault es w z)
