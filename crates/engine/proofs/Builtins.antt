-- The built-in names: their schemes have their types, and can be copied.
use Rattle.std.proofs.Common.{◌≡◌, ℕ, ◌^◌, ◌≤◌, Bool, true, false, [], ◌∷◌, sym, refl, ap, ◌∙◌, subst, ap₂, arith, lit≤}
use Rattle.ground.specs.Values.{Ty, flag, to, list, Value, of_type}
use Rattle.ground.specs.Classes.{InClass, Allowed}
use Rattle.ground.specs.Names.{Name}
use Rattle.ground.specs.Belongs.{Env, Alike, plain_names, built_in}
use Rattle.ground.specs.declared.sort.Sort.{Sort}
use Rattle.ground.specs.declared.sort.Sort.TheVariants.{«Type» as OfType}
use Rattle.ground.specs.declared.classes.Classes.{Classes}
use Rattle.ground.proofs.Alone.{alone_has, alone_only}
use Rattle.ground.proofs.Belonging.{alike_push}
use Rattle.system.specs.Meaning.{Kind, Valuation, Meaning}
use Rattle.engine.specs.Trees.{Tree, Has, scheme, Scope, Types, env}
use Rattle.engine.specs.Builtins.{var, flags, arrow, listed, plain_scope, built_in_scope}
use Rattle.engine.specs.Scopes.{Grown, Ready}
use Rattle.engine.proofs.SchemeOf.{none_asked}

type_inj : {a b : Ty} → of_type a ≡ of_type b → a ≡ b
type_inj e = cc

-- What an arrow, a list, a flag and a variable have.
of_arrow : (a v : Valuation) (s t : Tree) (x : Value) → Has a v (arrow s t) x → (A B : Ty) × Has a v s (of_type A) × Has a v t (of_type B) × (x ≡ of_type (to A B))
of_arrow a v s t x (y, z, p, q, (A, B, e, f, g)) = (A, B, subst (Has a v s) e p, subst (Has a v t) f q, g)

to_arrow : (a v : Valuation) (s t : Tree) (A B : Ty) → Has a v s (of_type A) → Has a v t (of_type B) → Has a v (arrow s t) (of_type (to A B))
to_arrow a v s t A B p q = (of_type A, of_type B, p, q, (A, B, refl, refl, refl))

of_list : (a v : Valuation) (t : Tree) (x : Value) → Has a v (listed t) x → (A : Ty) × Has a v t (of_type A) × (x ≡ of_type (list A))
of_list a v t x (y, p, (A, e, g)) = (A, subst (Has a v t) e p, g)

to_list : (a v : Valuation) (t : Tree) (A : Ty) → Has a v t (of_type A) → Has a v (listed t) (of_type (list A))
to_list a v t A p = (of_type A, p, (A, refl, refl))

module _ (v : Valuation) (i : ℕ) where
  -- The set of the one class i.
  allow : (A : Ty) → InClass i A → Allowed (record { 0 = 2 ^ i }) (of_type A)
  allow A h j e = subst (λ (x : ℕ). InClass x A) (sym (alone_only i j e)) h

  in_class : (A : Ty) → Allowed (record { 0 = 2 ^ i }) (of_type A) → InClass i A
  in_class A f = f i (alone_has i)

  unary : (T : Ty) → (Types v (scheme (arrow (var (2 ^ i)) (var (2 ^ i)))) T → (A : Ty) × InClass i A × (T ≡ to A A)) × ((A : Ty) × InClass i A × (T ≡ to A A) → Types v (scheme (arrow (var (2 ^ i)) (var (2 ^ i)))) T)
  unary T = (
    λ h. let w = of_arrow h.0 v (var (2 ^ i)) (var (2 ^ i)) (of_type T) h.1 in
        (w.0, in_class w.0 w.2.2, type_inj w.4 ∙ ap (to w.0) (type_inj (w.3.0 ∙ sym w.2.0))),
    λ h. let p : Has (λ g. of_type h.0) v (var (2 ^ i)) (of_type h.0) = (refl, tt, allow h.0 h.1) in
        ((λ g. of_type h.0), subst (λ (X : Ty). Has (λ g. of_type h.0) v (arrow (var (2 ^ i)) (var (2 ^ i))) (of_type X)) (sym h.2) (to_arrow (λ g. of_type h.0) v (var (2 ^ i)) (var (2 ^ i)) h.0 h.0 p p)),
  )

  binary : (T : Ty) → (Types v (scheme (arrow (var (2 ^ i)) (arrow (var (2 ^ i)) (var (2 ^ i))))) T → (A : Ty) × InClass i A × (T ≡ to A (to A A))) × ((A : Ty) × InClass i A × (T ≡ to A (to A A)) → Types v (scheme (arrow (var (2 ^ i)) (arrow (var (2 ^ i)) (var (2 ^ i))))) T)
  binary T = (
    λ h. let w = of_arrow h.0 v (var (2 ^ i)) (arrow (var (2 ^ i)) (var (2 ^ i))) (of_type T) h.1 in
        let y = of_arrow h.0 v (var (2 ^ i)) (var (2 ^ i)) (of_type w.1) w.3 in (
          w.0,
          in_class w.0 w.2.2,
          type_inj w.4 ∙ ap (to w.0) (type_inj y.4 ∙ ap₂ to (type_inj (y.2.0 ∙ sym w.2.0)) (type_inj (y.3.0 ∙ sym w.2.0))),
        ),
    λ h. let a : Valuation = λ g. of_type h.0 in
        let p : Has a v (var (2 ^ i)) (of_type h.0) = (refl, tt, allow h.0 h.1) in (
          a,
          subst (λ (X : Ty). Has a v (arrow (var (2 ^ i)) (arrow (var (2 ^ i)) (var (2 ^ i)))) (of_type X)) (sym h.2)
              (to_arrow a v (var (2 ^ i)) (arrow (var (2 ^ i)) (var (2 ^ i))) h.0 (to h.0 h.0) p (to_arrow a v (var (2 ^ i)) (var (2 ^ i)) h.0 h.0 p p)),
        ),
  )

  compare : (T : Ty) → (Types v (scheme (arrow (var (2 ^ i)) (arrow (var (2 ^ i)) flags))) T → (A : Ty) × InClass i A × (T ≡ to A (to A flag))) × ((A : Ty) × InClass i A × (T ≡ to A (to A flag)) → Types v (scheme (arrow (var (2 ^ i)) (arrow (var (2 ^ i)) flags))) T)
  compare T = (
    λ h. let w = of_arrow h.0 v (var (2 ^ i)) (arrow (var (2 ^ i)) flags) (of_type T) h.1 in
        let y = of_arrow h.0 v (var (2 ^ i)) flags (of_type w.1) w.3 in (
          w.0,
          in_class w.0 w.2.2,
          type_inj w.4 ∙ ap (to w.0) (type_inj y.4 ∙ ap₂ to (type_inj (y.2.0 ∙ sym w.2.0)) (type_inj y.3)),
        ),
    λ h. let a : Valuation = λ g. of_type h.0 in
        let p : Has a v (var (2 ^ i)) (of_type h.0) = (refl, tt, allow h.0 h.1) in (
          a,
          subst (λ (X : Ty). Has a v (arrow (var (2 ^ i)) (arrow (var (2 ^ i)) flags)) (of_type X)) (sym h.2)
              (to_arrow a v (var (2 ^ i)) (arrow (var (2 ^ i)) flags) h.0 (to h.0 flag) p (to_arrow a v (var (2 ^ i)) flags h.0 flag p refl)),
        ),
  )

none_in : (A : Ty) → Allowed (record { 0 = 0 }) (of_type A)
none_in A j e = absurd (none_asked (record { 0 = 0 }) j refl e)

not_types : (v : Valuation) (T : Ty) → (Types v (scheme (arrow flags flags)) T → T ≡ to flag flag) × (T ≡ to flag flag → Types v (scheme (arrow flags flags)) T)
not_types v T = (
  λ h. let w = of_arrow h.0 v flags flags (of_type T) h.1 in type_inj w.4 ∙ ap₂ to (type_inj w.2) (type_inj w.3),
  λ e. (v, subst (λ (X : Ty). Has v v (arrow flags flags) (of_type X)) (sym e) (to_arrow v v flags flags flag flag refl refl)),
)

nil_types : (v : Valuation) (T : Ty) → (Types v (scheme (listed (var 0))) T → (A : Ty) × (T ≡ list A)) × ((A : Ty) × (T ≡ list A) → Types v (scheme (listed (var 0))) T)
nil_types v T = (
  λ h. let w = of_list h.0 v (var 0) (of_type T) h.1 in (w.0, type_inj w.2),
  λ h. let a : Valuation = λ g. of_type h.0 in
      (a, subst (λ (X : Ty). Has a v (listed (var 0)) (of_type X)) (sym h.1) (to_list a v (var 0) h.0 (refl, tt, none_in h.0))),
)

cons_types : (v : Valuation) (T : Ty) → (Types v (scheme (arrow (var 0) (arrow (listed (var 0)) (listed (var 0))))) T → (A : Ty) × (T ≡ to A (to (list A) (list A)))) × ((A : Ty) × (T ≡ to A (to (list A) (list A))) → Types v (scheme (arrow (var 0) (arrow (listed (var 0)) (listed (var 0))))) T)
cons_types v T = (
  λ h. let w = of_arrow h.0 v (var 0) (arrow (listed (var 0)) (listed (var 0))) (of_type T) h.1 in
      let y = of_arrow h.0 v (listed (var 0)) (listed (var 0)) (of_type w.1) w.3 in
      let p = of_list h.0 v (var 0) (of_type y.0) y.2 in
      let q = of_list h.0 v (var 0) (of_type y.1) y.3 in (
        w.0,
        type_inj w.4 ∙ ap (to w.0) (type_inj y.4
            ∙ ap₂ to (type_inj p.2 ∙ ap list (type_inj (p.1.0 ∙ sym w.2.0))) (type_inj q.2 ∙ ap list (type_inj (q.1.0 ∙ sym w.2.0)))),
      ),
  λ h. let a : Valuation = λ g. of_type h.0 in
      let p : Has a v (var 0) (of_type h.0) = (refl, tt, none_in h.0) in
      let l = to_list a v (var 0) h.0 p in (
        a,
        subst (λ (X : Ty). Has a v (arrow (var 0) (arrow (listed (var 0)) (listed (var 0)))) (of_type X)) (sym h.1)
            (to_arrow a v (var 0) (arrow (listed (var 0)) (listed (var 0))) h.0 (to (list h.0) (list h.0)) p (to_arrow a v (listed (var 0)) (listed (var 0)) (list h.0) (list h.0) l l)),
      ),
)

-- The same names in the same order, each with the same types.
data Paired : Env → Env → Type 1 where
  nothing : Paired [] []
  also : {n : Name} {P Q : Ty → Type 0} {E F : Env} → ((T : Ty) → (P T → Q T) × (Q T → P T)) → Paired E F → Paired ((n, P) ∷ E) ((n, Q) ∷ F)

paired_alike : {E F : Env} → Paired E F → Alike E F
paired_alike nothing = λ n T. (λ h. h, λ h. h)
paired_alike (also {n = n} {P = P} {Q = Q} {E = E} {F = F} p r) = alike_push n P Q E F p (paired_alike r)

plain_paired : (v : Valuation) → Paired (env v plain_scope) plain_names
plain_paired v = also (not_types v) (also (nil_types v) (also (cons_types v) nothing))

-- Under every valuation the built-in schemes have the built-in types.
pub built_in_alike : (b : Bool) (v : Valuation) → Alike (env v (built_in_scope b)) (built_in b)
built_in_alike true v = paired_alike (also (binary v 0) (also (unary v 0) (also (compare v 1) (also (compare v 2) (also (unary v 3) (plain_paired v))))))
built_in_alike false v = paired_alike (plain_paired v)

module _ (K : Kind) (h5 : 5 ≤ K.heads) (m : Meaning) where
  abbrev σ : ℕ → Sort
  σ g = OfType

  abbrev κ : ℕ → ℕ → Classes
  κ s g = record { 0 = s }

  var_none : (E : Scope) → Grown K σ (κ 0) m E (var 0) OfType
  var_none E = (refl, refl, refl, refl, λ j a. absurd (none_asked (record { 0 = 0 }) j refl a))

  var_one : (i : ℕ) → i ≤ 3 → (K.classes ≡ 0 → ⊥) → (E : Scope) → Grown K σ (κ (2 ^ i)) m E (var (2 ^ i)) OfType
  var_one i b cl E = (refl, refl, refl, refl, λ j a. (let e = alone_only i j a in omega arith, refl, cl))

  flag_grown : (k : ℕ → Classes) (E : Scope) → Grown K σ k m E flags OfType
  flag_grown k E = (refl, refl, omega arith, refl)

  arrow_grown : (k : ℕ → Classes) (E : Scope) (s t : Tree) → Grown K σ k m E s OfType → Grown K σ k m E t OfType → Grown K σ k m E (arrow s t) OfType
  arrow_grown k E s t p q = (refl, omega arith, refl, p, q)

  list_grown : (k : ℕ → Classes) (E : Scope) (t : Tree) → Grown K σ k m E t OfType → Grown K σ k m E (listed t) OfType
  list_grown k E t p = (refl, refl, omega arith, refl, p)

  plain_ready : Ready K m plain_scope
  plain_ready = (
    (σ, κ 0, arrow_grown (κ 0) [] flags flags (flag_grown (κ 0) []) (flag_grown (κ 0) [])),
    (
      (σ, κ 0, list_grown (κ 0) [] (var 0) (var_none [])),
      (
        (
          σ,
          κ 0,
          arrow_grown (κ 0) [] (var 0) (arrow (listed (var 0)) (listed (var 0))) (var_none [])
              (arrow_grown (κ 0) [] (listed (var 0)) (listed (var 0)) (list_grown (κ 0) [] (var 0) (var_none [])) (list_grown (κ 0) [] (var 0) (var_none []))),
        ),
        tt,
      ),
    ),
  )

  -- They can be copied in every state of a system, those with classes where it knows them.
  pub built_in_ready : (b : Bool) → (b ≡ true → K.classes ≡ 0 → ⊥) → Ready K m (built_in_scope b)
  built_in_ready true cl =
      let V : (i : ℕ) → i ≤ 3 → (E : Scope) → Grown K σ (κ (2 ^ i)) m E (var (2 ^ i)) OfType = λ i b E. var_one i b (cl refl) E in (
        (σ, κ 1, arrow_grown (κ 1) [] (var 1) (arrow (var 1) (var 1)) (V 0 (lit≤ tt) []) (arrow_grown (κ 1) [] (var 1) (var 1) (V 0 (lit≤ tt) []) (V 0 (lit≤ tt) []))),
        (
          (σ, κ 1, arrow_grown (κ 1) [] (var 1) (var 1) (V 0 (lit≤ tt) []) (V 0 (lit≤ tt) [])),
          (
            (σ, κ 2, arrow_grown (κ 2) [] (var 2) (arrow (var 2) flags) (V 1 (lit≤ tt) []) (arrow_grown (κ 2) [] (var 2) flags (V 1 (lit≤ tt) []) (flag_grown (κ 2) []))),
            (
              (σ, κ 4, arrow_grown (κ 4) [] (var 4) (arrow (var 4) flags) (V 2 (lit≤ tt) []) (arrow_grown (κ 4) [] (var 4) flags (V 2 (lit≤ tt) []) (flag_grown (κ 4) []))),
              (
                (σ, κ 8, arrow_grown (κ 8) [] (var 8) (var 8) (V 3 (lit≤ tt) []) (V 3 (lit≤ tt) [])),
                plain_ready,
              ),
            ),
          ),
        ),
      )
  built_in_ready false cl = plain_ready
