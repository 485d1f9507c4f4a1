-- What belongs to a form belongs to it with two labels exchanged that stand nowhere in it.
use Rattle.std.proofs.Common.{◌≡◌, ℕ, Bool, true, false, [], ◌∷◌, sym, ap, ◌∙◌, subst}
use Rattle.ground.specs.Values.{Ty, flag, to, record_of, Row, at, Field, absent, has}
use Rattle.ground.specs.Names.{Name, same_name}
use Rattle.ground.specs.Forms.{Form, name, number, tenths, truth, fun, call, let_in, fix, if_then, empty_record, extend, select, remove}
use Rattle.ground.specs.Belongs.{Env, Given, Elsewhere, Belongs, plain_names, built_in}
use Rattle.ground.specs.Swaps.{swap_label, swap_ty, swap_row, swap_field, Unnamed, Swappable}
use Rattle.ground.proofs.Belonging.{choose_map}
use Rattle.ground.proofs.Swapped.{label_other, label_twice, swapped_at, swap_end, type_twice}
use Rattle.ground.proofs.SwappedHeads.{class_kept}

module _ (a b : ℕ) where
  abbrev turn : Ty → Ty
  turn t = swap_ty a b t

  -- F gives each name the swapped types of E
  abbrev Mirrors : Env → Env → Type 0
  Mirrors E F = (n : Name) (T : Ty) → (Given E n T → Given F n (turn T)) × (Given F n (turn T) → Given E n T)

  mirrors_back : (E F : Env) → Mirrors E F → Mirrors F E
  mirrors_back E F s n T = (
    λ h. (s n (turn T)).1 (subst (Given F n) (sym (type_twice a b T)) h),
    λ h. subst (Given F n) (type_twice a b T) ((s n (turn T)).0 h),
  )

  mirrors_more : (n : Name) (P Q : Ty → Type 0) (E F : Env) → ((T : Ty) → (P T → Q (turn T)) × (Q (turn T) → P T)) → Mirrors E F → Mirrors ((n, P) ∷ E) ((n, Q) ∷ F)
  mirrors_more n P Q E F p s k T = (choose_map (same_name k n) (p T).0 (s k T).0, choose_map (same_name k n) (p T).1 (s k T).1)

  mirrors_one : (n : Name) (A : Ty) (E F : Env) → Mirrors E F → Mirrors ((n, λ X. X ≡ A) ∷ E) ((n, λ X. X ≡ turn A) ∷ F)
  mirrors_one n A E F s = mirrors_more n (λ X. X ≡ A) (λ X. X ≡ turn A) E F (λ X. (ap turn, λ e. sym (type_twice a b X) ∙ ap turn e ∙ type_twice a b A)) s

  -- the fields of a swapped record, at a label that is neither and elsewhere
  there : (l : ℕ) → (l ≡ a → ⊥) → (l ≡ b → ⊥) → (r : Row) (f : Field) → at r l ≡ f → at (swap_row a b r) l ≡ swap_field a b f
  there l p q r f e = ap (at (swap_row a b r)) (sym (label_other a b l p q)) ∙ swapped_at a b r l ∙ ap (swap_field a b) e

  elsewhere : (l : ℕ) → (l ≡ a → ⊥) → (l ≡ b → ⊥) → (q r : Row) → Elsewhere l q r → Elsewhere l (swap_row a b q) (swap_row a b r)
  elsewhere l p s q r h k d =
      let j = swap_label a b k in
      ap (at (swap_row a b q)) (sym (label_twice a b k)) ∙ swapped_at a b q j
      ∙ ap (swap_field a b) (h j (λ e. d (sym (label_twice a b k) ∙ ap (swap_label a b) e ∙ label_other a b l p s)))
      ∙ sym (swapped_at a b r j) ∙ ap (at (swap_row a b r)) (label_twice a b k)

  belongs_swapped : (e : Form) → Unnamed a e → Unnamed b e → (E F : Env) → Mirrors E F → (T : Ty) → Belongs E e T → Belongs F e (turn T)
  belongs_swapped (name p n) u v E F s T h = (s n T).0 h
  belongs_swapped (number p z) u v E F s T h = ap turn h
  belongs_swapped (tenths p z) u v E F s T h = ap turn h
  belongs_swapped (truth p c) u v E F s T h = ap turn h
  belongs_swapped (fun p n B) u v E F s T (A, R, e, h) =
      (turn A, turn R, ap turn e, belongs_swapped B u v ((n, λ X. X ≡ A) ∷ E) ((n, λ X. X ≡ turn A) ∷ F) (mirrors_one n A E F s) R h)
  belongs_swapped (call p G S) u v E F s T (A, h, k) = (turn A, belongs_swapped G u.0 v.0 E F s (to A T) h, belongs_swapped S u.1 v.1 E F s A k)
  belongs_swapped (let_in p n S B) u v E F s T h = (
    (turn h.0.0, belongs_swapped S u.0 v.0 E F s h.0.0 h.0.1),
    belongs_swapped B u.1 v.1 ((n, Belongs E S) ∷ E) ((n, Belongs F S) ∷ F)
        (mirrors_more n (Belongs E S) (Belongs F S) E F
        (λ X. (
          belongs_swapped S u.0 v.0 E F s X,
          λ k. subst (Belongs E S) (type_twice a b X) (belongs_swapped S u.0 v.0 F E (mirrors_back E F s) (turn X) k),
        ))
        s)
        T h.1,
  )
  belongs_swapped (fix p n B) u v E F s T h = belongs_swapped B u v ((n, λ X. X ≡ T) ∷ E) ((n, λ X. X ≡ turn T) ∷ F) (mirrors_one n T E F s) T h
  belongs_swapped (if_then p C S B) u v E F s T h =
      (belongs_swapped C u.0 v.0 E F s flag h.0, belongs_swapped S u.1 v.1 E F s T h.1, belongs_swapped B u.2 v.2 E F s T h.2)
  belongs_swapped (empty_record p) u v E F s T h = ap turn h ∙ ap record_of (swap_end a b)
  belongs_swapped (extend p R l S) u v E F s T (q, r, A, e, h, k, i, w) = (
    swap_row a b q,
    swap_row a b r,
    turn A,
    ap turn e,
    belongs_swapped R u.0 v.0 E F s (record_of r) h,
    belongs_swapped S u.2 v.2 E F s A k,
    there l u.1 v.1 q (has A) i,
    elsewhere l u.1 v.1 q r w,
  )
  belongs_swapped (select p R l) u v E F s T (r, h, i) = (swap_row a b r, belongs_swapped R u.0 v.0 E F s (record_of r) h, there l u.1 v.1 r (has T) i)
  belongs_swapped (remove p R l) u v E F s T (q, r, e, h, i, w) = (
    swap_row a b q,
    swap_row a b r,
    ap turn e,
    belongs_swapped R u.0 v.0 E F s (record_of r) h,
    there l u.1 v.1 q absent i,
    elsewhere l u.1 v.1 q r w,
  )

  mirrors_itself : (E : Env) → Swappable a b E → Mirrors E E
  mirrors_itself E s n T = (s n T, λ h. subst (Given E n) (type_twice a b T) (s n (turn T) h))

  pub unnamed_swap : (E : Env) → Swappable a b E → (e : Form) → Unnamed a e → Unnamed b e
      → (T : Ty) → (Belongs E e T → Belongs E e (turn T)) × (Belongs E e (turn T) → Belongs E e T)
  unnamed_swap E s e u v T =
      let there_and_back = belongs_swapped e u v E E (mirrors_itself E s) in (there_and_back T, λ h. subst (Belongs E e) (type_twice a b T) (there_and_back (turn T) h))

  pub definitions_swap : (E : Env) → Swappable a b E → (n : Name) (e : Form) → Unnamed a e → Unnamed b e → Swappable a b ((n, Belongs E e) ∷ E)
  definitions_swap E s n e u v k T = choose_map (same_name k n) (unnamed_swap E s e u v T).0 (s k T)

  -- an environment each of whose bindings is swappable
  abbrev Each : Env → Type 0
  Each [] = Unit {0}
  Each (c ∷ E) = ((T : Ty) → c.1 T → c.1 (turn T)) × Each E

  each_swap : (E : Env) → Each E → Swappable a b E
  each_swap [] s k T = λ h. h
  each_swap (c ∷ E) s k T = choose_map (same_name k c.0) (s.0 T) (each_swap E s.1 k T)

  plain_swap : Each plain_names
  plain_swap = (λ T. ap turn, (λ T h. (turn h.0, ap turn h.1), (λ T h. (turn h.0, ap turn h.1), tt)))

  class_swap : Each (built_in true)
  class_swap = (
    λ T h. (turn h.0, class_kept a b 0 h.0 h.1, ap turn h.2),
    (
      λ T h. (turn h.0, class_kept a b 0 h.0 h.1, ap turn h.2),
      (
        λ T h. (turn h.0, class_kept a b 1 h.0 h.1, ap turn h.2),
        (
          λ T h. (turn h.0, class_kept a b 2 h.0 h.1, ap turn h.2),
          (λ T h. (turn h.0, class_kept a b 3 h.0 h.1, ap turn h.2), plain_swap),
        ),
      ),
    ),
  )

  pub built_in_swap : (c : Bool) → Swappable a b (built_in c)
  built_in_swap true = each_swap (built_in true) class_swap
  built_in_swap false = each_swap plain_names plain_swap
