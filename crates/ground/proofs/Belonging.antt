-- Which types belong to a script depends on the types of the names alone.
use Rattle.std.proofs.Common.{◌≡◌, Bool, true, false, ◌∷◌}
use Rattle.ground.specs.Values.{Ty, flag, to, record_of}
use Rattle.ground.specs.Names.{Name, same_name}
use Rattle.ground.specs.Forms.{Form, name, number, tenths, truth, fun, call, let_in, fix, if_then, empty_record, extend, select, remove}
use Rattle.ground.specs.Belongs.{Env, Alike, Belongs, choose}

pub choose_map : (b : Bool) {P Q R S : Type 0} → (P → Q) → (R → S) → choose b P R → choose b Q S
choose_map true f g x = f x
choose_map false f g x = g x

-- one more name, with the same types
pub alike_push : (n : Name) (P Q : Ty → Type 0) (E F : Env) → ((T : Ty) → (P T → Q T) × (Q T → P T)) → Alike E F → Alike ((n, P) ∷ E) ((n, Q) ∷ F)
alike_push n P Q E F p a k T = (choose_map (same_name k n) (p T).0 (a k T).0, choose_map (same_name k n) (p T).1 (a k T).1)

pub alike_sym : (E F : Env) → Alike E F → Alike F E
alike_sym E F a n T = ((a n T).1, (a n T).0)

pub belongs_alike : (e : Form) (E F : Env) → Alike E F → (T : Ty) → Belongs E e T → Belongs F e T
belongs_alike (name p n) E F s T h = (s n T).0 h
belongs_alike (number p z) E F s T h = h
belongs_alike (tenths p z) E F s T h = h
belongs_alike (truth p b) E F s T h = h
belongs_alike (fun p n B) E F s T h =
    (h.0, h.1, h.2, belongs_alike B ((n, λ X. X ≡ h.0) ∷ E) ((n, λ X. X ≡ h.0) ∷ F) (alike_push n (λ X. X ≡ h.0) (λ X. X ≡ h.0) E F (λ X. (λ x. x, λ x. x)) s) h.1 h.3)
belongs_alike (call p G S) E F s T h = (h.0, belongs_alike G E F s (to h.0 T) h.1, belongs_alike S E F s h.0 h.2)
belongs_alike (let_in p n S B) E F s T h = (
  (h.0.0, belongs_alike S E F s h.0.0 h.0.1),
  belongs_alike B ((n, Belongs E S) ∷ E) ((n, Belongs F S) ∷ F)
      (alike_push n (Belongs E S) (Belongs F S) E F (λ X. (belongs_alike S E F s X, belongs_alike S F E (alike_sym E F s) X)) s) T h.1,
)
belongs_alike (fix p n B) E F s T h = belongs_alike B ((n, λ X. X ≡ T) ∷ E) ((n, λ X. X ≡ T) ∷ F) (alike_push n (λ X. X ≡ T) (λ X. X ≡ T) E F (λ X. (λ x. x, λ x. x)) s) T h
belongs_alike (if_then p C S B) E F s T h = (belongs_alike C E F s flag h.0, belongs_alike S E F s T h.1, belongs_alike B E F s T h.2)
belongs_alike (empty_record p) E F s T h = h
belongs_alike (extend p R l S) E F s T h = (h.0, h.1, h.2, h.3, belongs_alike R E F s (record_of h.1) h.4, belongs_alike S E F s h.2 h.5, h.6, h.7)
belongs_alike (select p R l) E F s T h = (h.0, belongs_alike R E F s (record_of h.0) h.1, h.2)
belongs_alike (remove p R l) E F s T h = (h.0, h.1, h.2, belongs_alike R E F s (record_of h.1) h.3, h.4, h.5)

pub belongs_both : (E F : Env) → Alike E F → (e : Form) (T : Ty) → (Belongs E e T → Belongs F e T) × (Belongs F e T → Belongs E e T)
belongs_both E F s e T = (belongs_alike e E F s T, belongs_alike e F E (alike_sym E F s) T)
