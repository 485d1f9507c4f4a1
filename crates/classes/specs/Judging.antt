-- What look tells of classes: an open code, a head that settles them, a list.
use Rattle.std.specs.Prelude.{◌≡◌, ℕ, zero, suc, ◌<◌, Some, None, Ok, Option, ◌≢◌, bit_and, refl}
use Rattle.std.proofs.Common.{sym, ◌∙◌, subst, arith}
use Rattle.std.proofs.Math.Option.{some}
use Rattle.ground.specs.Values.{Ty, whole, tenth, flag, to, list, record_of, Value, of_type, of_field, of_row}
use Rattle.ground.specs.Classes.{InClass, Asked}
use Rattle.ground.specs.Heads.{Builds}
use Rattle.ground.specs.declared.sort.Sort.TheVariants.{«Type» as OfType}
use Rattle.ground.specs.declared.head.Head.{Head}
use Rattle.ground.specs.declared.head.Head.TheVariants.{Whole, Tenth, Flag, To, List as ListOf, Record, Absent, Has, Empty, Row as RowWith}
use Rattle.ground.specs.declared.code.Code.{Code}
use Rattle.ground.specs.declared.classes.Classes.{Classes}
use Rattle.system.specs.Meaning.{Kind, Valuation, Meaning, Sound}
use Rattle.ground.specs.Sorts.{Of}
use Rattle.system.specs.Follows.{Within}
use Rattle.system.specs.Replies.{Stands, Shaped, Looked}
use Rattle.system.specs.declared.view.View.{View}
use Rattle.system.specs.declared.view.View.TheVariants.{Built}
use Rattle.classes.specs.declared.verdict.Verdict.{Verdict}
use Rattle.classes.specs.Following.{members_of, Leads, Judged}
use Rattle.classes.specs.Setting.{of_and, in_and, and_small, none_asked, four_asked}

-- a list is in a class exactly when what it is of is, but for num
pub of_list : (k : ℕ) (a : Ty) → InClass k (list a) → (k ≢ 0) × InClass k a
of_list zero a h = absurd h
of_list (suc zero) a h = (λ e. omega arith, h)
of_list (suc (suc zero)) a h = (λ e. omega arith, h)
of_list (suc (suc (suc zero))) a h = (λ e. omega arith, h)
of_list (suc (suc (suc (suc k)))) a h = absurd h

pub list_of : (k : ℕ) (a : Ty) → (k ≢ 0) → InClass k a → InClass k (list a)
list_of zero a n h = absurd (n refl)
list_of (suc zero) a n h = h
list_of (suc (suc zero)) a n h = h
list_of (suc (suc (suc zero))) a n h = h
list_of (suc (suc (suc (suc k)))) a n h = absurd h

-- the type t is in the class exactly when the set has it, for the four classes
abbrev Tells : ℕ → Ty → Classes → Type 0
Tells k t s = (Asked k s → InClass k t) × (InClass k t → Asked k s)

number_tells : (k : ℕ) → Tells k whole (record { 0 = 7 }) × Tells k tenth (record { 0 = 7 })
number_tells zero = ((λ h. tt, λ h. refl), (λ h. tt, λ h. refl))
number_tells (suc zero) = ((λ h. tt, λ h. refl), (λ h. tt, λ h. refl))
number_tells (suc (suc zero)) = ((λ h. tt, λ h. refl), (λ h. tt, λ h. refl))
number_tells (suc (suc (suc zero))) = ((λ h. omega (arith, h), absurd), (λ h. omega (arith, h), absurd))
number_tells (suc (suc (suc (suc k)))) =
    let n : Asked (suc (suc (suc (suc k)))) (record { 0 = 7 }) → ⊥ = λ h. let z = four_asked (record { 0 = 7 }) (suc (suc (suc (suc k)))) (omega arith) h in omega (arith, z) in
    ((n, absurd), (n, absurd))

flag_tells : (k : ℕ) → Tells k flag (record { 0 = 12 })
flag_tells zero = (λ h. omega (arith, h), absurd)
flag_tells (suc zero) = (λ h. omega (arith, h), absurd)
flag_tells (suc (suc zero)) = (λ h. tt, λ h. refl)
flag_tells (suc (suc (suc zero))) = (λ h. tt, λ h. refl)
flag_tells (suc (suc (suc (suc k)))) = (λ h. let z = four_asked (record { 0 = 12 }) (suc (suc (suc (suc k)))) (omega arith) h in omega (arith, z), absurd)

pub to_in_none : (k : ℕ) (a b : Ty) → InClass k (to a b) → ⊥
to_in_none zero a b h = h
to_in_none (suc zero) a b h = h
to_in_none (suc (suc zero)) a b h = h
to_in_none (suc (suc (suc zero))) a b h = h
to_in_none (suc (suc (suc (suc k)))) a b h = h

pub record_in_none : (k : ℕ) (r : _) → InClass k (record_of r) → ⊥
record_in_none zero r h = h
record_in_none (suc zero) r h = h
record_in_none (suc (suc zero)) r h = h
record_in_none (suc (suc (suc zero))) r h = h
record_in_none (suc (suc (suc (suc k)))) r h = h

same_type : (t u : Ty) → of_type t ≡ of_type u → t ≡ u
same_type t u e = cc

-- what a head other than list builds is in the classes that have it, and in no other
pub head_tells : (h : Head) (l k : ℕ) (x y : Value) (t : Ty) → (h ≢ ListOf) → Builds h l x y (of_type t) → Tells k t (members_of h)
head_tells Whole l k x y t n b = subst (λ (u : Ty). Tells k u (record { 0 = 7 })) (sym (same_type t whole b)) (number_tells k).0
head_tells Tenth l k x y t n b = subst (λ (u : Ty). Tells k u (record { 0 = 7 })) (sym (same_type t tenth b)) (number_tells k).1
head_tells Flag l k x y t n b = subst (λ (u : Ty). Tells k u (record { 0 = 12 })) (sym (same_type t flag b)) (flag_tells k)
head_tells To l k x y t n b =
    (λ h. absurd (none_asked k h), λ h. absurd (to_in_none k b.0 b.1 (subst (InClass k) (same_type t (to b.0 b.1) b.4) h)))
head_tells ListOf l k x y t n b = absurd (n refl)
head_tells Record l k x y t n b =
    (λ h. absurd (none_asked k h), λ h. absurd (record_in_none k b.0 (subst (InClass k) (same_type t (record_of b.0) b.2) h)))
head_tells Absent l k x y t n b = cc
head_tells Has l k x y t n b = let e = b.2 in cc
head_tells Empty l k x y t n b = cc
head_tells RowWith l k x y t n b = let e = b.4 in cc

-- what the same value is in
pub within_same : (k c d : ℕ) (v : Valuation) → v c ≡ v d → Within k c v → Within k d v
within_same k c d v e h = (h.0, sym e ∙ h.1, h.2)

full_asked : (k : ℕ) → k < 4 → Asked k (record { 0 = 15 })
full_asked zero h = refl
full_asked (suc zero) h = refl
full_asked (suc (suc zero)) h = refl
full_asked (suc (suc (suc zero))) h = refl
full_asked (suc (suc (suc (suc k)))) h = absurd (omega arith)

-- an open code
pub judged_open : (m : Meaning) (c : ℕ) (d : Code) (j : Classes) → m.state.sort_of c ≡ some OfType → Stands m c d.0 j → Judged m c (record { allows = record { 0 = 15 }; code = Some d })
judged_open m c d j s h = record {
  four = omega arith;
  outside = λ k l n. absurd (n (full_asked k l));
  inside = λ k a. ((j, h.listed), h.sort ∙ s, λ v p. within_same k c d.0 v (h.equal v p), λ v p. within_same k d.0 c v (sym (h.equal v p)));
}

members_small : (h : Head) → (members_of h).0 < 16
members_small Whole = omega arith
members_small Tenth = omega arith
members_small Flag = omega arith
members_small To = omega arith
members_small ListOf = omega arith
members_small Record = omega arith
members_small Absent = omega arith
members_small Has = omega arith
members_small Empty = omega arith
members_small RowWith = omega arith

-- a head that settles it
pub type_held : (x : Value) → Of OfType x → (t : Ty) × (x ≡ of_type t)
type_held (of_type t) h = (t, refl)
type_held (of_field f) h = absurd h
type_held (of_row r) h = absurd h

pub judged_head :
    (K : Kind) (rank : ℕ → ℕ) (m : Meaning) (c x y l : ℕ) (h : Head) (a : Classes) → Sound K m → m.state.sort_of c ≡ some OfType → (h ≢ ListOf) → a ≡ members_of h
    → Shaped rank m c h x y l → Judged m c (record { allows = a; code = None })
judged_head K rank m c x y l h a sound s n i p =
    let built : (v : Valuation) (t : Ty) → m.state.solves v → v c ≡ of_type t → Builds h l (v x) (v y) (of_type t) = λ v t b e. subst (λ (z : Value). Builds h l (v x) (v y) z) e (p.builds v b) in
    subst (λ (u : Classes). Judged m c (record { allows = u; code = None })) (sym i) (record {
      four = members_small h;
      outside = λ k b no v q w. no ((head_tells h l k (v x) (v y) w.0 n (built v w.0 q w.1)).1 w.2);
      inside = λ k b v q. let t = type_held (v c) (sound.sorted v q c OfType s) in (t.0, t.1, (head_tells h l k (v x) (v y) t.0 n (built v t.0 q t.1)).0 b);
    })

-- a list, by what it is of
no_num : Asked 0 (record { 0 = 14 }) → ⊥
no_num h = omega (arith, h)

others : (k : ℕ) → k < 4 → (k ≢ 0) → Asked k (record { 0 = 14 })
others zero l n = absurd (n refl)
others (suc zero) l n = refl
others (suc (suc zero)) l n = refl
others (suc (suc (suc zero))) l n = refl
others (suc (suc (suc (suc k)))) l n = absurd (omega arith)

within_list : (k c x l : ℕ) (y : Value) (v : Valuation) → Builds ListOf l (v x) y (v c) → Within k c v → (k ≢ 0) × Within k x v
within_list k c x l y v b h =
    let q = of_list k b.0 (subst (InClass k) (same_type h.0 (list b.0) (sym h.1 ∙ b.2)) h.2) in
    (q.0, (b.0, b.1, q.1))

list_within : (k c x l : ℕ) (y : Value) (v : Valuation) → Builds ListOf l (v x) y (v c) → (k ≢ 0) → Within k x v → Within k c v
list_within k c x l y v b n h =
    (list b.0, b.2, list_of k b.0 n (subst (InClass k) (same_type h.0 b.0 (sym h.1 ∙ b.1)) h.2))

leads_list :
    (m : Meaning) (k c x : ℕ) (o : Option Code) → ((v : Valuation) → m.state.solves v → Within k c v → Within k x v) → ((v : Valuation) → m.state.solves v → Within k x v → Within k c v)
    → Leads m k x o → Leads m k c o
leads_list m k c x None f g h = λ v p. g v p (h v p)
leads_list m k c x (Some d) f g h = (h.0, h.1, λ v p w. h.2 v p (f v p w), λ v p w. g v p (h.3 v p w))

pub judged_list :
    (rank : ℕ → ℕ) (m : Meaning) (c x y l : ℕ) (h : Head) (o : Verdict) → h ≡ ListOf → Shaped rank m c h x y l → Judged m x o
    → Judged m c (record { allows = record { 0 = bit_and o.allows.0 14 }; code = o.code })
judged_list rank m c x y l h o i p j =
    let built : (v : Valuation) → m.state.solves v → Builds ListOf l (v x) (v y) (v c) = λ v a. subst (λ (g : Head). Builds g l (v x) (v y) (v c)) i (p.builds v a) in
    record {
      four = and_small o.allows.0 14 j.four;
      outside = λ k b no v a w.
          let q = within_list k c x l (v y) v (built v a) w in
          j.outside k b (λ z. no (in_and o.allows.0 14 k z (others k b q.0))) v a q.1;
      inside = λ k z.
          let q = of_and o.allows.0 14 k z in
          let n : k ≡ 0 → ⊥ = λ e. no_num (subst (λ (i : ℕ). Asked i (record { 0 = 14 })) e q.1) in
          leads_list m k c x o.code (λ v a w. (within_list k c x l (v y) v (built v a) w).1) (λ v a w. list_within k c x l (v y) v (built v a) n w) (j.inside k q.0);
    }

-- what a look that answered a head tells
pub shaped_at :
    {F : Type 0} (number layer : F → ℕ) (rank : ℕ → ℕ) (m : Meaning) (c : ℕ) (w : View) (h : Head) (x y : Code) (l : ℕ) → w ≡ Built h x y l → Looked number layer rank m c (Ok w)
    → Shaped rank m c h x.0 y.0 l
shaped_at {F} number layer rank m c w h x y l e k =
    let P : View → Type 0 = λ u. Looked number layer rank m c (Ok u) in
    let q : P (Built h x y l) = subst P e k in q.1
