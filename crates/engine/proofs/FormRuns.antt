-- A run through a form: a fault stops it inside the form, or it types the form and goes on.
use Rattle.std.proofs.Common.{ℕ, ◌/◌, ◌%◌, ◌^◌, Bool, true, false, eqb, [], ◌∷◌, sym, subst}
use mathlib.Core.Option.{Option, some, none}
use Rattle.ground.specs.Heads.{none_lacked}
use Rattle.ground.specs.Forms.{Form, name, number, tenths, truth, fun, call, let_in, fix, if_then, empty_record, extend, select, remove}
use Rattle.ground.specs.declared.place.Place.{Place}
use Rattle.ground.specs.declared.sort.Sort.{Sort}
use Rattle.ground.specs.declared.sort.Sort.TheVariants.{«Type» as OfType, Field as OfField, Row as OfRow}
use Rattle.ground.specs.declared.classes.Classes.{Classes}
use Rattle.ground.specs.declared.head.Head.TheVariants.{Whole, Tenth, Flag, To, Record, Absent, Has, Empty, Row as RowWith}
use Rattle.system.specs.Meaning.{Kind}
use Rattle.system.specs.Requests.{Request, fresh, build, equate, demand, Reply}
use Rattle.engine.specs.Trees.{Tree, any, stay, leaf, over, pair, Binding, code, scheme, Scope, names}
use Rattle.engine.specs.Calls.{Calls, ask, tell, bind, make, make1, make2, alone, record_calls, split, demand_if, demand_in, demands, Given, got, variable, copy, use_name, typing}
use Rattle.engine.specs.Proper.{Proper}
use Rattle.engine.proofs.Through.{Piece, none_piece, ask_piece, tell_piece, bind_piece, then_piece}
use Rattle.engine.proofs.Ready.{named_bound}

module _ {S : Type 0} (asked : S → Request → Reply → S → Type 0) (Scheme : S → ℕ → Scope → Tree → Type 0) where
  abbrev pub Passes : (X : Type 0) → ((X → Calls) → Calls) → Type 0
  Passes X calls = Piece asked Scheme X calls (λ p f. Unit {0}) (λ s x t. Unit {0})

  done : {X : Type 0} (x : X) → Passes X (λ k. k x)
  done x = none_piece asked Scheme x (λ p f. Unit {0}) (λ s x t. Unit {0}) (λ s. tt)

  asks : (p : Place) (q : Request) → Passes ℕ (ask p q)
  asks p q = ask_piece asked Scheme p q (λ p f. Unit {0}) (λ s x t. Unit {0}) (λ s t c a. tt) (λ s t f l a. tt)

  tells : (p : Place) (q : Request) → Passes (Unit {0}) (λ k. tell p q (k tt))
  tells p q = tell_piece asked Scheme p q (λ p f. Unit {0}) (λ s x t. Unit {0}) (λ s t a. tt) (λ s t f l a. tt)

  binds : (c : ℕ) (E : Scope) → Passes Tree (bind c E)
  binds c E = bind_piece asked Scheme c E (λ p f. Unit {0}) (λ s x t. Unit {0}) (λ s t a. tt)

  seq : {X Y : Type 0} {calls : (X → Calls) → Calls} (next : X → (Y → Calls) → Calls) → Passes X calls → ((x : X) → Passes Y (next x)) → Passes Y (λ k. calls (λ x. next x k))
  seq next one two = then_piece asked Scheme next (λ x s y t. Unit {0}) (λ s y t. Unit {0}) one two (λ s t u x y a b. tt)

  demand_passes : (b : Bool) (p : Place) (c n : ℕ) → Passes (Unit {0}) (λ k. demand_if b p c n (k tt))
  demand_passes true p c n = tells p (demand n c)
  demand_passes false p c n = done tt

  demands_pass : (p : Place) (s : Classes) (c : ℕ) → Passes (Unit {0}) (λ k. demands p s c (k tt))
  demands_pass p s c =
      seq (λ x k. demand_in p s c 1 (demand_in p s c 2 (demand_in p s c 3 (k tt)))) (demand_passes (eqb ((s.0 / 2 ^ 0) % 2) 1) p c 0)
      (λ x. seq (λ x k. demand_in p s c 2 (demand_in p s c 3 (k tt))) (demand_passes (eqb ((s.0 / 2 ^ 1) % 2) 1) p c 1)
      (λ x. seq (λ x k. demand_in p s c 3 (k tt)) (demand_passes (eqb ((s.0 / 2 ^ 2) % 2) 1) p c 2) (λ x. demand_passes (eqb ((s.0 / 2 ^ 3) % 2) 1) p c 3)))

  variable_passes : (w : Option ℕ) (p : Place) (g : ℕ) (o : Sort) (s : Classes) (m : Given) → Passes (ℕ × Given) (λ k. variable w p g o s m (λ c n. k (c, n)))
  variable_passes (some c) p g o s m = done (c, m)
  variable_passes none p g o s m =
      seq (λ c k. demands p s c (k (c, (g, c) ∷ m))) (asks p (fresh o)) (λ c. seq (λ x k. k (c, (g, c) ∷ m)) (demands_pass p s c) (λ x. done (c, (g, c) ∷ m)))

  copy_passes : (p : Place) (t : Tree) (m : Given) → Passes (ℕ × Given) (λ k. copy p t m (λ c n. k (c, n)))
  copy_passes p (any g o s) m = variable_passes (got m g) p g o s m
  copy_passes p (stay c) m = done (c, m)
  copy_passes p (leaf h s) m = seq (λ c k. k (c, m)) (asks p (build h 0 0 0 s)) (λ c. done (c, m))
  copy_passes p (over h t) m =
      seq (λ x k. ask p (build h x.0 0 0 none_lacked) (λ c. k (c, x.1))) (copy_passes p t m)
      (λ x. seq (λ c k. k (c, x.1)) (asks p (build h x.0 0 0 none_lacked)) (λ c. done (c, x.1)))
  copy_passes p (pair h l s t u) m =
      seq (λ x k. copy p u x.1 (λ y o. ask p (build h x.0 y l s) (λ c. k (c, o)))) (copy_passes p t m)
      (λ x. seq (λ y k. ask p (build h x.0 y.0 l s) (λ c. k (c, y.1))) (copy_passes p u x.1)
      (λ y. seq (λ c k. k (c, y.1)) (asks p (build h x.0 y.0 l s)) (λ c. done (c, y.1))))

  pub binding_passes : (p : Place) (b : Binding) → Passes ℕ (use_name p (some b))
  binding_passes p (code c) = done c
  binding_passes p (scheme t) = seq (λ x k. k x.0) (copy_passes p t []) (λ x. done x.0)

  record_passes : (p : Place) (l f r : ℕ) → Passes ℕ (record_calls p l f r)
  record_passes p l f r = seq (λ row k. make1 p Record row k) (asks p (build RowWith f r l (alone l))) (λ row. asks p (build Record row 0 0 none_lacked))

  split_passes : (p : Place) (x l f : ℕ) → Passes ℕ (split p x l f)
  split_passes p x l f =
      seq (λ r k. record_calls p l f r (λ y. tell p (equate x y) (k r))) (asks p (fresh (OfRow (alone l))))
      (λ r. seq (λ y k. tell p (equate x y) (k r)) (record_passes p l f r) (λ y. seq (λ i k. k r) (tells p (equate x y)) (λ i. done r)))

  pub form_passes : (K : Kind) (e : Form) (E : Scope) → Proper K (names E) e → Passes ℕ (typing e E)
  form_passes K (name p n) E pr = let b = named_bound E n pr in subst (λ (x : Option Binding). Passes ℕ (use_name p x)) (sym b.1) (binding_passes p b.0)
  form_passes K (number p z) E pr = asks p (build Whole 0 0 0 none_lacked)
  form_passes K (tenths p z) E pr = asks p (build Tenth 0 0 0 none_lacked)
  form_passes K (truth p b) E pr = asks p (build Flag 0 0 0 none_lacked)
  form_passes K (fun p n B) E pr =
      seq (λ a k. typing B ((n, code a) ∷ E) (λ b. make2 p To a b k)) (asks p (fresh OfType))
      (λ a. seq (λ b k. make2 p To a b k) (form_passes K B ((n, code a) ∷ E) pr) (λ b. asks p (build To a b 0 none_lacked)))
  form_passes K (call p F A) E pr =
      seq (λ f k. typing A E (λ x. ask p (fresh OfType) (λ a. make2 p To x a (λ t. tell p (equate f t) (k a))))) (form_passes K F E pr.0)
      (λ f. seq (λ x k. ask p (fresh OfType) (λ a. make2 p To x a (λ t. tell p (equate f t) (k a)))) (form_passes K A E pr.1)
      (λ x. seq (λ a k. make2 p To x a (λ t. tell p (equate f t) (k a))) (asks p (fresh OfType))
      (λ a. seq (λ t k. tell p (equate f t) (k a)) (asks p (build To x a 0 none_lacked)) (λ t. seq (λ i k. k a) (tells p (equate f t)) (λ i. done a)))))
  form_passes K (let_in p n A B) E pr =
      seq (λ x k. bind x E (λ t. typing B ((n, scheme t) ∷ E) k)) (form_passes K A E pr.0)
      (λ x. seq (λ t k. typing B ((n, scheme t) ∷ E) k) (binds x E) (λ t. form_passes K B ((n, scheme t) ∷ E) pr.1))
  form_passes K (fix p n B) E pr =
      seq (λ a k. typing B ((n, code a) ∷ E) (λ b. tell p (equate a b) (k a))) (asks p (fresh OfType))
      (λ a. seq (λ b k. tell p (equate a b) (k a)) (form_passes K B ((n, code a) ∷ E) pr) (λ b. seq (λ i k. k a) (tells p (equate a b)) (λ i. done a)))
  form_passes K (if_then p C A B) E pr =
      seq (λ c k. make p Flag (λ f. tell p (equate c f) (typing A E (λ x. typing B E (λ b. tell p (equate x b) (k x)))))) (form_passes K C E pr.0)
      (λ c. seq (λ f k. tell p (equate c f) (typing A E (λ x. typing B E (λ b. tell p (equate x b) (k x))))) (asks p (build Flag 0 0 0 none_lacked))
      (λ f. seq (λ i k. typing A E (λ x. typing B E (λ b. tell p (equate x b) (k x)))) (tells p (equate c f))
      (λ i. seq (λ x k. typing B E (λ b. tell p (equate x b) (k x))) (form_passes K A E pr.1)
      (λ x. seq (λ b k. tell p (equate x b) (k x)) (form_passes K B E pr.2) (λ b. seq (λ j k. k x) (tells p (equate x b)) (λ j. done x))))))
  form_passes K (empty_record p) E pr = seq (λ r k. make1 p Record r k) (asks p (build Empty 0 0 0 none_lacked)) (λ r. asks p (build Record r 0 0 none_lacked))
  form_passes K (extend p R l A) E pr =
      seq (λ x k. typing A E (λ s. ask p (fresh OfField) (λ f. split p x l f (λ r. make1 p Has s (λ h. record_calls p l h r k))))) (form_passes K R E pr.2)
      (λ x. seq (λ s k. ask p (fresh OfField) (λ f. split p x l f (λ r. make1 p Has s (λ h. record_calls p l h r k)))) (form_passes K A E pr.3)
      (λ s. seq (λ f k. split p x l f (λ r. make1 p Has s (λ h. record_calls p l h r k))) (asks p (fresh OfField))
      (λ f. seq (λ r k. make1 p Has s (λ h. record_calls p l h r k)) (split_passes p x l f)
      (λ r. seq (λ h k. record_calls p l h r k) (asks p (build Has s 0 0 none_lacked)) (λ h. record_passes p l h r)))))
  form_passes K (select p R l) E pr =
      seq (λ x k. ask p (fresh OfType) (λ t. make1 p Has t (λ h. split p x l h (λ r. k t)))) (form_passes K R E pr.2)
      (λ x. seq (λ t k. make1 p Has t (λ h. split p x l h (λ r. k t))) (asks p (fresh OfType))
      (λ t. seq (λ h k. split p x l h (λ r. k t)) (asks p (build Has t 0 0 none_lacked)) (λ h. seq (λ r k. k t) (split_passes p x l h) (λ r. done t))))
  form_passes K (remove p R l) E pr =
      seq (λ x k. ask p (fresh OfField) (λ f. split p x l f (λ r. make p Absent (λ h. record_calls p l h r k)))) (form_passes K R E pr.2)
      (λ x. seq (λ f k. split p x l f (λ r. make p Absent (λ h. record_calls p l h r k))) (asks p (fresh OfField))
      (λ f. seq (λ r k. make p Absent (λ h. record_calls p l h r k)) (split_passes p x l f)
      (λ r. seq (λ h k. record_calls p l h r k) (asks p (build Absent 0 0 0 none_lacked)) (λ h. record_passes p l h r))))
