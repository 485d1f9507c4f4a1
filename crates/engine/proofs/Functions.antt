-- Fun, call, rec and if: their typing is exact.
use Rattle.std.proofs.Common.{◌≡◌, ℕ, ◌∷◌, sym, refl, ap, ◌∙◌, subst, arith}
use Rattle.ground.specs.Values.{Ty, flag, to, of_type}
use Rattle.ground.specs.Heads.{none_lacked}
use Rattle.ground.specs.Names.{Name}
use Rattle.ground.specs.Forms.{Form, fun, call, fix, if_then}
use Rattle.ground.specs.Belongs.{Belongs}
use Rattle.ground.specs.declared.place.Place.{Place}
use Rattle.ground.specs.declared.sort.Sort.TheVariants.{«Type» as OfType}
use Rattle.ground.specs.declared.head.Head.TheVariants.{Flag, To}
use Rattle.ground.proofs.Built.{no_way}
use Rattle.ground.proofs.Belonging.{alike_push, belongs_alike}
use Rattle.system.specs.Meaning.{Kind, Meaning, Sound}
use Rattle.system.specs.Requests.{Request, fresh, equate, Reply}
use Rattle.system.specs.Follows.{Follows}
use Rattle.system.proofs.Takes.{fit_build}
use Rattle.engine.specs.Trees.{code, env}
use Rattle.engine.specs.Calls.{ask, tell, make, make2, typing}
use Rattle.engine.proofs.Steps.{begin, after, finish}
use Rattle.engine.proofs.Asks.{ask_fresh, ask_build, ask_equate}
use Rattle.engine.proofs.Typers.{type_inj, moved, later, equal, Typer}

module _ {S : Type 0} (K : Kind) (meaning : S → Meaning) (asked : S → Request → Reply → S → Type 0) (rank : S → ℕ → ℕ)
    (follows : (s t : S) (q : Request) (r : Reply) → asked s q r t → Follows K (meaning s) q r (meaning t))
    (sound : (s : S) → Sound K (meaning s)) where
  pub on_fun : (p : Place) (n : Name) (B : Form) → Typer K meaning asked rank B → Typer K meaning asked rank (fun p n B)
  on_fun p n B tB s u E k out pr rd run =
      after meaning asked rank (begin (meaning s) Ty (λ v T. Belongs (env v E) (fun p n B) T)) (ask_fresh K meaning asked rank follows sound refl run) (λ h. of_type h.ok.0) (λ h w sw nw ag mt. tt) λ t a e st r.
      after meaning asked rank st (tB t u ((n, code a) ∷ E) (λ b. make2 p To a b k) out pr (st.known.0, later K st E rd) r) (λ h. h.ok.1)
      (λ h w sw nw ag mt.
      belongs_alike B ((n, λ X. X ≡ h.ok.0) ∷ env h.val E) (env w ((n, code a) ∷ E))
      (alike_push n (λ X. X ≡ h.ok.0) (λ X. w a ≡ of_type X) (env h.val E) (env w E) (λ X. (λ q. mt.0 ∙ ap of_type (sym q), λ q. type_inj (sym q ∙ mt.0))) (moved K E rd h w sw ag))
      h.ok.1 h.ok.3) λ t1 b e1 st1 r1.
      after meaning asked rank st1
      (ask_build K meaning asked rank follows sound (fit_build K (meaning t1) To a b 0 none_lacked (let z = (sound s).heads in omega arith) refl (λ f. st1.known.1.0) (λ f. st1.known.0)) r1)
      (λ h. of_type (to h.ok.0 h.ok.1)) (λ h w sw nw ag mt. (h.ok.0, h.ok.1, mt.1.0, mt.0, refl)) λ t2 c e2 st2 r2.
      finish meaning asked rank st2 c (st2.known.0, tt)
      (λ v sv j.
      let b1 = j.0.ok in
      let R = j.1.0.ans in
      let q : b1.1 ≡ R = type_inj (sym b1.3 ∙ j.1.0.is.0) in (
        to b1.0 R,
        (j.0.is.0 ∙ b1.4 ∙ ap (λ x. of_type (to b1.0 x)) q, tt),
        (
          b1.0,
          R,
          refl,
          belongs_alike B (env v ((n, code a) ∷ E)) ((n, λ X. X ≡ b1.0) ∷ env v E)
              (alike_push n (λ X. v a ≡ of_type X) (λ X. X ≡ b1.0) (env v E) (env v E) (λ X. (λ y. type_inj (sym y ∙ b1.2), λ y. b1.2 ∙ ap of_type (sym y))) (λ i T. (λ y. y, λ y. y)))
              R j.1.0.ok,
        ),
      ))
      (λ h w mt. (mt.0 ∙ ap of_type (sym h.ok.2), tt))
      r2

  pub on_call : (p : Place) (F A : Form) → Typer K meaning asked rank F → Typer K meaning asked rank A → Typer K meaning asked rank (call p F A)
  on_call p F A tF tA s u E k out pr rd run =
      after meaning asked rank (begin (meaning s) Ty (λ v T. Belongs (env v E) (call p F A) T))
      (tF s u E (λ f. typing A E (λ x. ask p (fresh OfType) (λ a. make2 p To x a (λ t. tell p (equate f t) (k a))))) out pr.0 rd run) (λ h. to h.ok.0 h.ans)
      (λ h w sw nw ag mt. belongs_alike F (env h.val E) (env w E) (moved K E rd h w sw ag) (to h.ok.0 h.ans) h.ok.1) λ t f e st r.
      after meaning asked rank st (tA t u E (λ x. ask p (fresh OfType) (λ a. make2 p To x a (λ t. tell p (equate f t) (k a)))) out pr.1 (later K st E rd) r) (λ h. h.ok.0)
      (λ h w sw nw ag mt. belongs_alike A (env h.val E) (env w E) (moved K E rd h w sw ag) h.ok.0 h.ok.2) λ t1 x e1 st1 r1.
      after meaning asked rank st1 (ask_fresh K meaning asked rank follows sound refl r1) (λ h. of_type h.ans) (λ h w sw nw ag mt. tt) λ t2 a e2 st2 r2.
      after meaning asked rank st2
      (ask_build K meaning asked rank follows sound (fit_build K (meaning t2) To x a 0 none_lacked (let z = (sound s).heads in omega arith) refl (λ f. st2.known.1.0) (λ f. st2.known.0)) r2)
      (λ h. of_type (to h.ok.0 h.ans)) (λ h w sw nw ag mt. (h.ok.0, h.ans, mt.1.0, mt.0, refl)) λ t3 y e3 st3 r3.
      after meaning asked rank st3 (ask_equate K meaning asked rank follows sound (equal K (meaning t3) f y st3.known.1.1.1.0 st3.known.0) r3) (λ h. tt) (λ h w sw nw ag mt. mt.1.1.1.0 ∙ sym mt.0) λ t4 z e4 st4 r4.
      finish meaning asked rank st4 a (st4.known.1.0, tt)
      (λ v sv j.
      let eq = j.0.ok in
      let bd = j.1.0.ok in
      let S = j.1.1.1.0 in
      let G = j.1.1.1.1.0 in
      let qa : bd.0 ≡ S.ans = type_inj (sym bd.2 ∙ S.is.0) in
      let qf : G.ans ≡ to bd.0 bd.1 = type_inj (sym G.is.0 ∙ eq ∙ j.1.0.is.0 ∙ bd.4) in (
        bd.1,
        (bd.3, tt),
        (S.ans, subst (Belongs (env v E) F) (qf ∙ ap (λ i. to i bd.1) qa) G.ok, S.ok),
      ))
      (λ h w mt. (mt.1.0, tt))
      r4

  pub on_fix : (p : Place) (n : Name) (B : Form) → Typer K meaning asked rank B → Typer K meaning asked rank (fix p n B)
  on_fix p n B tB s u E k out pr rd run =
      after meaning asked rank (begin (meaning s) Ty (λ v T. Belongs (env v E) (fix p n B) T)) (ask_fresh K meaning asked rank follows sound refl run) (λ h. of_type h.ans) (λ h w sw nw ag mt. tt) λ t a e st r.
      after meaning asked rank st (tB t u ((n, code a) ∷ E) (λ b. tell p (equate a b) (k a)) out pr (st.known.0, later K st E rd) r) (λ h. h.ans)
      (λ h w sw nw ag mt.
      belongs_alike B ((n, λ X. X ≡ h.ans) ∷ env h.val E) (env w ((n, code a) ∷ E))
      (alike_push n (λ X. X ≡ h.ans) (λ X. w a ≡ of_type X) (env h.val E) (env w E) (λ X. (λ q. mt.0 ∙ ap of_type (sym q), λ q. type_inj (sym q ∙ mt.0))) (moved K E rd h w sw ag))
      h.ans h.ok) λ t1 b e1 st1 r1.
      after meaning asked rank st1 (ask_equate K meaning asked rank follows sound (equal K (meaning t1) a b st1.known.1.0 st1.known.0) r1) (λ h. tt) (λ h w sw nw ag mt. mt.1.0 ∙ sym mt.0) λ t2 z e2 st2 r2.
      finish meaning asked rank st2 a (st2.known.1.0, tt)
      (λ v sv j.
      let T = j.1.0.ans in
      let q : v a ≡ of_type T = j.0.ok ∙ j.1.0.is.0 in (
        T,
        (q, tt),
        belongs_alike B (env v ((n, code a) ∷ E)) ((n, λ X. X ≡ T) ∷ env v E)
            (alike_push n (λ X. v a ≡ of_type X) (λ X. X ≡ T) (env v E) (env v E) (λ X. (λ y. type_inj (sym y ∙ q), λ y. q ∙ ap of_type (sym y))) (λ i Y. (λ y. y, λ y. y)))
            T j.1.0.ok,
      ))
      (λ h w mt. (mt.1.0, tt))
      r2

  pub on_if : (p : Place) (C A B : Form) → Typer K meaning asked rank C → Typer K meaning asked rank A → Typer K meaning asked rank B → Typer K meaning asked rank (if_then p C A B)
  on_if p C A B tC tA tB s u E k out pr rd run =
      after meaning asked rank (begin (meaning s) Ty (λ v T. Belongs (env v E) (if_then p C A B) T))
      (tC s u E (λ c. make p Flag (λ f. tell p (equate c f) (typing A E (λ x. typing B E (λ b. tell p (equate x b) (k x)))))) out pr.0 rd run) (λ h. flag)
      (λ h w sw nw ag mt. belongs_alike C (env h.val E) (env w E) (moved K E rd h w sw ag) flag h.ok.0) λ t c e st r.
      after meaning asked rank st
      (ask_build K meaning asked rank follows sound (fit_build K (meaning t) Flag 0 0 0 none_lacked (let z = (sound s).heads in omega arith) refl (λ f. absurd (no_way f)) (λ f. absurd (no_way f))) r)
      (λ h. of_type flag) (λ h w sw nw ag mt. refl) λ t1 f e1 st1 r1.
      after meaning asked rank st1 (ask_equate K meaning asked rank follows sound (equal K (meaning t1) c f st1.known.1.0 st1.known.0) r1) (λ h. tt) (λ h w sw nw ag mt. mt.1.0 ∙ sym mt.0) λ t2 z e2 st2 r2.
      after meaning asked rank st2 (tA t2 u E (λ x. typing B E (λ b. tell p (equate x b) (k x))) out pr.1 (later K st2 E rd) r2) (λ h. h.ans)
      (λ h w sw nw ag mt. belongs_alike A (env h.val E) (env w E) (moved K E rd h w sw ag) h.ans h.ok.1) λ t3 x e3 st3 r3.
      after meaning asked rank st3 (tB t3 u E (λ b. tell p (equate x b) (k x)) out pr.2 (later K st3 E rd) r3) (λ h. h.ans)
      (λ h w sw nw ag mt. belongs_alike B (env h.val E) (env w E) (moved K E rd h w sw ag) h.ans h.ok.2) λ t4 b e4 st4 r4.
      after meaning asked rank st4 (ask_equate K meaning asked rank follows sound (equal K (meaning t4) x b st4.known.1.0 st4.known.0) r4) (λ h. tt) (λ h w sw nw ag mt. mt.1.0 ∙ sym mt.0) λ t5 z5 e5 st5 r5.
      finish meaning asked rank st5 x (st5.known.1.0, tt)
      (λ v sv j.
      let D = j.1.1.1.1.1.0 in
      let X = j.1.1.0 in
      let Y = j.1.0 in
      let qc : D.ans ≡ flag = type_inj (sym D.is.0 ∙ j.1.1.1.0.ok ∙ j.1.1.1.1.0.is.0 ∙ j.1.1.1.1.0.ok) in
      let qb : Y.ans ≡ X.ans = type_inj (sym Y.is.0 ∙ sym j.0.ok ∙ X.is.0) in
      (X.ans, X.is, (subst (Belongs (env v E) C) qc D.ok, X.ok, subst (Belongs (env v E) B) qb Y.ok)))
      (λ h w mt. (mt.1.0, tt))
      r5
