-- Let: under each solution the scheme of a form has just the types that belong to the form, so the typing is exact.
use Rattle.std.proofs.Common.{◌≡◌, ℕ, [], ◌∷◌, sym, ◌∙◌, subst}
use Rattle.ground.specs.Values.{Ty, of_type}
use Rattle.ground.specs.Names.{Name}
use Rattle.ground.specs.Forms.{Form, let_in}
use Rattle.ground.specs.Belongs.{Belongs}
use Rattle.ground.specs.declared.place.Place.{Place}
use Rattle.ground.specs.declared.sort.Sort.TheVariants.{«Type» as OfType}
use Rattle.ground.proofs.Belonging.{alike_push, alike_sym, belongs_alike}
use Rattle.system.specs.Meaning.{Kind, Valuation, Meaning, Sound, Known}
use Rattle.system.specs.Requests.{Request, Reply}
use Rattle.system.specs.Follows.{Follows}
use Rattle.engine.specs.Trees.{Tree, Has, scheme, Scope, Types, env}
use Rattle.engine.specs.Calls.{bind, typing}
use Rattle.engine.specs.Runs.{looked_at}
use Rattle.system.specs.Replies.{Looks}
use Rattle.engine.specs.Schemes.{TreeOf}
use Rattle.engine.specs.Scopes.{Ready}
use Rattle.engine.proofs.Steps.{Step, Did, Stage, begin, Run, Res, after, finish}
use Rattle.engine.proofs.Ready.{ready_later, mono_known, agree_level, env_alike}
use Rattle.engine.proofs.TreeValues.{has_even, grown_even}
use Rattle.engine.proofs.SchemeOf.{tree_grown, tree_is, tree_free, sort_at, classes_at}
use Rattle.engine.proofs.Typers.{type_inj, moved, later, Typer}

module _ {S : Type 0} (K : Kind) (meaning : S → Meaning) (asked : S → Request → Reply → S → Type 0) (rank : S → ℕ → ℕ)
    (follows : (s t : S) (q : Request) (r : Reply) → asked s q r t → Follows K (meaning s) q r (meaning t))
    (sound : (s : S) → Sound K (meaning s))
    (looks : (s : S) (c : ℕ) → Known (meaning s).state c → Looks (rank s) (meaning s) c) where
  -- Under each solution the scheme of a form's code has exactly the types of the form.
  pub scheme_types : (s t : S) (E : Scope) (A : Form) (c : ℕ) (g : Tree) → Ready K (meaning s) E
      → Step (meaning s) (meaning t) Ty (λ v T. Belongs (env v E) A T) ((c, OfType) ∷ []) (λ T. of_type T ∷ [])
      → TreeOf (rank t) (meaning t) E c g
      → (v : Valuation) → (meaning t).state.solves v → (T : Ty) → (Belongs (env v E) A T → Types v (scheme g) T) × (Types v (scheme g) T → Belongs (env v E) A T)
  scheme_types s t E A c g rd e tr v sv T = (
    λ h.
        let r = e.up v T (e.down v sv).0 h in
        let w = r.0 in
        let l = agree_level K (meaning s) E rd v w r.1 in
        let gr = tree_grown K (rank t) (meaning t) E (sound t) tr OfType e.known.0 in (
          w,
          has_even w w w v g (of_type T) (grown_even K (sort_at (meaning t)) (classes_at (meaning t).state.opens) (meaning t) E w w v g OfType gr r.2 sv (λ i m. sym (l i m)))
              (subst (Has w w g) r.3.0 (tree_is K (rank t) (meaning t) E (sound t) w r.2 tr)),
        ),
    λ h.
        let rt = ready_later K (meaning s) (meaning t) e.old (λ w sw. (e.down w sw).0) E rd in
        let f = tree_free K (rank t) (meaning t) E (sound t) (looks t) (mono_known K (meaning t) E rt) tr OfType e.known.0 h.0 v sv (of_type T) h.1 in
        let w = f.0 in
        let d = e.down w f.1 in
        let q : d.1.0 ≡ T = type_inj (sym d.1.1.0 ∙ f.2) in
        belongs_alike A (env w E) (env v E) (env_alike K (meaning s) E rd w v d.0 (e.down v sv).0 (λ i m. sym (f.3 i m))) T (subst (Belongs (env w E) A) q d.1.2),
  )

  pub on_let : (p : Place) (n : Name) (A B : Form) → Typer K meaning asked rank A → Typer K meaning asked rank B → Typer K meaning asked rank (let_in p n A B)
  on_let p n A B tA tB s u E k out pr rd run =
      after meaning asked rank (begin (meaning s) Ty (λ v T. Belongs (env v E) (let_in p n A B) T)) (tA s u E (λ x. bind x E (λ t. typing B ((n, scheme t) ∷ E) k)) out pr.0 rd run) (λ h. h.ok.0.0)
      (λ h w sw nw ag mt. belongs_alike A (env h.val E) (env w E) (moved K E rd h w sw ag) h.ok.0.0 h.ok.0.1) λ t c e st r.
      go t c e st r
    where
      go : (t : S) (c : ℕ) (e : Step (meaning s) (meaning t) Ty (λ v T. Belongs (env v E) A T) ((c, OfType) ∷ []) (λ T. of_type T ∷ []))
          → Stage (meaning s) Ty (λ v T. Belongs (env v E) (let_in p n A B) T) (meaning t) (λ v. Did (meaning t) Ty (λ v T. Belongs (env v E) A T) ((c, OfType) ∷ []) (λ T. of_type T ∷ []) v × Unit {0}) ((c, OfType) ∷ []) (λ h. of_type h.ok.0.0 ∷ [])
          → Run meaning asked rank t (bind c E (λ g. typing B ((n, scheme g) ∷ E) k)) out u
          → Res meaning asked rank s Ty (λ v T. Belongs (env v E) (let_in p n A B) T) (λ c. (c, OfType) ∷ []) (λ T. of_type T ∷ []) k out u
      go t c e st (looked_at {t = g} tr r) =
          let rt = later K st E rd in
          let gr = tree_grown K (rank t) (meaning t) E (sound t) tr OfType e.known.0 in
          let same = scheme_types s t E A c g rd e tr in
          after meaning asked rank st (tB t u ((n, scheme g) ∷ E) k out pr.1 ((sort_at (meaning t), classes_at (meaning t).state.opens, gr), rt) r) (λ h. h.ans)
          (λ h w sw nw ag mt.
          let al = moved K E rd h w sw ag in
          belongs_alike B ((n, Belongs (env h.val E) A) ∷ env h.val E) (env w ((n, scheme g) ∷ E))
          (alike_push n (Belongs (env h.val E) A) (Types w (scheme g)) (env h.val E) (env w E)
          (λ X. (
            λ y. (same w nw X).0 (belongs_alike A (env h.val E) (env w E) al X y),
            λ y. belongs_alike A (env w E) (env h.val E) (alike_sym (env h.val E) (env w E) al) X ((same w nw X).1 y),
          ))
          al)
          h.ans h.ok.1) λ t1 b e1 st1 r1.
          finish meaning asked rank st1 b (st1.known.0, tt)
          (λ v sv j.
          let D = j.1.0 in (
            j.0.ans,
            j.0.is,
            (
              (D.ans, D.ok),
              belongs_alike B (env v ((n, scheme g) ∷ E)) ((n, Belongs (env v E) A) ∷ env v E)
                  (alike_push n (Types v (scheme g)) (Belongs (env v E) A) (env v E) (env v E) (λ X. ((same v D.now X).1, (same v D.now X).0)) (λ i Y. (λ y. y, λ y. y)))
                  j.0.ans j.0.ok,
            ),
          ))
          (λ h w mt. (mt.0, tt))
          r1
