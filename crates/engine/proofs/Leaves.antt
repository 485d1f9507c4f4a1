-- Numbers, truths and names: their typing is exact.
use Rattle.std.proofs.Common.{◌≡◌, ℕ, ◌<◌, Bool, true, false, [], ◌∷◌, ℤ, sym, refl, ap, ◌∙◌, subst, arith}
use mathlib.Core.Option.{Option, some}
use Rattle.ground.specs.Values.{Ty, whole, tenth, flag, Value, of_type}
use Rattle.ground.specs.Heads.{Builds, gives, none_lacked, has_first, has_second}
use Rattle.ground.specs.Names.{Name}
use Rattle.ground.specs.Forms.{name, number, tenths, truth}
use Rattle.ground.specs.Belongs.{Given}
use Rattle.ground.specs.declared.place.Place.{Place}
use Rattle.ground.specs.declared.sort.Sort.TheVariants.{«Type» as OfType}
use Rattle.ground.specs.declared.head.Head.{Head}
use Rattle.ground.specs.declared.head.Head.TheVariants.{Whole, Tenth, Flag}
use Rattle.ground.proofs.Built.{no_way}
use Rattle.system.specs.Meaning.{Kind, Meaning, Sound}
use Rattle.system.specs.Requests.{Request, build, Reply, fits, head_number, labelled}
use Rattle.system.specs.Follows.{Follows}
use Rattle.system.proofs.Takes.{fit_build}
use Rattle.engine.specs.Trees.{Binding, code, scheme, Scope, Types, env}
use Rattle.engine.specs.Calls.{Calls, make, use_name, bound}
use Rattle.engine.specs.Runs.{Outcome}
use Rattle.engine.specs.Scopes.{Fine}
use Rattle.engine.proofs.Steps.{begin, ends_map, Run, Res, went, ended, after, finish}
use Rattle.engine.proofs.Asks.{ask_build}
use Rattle.engine.proofs.Copies.{type_held, use_scheme}
use Rattle.engine.proofs.Ready.{found, ready_found, named_bound}
use Rattle.engine.proofs.Typers.{Typer}

module _ {S : Type 0} (K : Kind) (meaning : S → Meaning) (asked : S → Request → Reply → S → Type 0) (rank : S → ℕ → ℕ)
    (follows : (s t : S) (q : Request) (r : Reply) → asked s q r t → Follows K (meaning s) q r (meaning t))
    (sound : (s : S) → Sound K (meaning s)) where
  plain_fit : (s : S) (h : Head) → head_number h < 5 → has_first h ≡ false → has_second h ≡ false → labelled h 0 none_lacked ≡ true → fits K (meaning s) (build h 0 0 0 none_lacked) ≡ true
  plain_fit s h b f g l = fit_build K (meaning s) h 0 0 0 none_lacked (let z = (sound s).heads in omega arith) l (λ e. absurd (no_way (sym f ∙ e))) (λ e. absurd (no_way (sym g ∙ e)))

  on_literal : {s u : S} {k : ℕ → Calls} {out : Outcome} (p : Place) (h : Head) (X : Ty) → gives h none_lacked 0 ≡ OfType → fits K (meaning s) (build h 0 0 0 none_lacked) ≡ true
      → ((x y z : Value) → (Builds h 0 x y z → z ≡ of_type X) × (z ≡ of_type X → Builds h 0 x y z)) → Run meaning asked rank s (make p h k) out u
      → Res meaning asked rank s Ty (λ v T. T ≡ X) (λ c. (c, OfType) ∷ []) (λ T. of_type T ∷ []) k out u
  on_literal {s} p h X g ft iff run =
      after meaning asked rank (begin (meaning s) Ty (λ v T. T ≡ X)) (ask_build K meaning asked rank follows sound ft run) (λ c. of_type X) (λ c w sw nw ag mt. (iff (w 0) (w 0) (of_type X)).1 refl) λ t c e st r.
      finish meaning asked rank st c (st.known.0 ∙ ap some g, tt)
      (λ v sv j. (X, (j.0.is.0 ∙ (iff (v 0) (v 0) j.0.ans).0 j.0.ok, tt), refl))
      (λ c w mt. (mt.0 ∙ ap of_type (sym c.ok), tt))
      r

  pub on_name : (p : Place) (n : Name) → Typer K meaning asked rank (name p n)
  on_name p n s u E k out pr rd run =
      let b = named_bound E n pr in
      go b.0 b.1 (ready_found K (meaning s) E n b.0 b.1 rd) (subst (λ (x : Option Binding). Run meaning asked rank s (use_name p x k) out u) b.1 run)
    where
      -- The types of what the name is bound to are the name's.
      given : (b : Binding) → bound E n ≡ some b → Res meaning asked rank s Ty (λ v T. Types v b T) (λ c. (c, OfType) ∷ []) (λ T. of_type T ∷ []) k out u
          → Res meaning asked rank s Ty (λ v T. Given (env v E) n T) (λ c. (c, OfType) ∷ []) (λ T. of_type T ∷ []) k out u
      given b e (went t c st r) = went t c (record {
        old = st.old;
        known = st.known;
        down = λ v sv. let d = st.down v sv in (d.0, (d.1.0, d.1.1, (found E n b e v d.1.0).1 d.1.2));
        up = λ v T sv h. st.up v T sv ((found E n b e v T).0 h);
      }) r
      given b e (ended d) = ended (ends_map (λ c. record { val = c.val; ans = c.ans; solved = c.solved; ok = (found E n b e c.val c.ans).0 c.ok }) d)

      go : (b : Binding) → bound E n ≡ some b → (F : Scope) × Fine K (meaning s) F b → Run meaning asked rank s (use_name p (some b) k) out u
          → Res meaning asked rank s Ty (λ v T. Given (env v E) n T) (λ c. (c, OfType) ∷ []) (λ T. of_type T ∷ []) k out u
      go (code c) e f r = given (code c) e (went s c (record {
        old = λ d o q. q;
        known = (f.1, tt);
        down = λ v sv. let T = type_held (v c) ((sound s).sorted v sv c OfType f.1) in (sv, (T.0, (T.1, tt), T.1));
        up = λ v T sv h. (v, λ d q. refl, sv, (h, tt));
      }) r)
      go (scheme t) e f r = given (scheme t) e (use_scheme K meaning asked rank follows sound f.1.0 f.1.1 f.0 p t f.1.2 r)

  pub on_number : (p : Place) (z : ℤ) → Typer K meaning asked rank (number p z)
  on_number p z s u E k out pr rd run = on_literal p Whole whole refl (plain_fit s Whole (omega arith) refl refl refl) (λ x y w. (λ q. q, λ q. q)) run

  pub on_tenths : (p : Place) (z : ℤ) → Typer K meaning asked rank (tenths p z)
  on_tenths p z s u E k out pr rd run = on_literal p Tenth tenth refl (plain_fit s Tenth (omega arith) refl refl refl) (λ x y w. (λ q. q, λ q. q)) run

  pub on_truth : (p : Place) (b : Bool) → Typer K meaning asked rank (truth p b)
  on_truth p b s u E k out pr rd run = on_literal p Flag flag refl (plain_fit s Flag (omega arith) refl refl refl) (λ x y w. (λ q. q, λ q. q)) run
