-- Scopes: what is known of their codes and schemes, and what they give under a solution.
use Rattle.std.proofs.Common.{◌≡◌, ℕ, Bool, true, false, cond, [], ◌∷◌, sym, refl, ◌∙◌, subst, inl, inr, arith}
use mathlib.Core.Option.{Option, some, none}
use Rattle.ground.specs.Values.{Ty, of_type}
use Rattle.std.proofs.lemmas.Slice.Eq.{bytes_eq-Decides}
use Rattle.ground.specs.Names.{Name, same_name, named}
use Rattle.ground.specs.Belongs.{Given, Alike, choose}
use Rattle.ground.specs.declared.sort.Sort.TheVariants.{«Type» as OfType}
use Rattle.ground.proofs.Built.{no_way}
use Rattle.ground.proofs.Belonging.{alike_push}
use Rattle.system.specs.Meaning.{Kind, Valuation, Meaning, Known, Agree}
use Rattle.engine.specs.Trees.{Binding, code, scheme, Scope, Types, names, env}
use Rattle.engine.specs.Calls.{bound}
use Rattle.engine.specs.Schemes.{Bears, Mono}
use Rattle.engine.specs.Scopes.{Level, Fine, Ready}
use Rattle.engine.proofs.TreeValues.{has_even, grown_even, grown_later}
use Rattle.engine.proofs.Steps.{Old}

fine_later : (K : Kind) (m n : Meaning) (E : Scope) → Old m n → ((v : Valuation) → n.state.solves v → m.state.solves v) → (b : Binding) → Fine K m E b → Fine K n E b
fine_later K m n E old down (code c) f = old c OfType f
fine_later K m n E old down (scheme t) f = (f.0, f.1, grown_later K f.0 f.1 m n E old down t OfType f.2)

pub ready_later : (K : Kind) (m n : Meaning) → Old m n → ((v : Valuation) → n.state.solves v → m.state.solves v) → (E : Scope) → Ready K m E → Ready K n E
ready_later K m n old down [] r = tt
ready_later K m n old down (b ∷ E) r = (fine_later K m n E old down b.1 r.0, ready_later K m n old down E r.1)

bears_known : (K : Kind) (m : Meaning) (E : Scope) (b : Binding) (c : ℕ) → Fine K m E b → Bears b c → Known m.state c
bears_known K m E (code d) c f e = (OfType, subst (λ (x : ℕ). m.state.sort_of x ≡ some OfType) e f)
bears_known K m E (scheme t) c f e = absurd e

pub mono_known : (K : Kind) (m : Meaning) (E : Scope) → Ready K m E → (c : ℕ) → Mono E c → Known m.state c
mono_known K m [] r c h = absurd h
mono_known K m (b ∷ E) r c (inl h) = bears_known K m E b.1 c r.0 h
mono_known K m (b ∷ E) r c (inr h) = mono_known K m E r.1 c h

pub agree_level : (K : Kind) (m : Meaning) (E : Scope) → Ready K m E → (v w : Valuation) → Agree m.state v w → Level v w E
agree_level K m E r v w a c h = a c (mono_known K m E r c h)

level_sym : (E : Scope) (v w : Valuation) → Level v w E → Level w v E
level_sym E v w l c h = sym (l c h)

types_same : (K : Kind) (m : Meaning) (E : Scope) (b : Binding) → Fine K m E b → (v w : Valuation) → m.state.solves v → m.state.solves w → Level v w E → ((c : ℕ) → Bears b c → v c ≡ w c) → (T : Ty) → Types v b T → Types w b T
types_same K m E (code c) f v w sv sw l e T h = sym (e c refl) ∙ h
types_same K m E (scheme t) f v w sv sw l e T h =
    (h.0, has_even h.0 h.0 v w t (of_type T) (grown_even K f.0 f.1 m E h.0 v w t OfType f.2 sv sw l) h.1)

-- Solutions that agree on the fun and rec names give all names the same types.
pub env_alike : (K : Kind) (m : Meaning) (E : Scope) → Ready K m E → (v w : Valuation) → m.state.solves v → m.state.solves w → Level v w E → Alike (env v E) (env w E)
env_alike K m [] r v w sv sw l = λ n T. (λ h. h, λ h. h)
env_alike K m (b ∷ E) r v w sv sw l =
    let tail : Level v w E = λ c h. l c (inr h) in
    alike_push b.0 (Types v b.1) (Types w b.1) (env v E) (env w E)
    (λ T. (
      types_same K m E b.1 r.0 v w sv sw tail (λ c h. l c (inl h)) T,
      types_same K m E b.1 r.0 w v sw sv (level_sym E v w tail) (λ c h. sym (l c (inl h))) T,
    ))
    (env_alike K m E r.1 v w sv sw tail)

unsome : (b d : Binding) → ◌≡◌ {A = Option Binding} (some b) (some d) → b ≡ d
unsome b d e = cc

none_some : (b : Binding) → ◌≡◌ {A = Option Binding} none (some b) → ⊥
none_some b e = let z : ◌≡◌ {A = ℕ} 0 1 = cc in omega arith

-- What a name is bound to gives its types.
pub found : (E : Scope) (n : Name) (b : Binding) → bound E n ≡ some b → (v : Valuation) (T : Ty) → (Given (env v E) n T → Types v b T) × (Types v b T → Given (env v E) n T)
found [] n b e v T = absurd (none_some b e)
found (x ∷ E) n b e v T = go (same_name n x.0) e (λ q. found E n b q v T)
  where
    go : (q : Bool) → cond q (some x.1) (bound E n) ≡ some b → (bound E n ≡ some b → (Given (env v E) n T → Types v b T) × (Types v b T → Given (env v E) n T)) → (choose q (Types v x.1 T) (Given (env v E) n T) → Types v b T) × (Types v b T → choose q (Types v x.1 T) (Given (env v E) n T))
    go true e f = let p = unsome x.1 b e in (subst (λ (y : Binding). Types v y T) p, subst (λ (y : Binding). Types v y T) (sym p))
    go false e f = f e

pub ready_found : (K : Kind) (m : Meaning) (E : Scope) (n : Name) (b : Binding) → bound E n ≡ some b → Ready K m E → (F : Scope) × Fine K m F b
ready_found K m [] n b e r = absurd (none_some b e)
ready_found K m (x ∷ E) n b e r = go (same_name n x.0) e (λ q. ready_found K m E n b q r.1)
  where
    go : (q : Bool) → cond q (some x.1) (bound E n) ≡ some b → (bound E n ≡ some b → (F : Scope) × Fine K m F b) → (F : Scope) × Fine K m F b
    go true e f = (E, subst (Fine K m E) (unsome x.1 b e) r.0)
    go false e f = f e

same_turned : (m n : Name) → same_name n m ≡ false → same_name m n ≡ true → ⊥
same_turned m n f t = no_way (sym f ∙ (bytes_eq-Decides n m).1 (sym ((bytes_eq-Decides m n).0 t)))

-- A name that is one of the scope's is bound in it.
pub named_bound : (E : Scope) (n : Name) → named (names E) n ≡ true → (b : Binding) × (bound E n ≡ some b)
named_bound [] n e = absurd (no_way e)
named_bound (x ∷ E) n e = go (same_name n x.0) refl (same_name x.0 n) refl e (named_bound E n)
  where
    go : (q : Bool) → same_name n x.0 ≡ q → (r : Bool) → same_name x.0 n ≡ r → cond r true (named (names E) n) ≡ true
        → (named (names E) n ≡ true → (b : Binding) × (bound E n ≡ some b)) → (b : Binding) × (cond q (some x.1) (bound E n) ≡ some b)
    go true p r t h f = (x.1, refl)
    go false p true t h f = absurd (same_turned x.0 n p t)
    go false p false t h f = f h
