-- A system without classes is never crowded: the mix of two solutions is one, and a code that is in a class in all three has one value.
use Rattle.std.proofs.Common.{◌≡◌, ℕ, zero, suc, ◌<◌, ◌≤◌, List, [], ◌∷◌, length, sym, refl, ap, ◌∙◌, subst, ap₂, inl, arith}
use mathlib.Core.Option.{Option, some, none}
use Rattle.ground.specs.Values.{Ty, of_type}
use Rattle.ground.specs.Classes.{InClass}
use Rattle.ground.specs.Heads.{first_sort, second_sort}
use Rattle.ground.specs.declared.sort.Sort.{Sort}
use Rattle.ground.specs.declared.classes.Classes.{Classes}
use Rattle.ground.proofs.Built.{builds_one, builds_swap}
use Rattle.system.specs.Meaning.{Valuation, Meaning, Sound, Listed, Known, Agree}
use Rattle.system.specs.Follows.{Crowded, Among, Within}
use Rattle.system.specs.Replies.{kind_of, Looks, open_code, built}
use Rattle.system.proofs.Takes.{takes_first, takes_second}
use Rattle.system.proofs.Filling.{put_at, put_here, put_agrees}
use Rattle.classes.specs.Judging.{to_in_none}
use Rattle.classes.specs.Sounding.{empty_allows}
use Rattle.classes.proofs.Mixing.{odd, mix, mix_value, mix_of, mix_builds, mix_class}

same_type : (t u : Ty) → of_type t ≡ of_type u → t ≡ u
same_type t u e = cc

module _ (h : ℕ) (m : Meaning) (rank : ℕ → ℕ) (sound : Sound (kind_of h 0) m) (looks : (c : ℕ) → Known m.state c → Looks rank m c) where
  -- the mix of two solutions, told by the open codes
  module _ (v w u : Valuation) (sv : m.state.solves v) (sw : m.state.solves w) (su : m.state.solves u) (at : (c : ℕ) (k : Classes) → Listed m.state.opens c k → u c ≡ mix_value (v c) (w c)) where
    mixed_at : (n c : ℕ) → ((d : ℕ) → rank d < n → Known m.state d → u d ≡ mix_value (v d) (w d)) → rank c ≤ n → Looks rank m c → u c ≡ mix_value (v c) (w c)
    mixed_at n c ih l (open_code d k p) = p.equal u su ∙ at d k p.listed ∙ sym (ap₂ mix_value (p.equal v sv) (p.equal w sw))
    mixed_at n c ih l (built g x y i p) =
        builds_one g i (u x) (u y) (u c) (mix_value (v c) (w c)) (p.builds u su)
        (builds_swap g i (mix_value (v x) (w x)) (mix_value (v y) (w y)) (u x) (u y) (mix_value (v c) (w c))
        (λ f. sym (ih x (let z = p.first_falls f in omega (arith, z, l)) (first_sort g, takes_first m.state g x y i p.lacked p.takes f)))
        (λ f. sym (ih y (let z = p.second_falls f in omega (arith, z, l)) (second_sort g p.lacked, takes_second m.state g x y i p.lacked p.takes f)))
        (mix_builds g i (v x) (v y) (v c) (w x) (w y) (w c) (p.builds v sv) (p.builds w sw)))

    mixed : (n c : ℕ) → rank c < n → Known m.state c → u c ≡ mix_value (v c) (w c)
    mixed zero c l k = absurd (omega arith)
    mixed (suc n) c l k = mixed_at n c (mixed n) (omega arith) (looks c k)

  module _ (P : Valuation → Type 0) (mixes : (v w u : Valuation) → P v → P w → ((c : ℕ) → Known m.state c → u c ≡ mix_value (v c) (w c)) → P u) (blind : (v w : Valuation) → P v → Agree m.state v w → P w) where
    -- a code that is in a class in every solution is known
    known_at : (c k : ℕ) (v : Valuation) (o : Option Sort) → m.state.sort_of c ≡ o → ((x : Valuation) → m.state.solves x → P x → Within k c x) → m.state.solves v → P v → Known m.state c
    known_at c k v none e f sv pv =
        let a = put_agrees m.state v c (of_type odd) e in
        let q = f (put_at v c (of_type odd)) (sound.blind v (put_at v c (of_type odd)) sv a) (blind v (put_at v c (of_type odd)) pv a) in
        absurd (to_in_none k _ _ (subst (InClass k) (same_type q.0 odd (sym q.1 ∙ put_here v c (of_type odd))) q.2))
    known_at c k v (some o) e f sv pv = (o, e)

    one_value : (c k : ℕ) (v w : Valuation) → ((x : Valuation) → m.state.solves x → P x → Within k c x) → m.state.solves v → P v → m.state.solves w → P w → v c ≡ w c
    one_value c k v w f sv pv sw pw =
        let a : Valuation = λ d. mix_value (v d) (w d) in
        let u = sound.free a (λ d j o l s. (mix_of o (v d) (w d) (sound.sorted v sv d o s) (sound.sorted w sw d o s), empty_allows j (a d) (sound.classless refl d j l))) in
        let all : (d : ℕ) → Known m.state d → u.0 d ≡ mix_value (v d) (w d) = λ d q. mixed v w u.0 sv sw u.1 u.2 (suc (rank d)) d (omega arith) q in
        let x = f v sv pv in
        let y = f w sw pw in
        let z = f u.0 u.1 (mixes v w u.0 pv pw all) in
        let e : of_type z.0 ≡ of_type (mix x.0 y.0) = sym z.1 ∙ all c (known_at c k v (m.state.sort_of c) refl f sv pv) ∙ ap₂ mix_value x.1 y.1 in
        x.1 ∙ ap of_type (mix_class k x.0 y.0 x.2 y.2 (subst (InClass k) (same_type z.0 (mix x.0 y.0) e) z.2)) ∙ sym y.1

    none_crowded : (q : Crowded m P) (who : List ℕ) → q.who ≡ who → ⊥
    none_crowded q [] e = omega (arith, q.many, ap length e)
    none_crowded q (c ∷ cs) e =
        let i : Among q.who c = subst (λ (x : List ℕ). Among x c) (sym e) (inl refl) in
        let k = q.held c i in
        let a = q.alone c i in
        a.6 (one_value c k.0 a.0 a.1 k.1 a.2 a.3 a.4 a.5)

    pub not_crowded : Crowded m P → ⊥
    not_crowded q = none_crowded q q.who refl

  pub uncrowded_all : Crowded m (λ v. Unit {0}) → ⊥
  uncrowded_all = not_crowded (λ v. Unit {0}) (λ v w u p q f. tt) (λ v w p f. tt)

  pub uncrowded_equal : (a b : ℕ) → Known m.state a → Known m.state b → Crowded m (λ v. v a ≡ v b) → ⊥
  uncrowded_equal a b i j =
      not_crowded (λ v. v a ≡ v b) (λ v w u p q f. f a i ∙ ap₂ mix_value p q ∙ sym (f b j)) (λ v w p f. sym (f a i) ∙ p ∙ f b j)
