-- Fresh and build, in the layer: a code more, and the entries followed again.
use Rattle.std.proofs.Common.{◌≡◌, ℕ, ◌+◌, true, false, ltb, ◌⊎◌, List, [], Ok, sym, ◌∙◌, inl, inr}
use Rattle.std.proofs.lemmas.Bool.{cases_Bool}
use Rattle.ground.specs.Sorts.{Of}
use Rattle.ground.specs.Heads.{Builds, gives}
use Rattle.ground.specs.declared.sort.Sort.{Sort}
use Rattle.ground.specs.declared.sort.Labels.{Labels}
use Rattle.ground.specs.declared.head.Head.{Head}
use Rattle.system.specs.Meaning.{Valuation, Meaning, Sound, Known, Same}
use Rattle.system.specs.Requests.{Request, fresh, build, code, fault, fits, takes, head_number}
use Rattle.system.specs.Follows.{Follows, Added, Limited}
use Rattle.system.specs.Replies.{kind_of, Looks}
use Rattle.system.proofs.Takes.{both}
use Rattle.system.proofs.Filling.{Fill, fill_fresh, fill_build}
use Rattle.classes.specs.declared.entry.Entry.{Entry}
use Rattle.classes.specs.Layered.{layered, InOrder, Standing, Met, Followables}
use Rattle.classes.specs.Following.{Followed}
use Rattle.classes.specs.Sounding.{layered_sound, meets_agree}
use Rattle.classes.specs.Keeping.{followed_order}
use Rattle.classes.specs.Lifting.{same_lift, order_same, orders_same, fits_fresh, fits_build, added_lift, added_known, followables_more}
use Rattle.classes.proofs.Uncrowded.{uncrowded_all}
use Rattle.classes.proofs.Answering.{code_fits}

-- an unchanged system below leaves the layer as it stood
pub standing_same : (ok ok' : Type 0) (z : ℕ) (m n : Meaning) (es : List Entry) (ts : List (List Entry)) → ok' → Same m n → Standing ok z m es ts → Standing ok' z n es ts
standing_same ok ok' z m n es ts o p s =
    record { below = o; classless = s.classless; order = order_same m.state n.state es p.state s.order; marks = orders_same m.marks n.marks ts p.marks s.marks; few = s.few }

module _ (h : ℕ) (m n : Meaning) (es : List Entry) (ts : List (List Entry)) (sound : Sound (kind_of h 0) m) (order : InOrder m.state es) where
  -- what it refuses, for want of room alone
  module _ (rank : ℕ → ℕ) (looks : (c : ℕ) → Known m.state c → Looks rank m c) where
    limited_lift : (calls f l : ℕ) → Limited m calls (λ v. Unit {0}) f l → Limited (layered m es ts) calls (λ v. Unit {0}) f l
    limited_lift calls f l (inl p) = inl p
    limited_lift calls f l (inr p) = absurd (uncrowded_all h m rank sound looks p.2)

    pub fresh_refused : (o : Sort) (f l : ℕ) → Follows (kind_of h 0) m (fresh o) (fault f l) n → Follows (kind_of h 4) (layered m es ts) (fresh o) (fault f l) (layered n es ts)
    fresh_refused o f l p = (
      λ e. let q = p.0 (sym (fits_fresh h m es ts o) ∙ e) in (q.0, same_lift m n es ts q.1),
      λ e. let q = p.1 (sym (fits_fresh h m es ts o) ∙ e) in (same_lift m n es ts q.0, limited_lift (m.state.count + 1) f l q.1),
    )

    pub build_refused :
        (g : Head) (x y k : ℕ) (s : Labels) (f l : ℕ) → Follows (kind_of h 0) m (build g x y k s) (fault f l) n → Follows (kind_of h 4) (layered m es ts) (build g x y k s) (fault f l) (layered n es ts)
    build_refused g x y k s f l p = (
      λ e. let q = p.0 (sym (fits_build h m es ts g x y k s) ∙ e) in (q.0, same_lift m n es ts q.1),
      λ e. let q = p.1 (sym (fits_build h m es ts g x y k s) ∙ e) in (same_lift m n es ts q.0, limited_lift (m.state.count + 1) f l q.1),
    )

  same_at : (q : Request) (f l : ℕ) (A : Type 0) → ((fits (kind_of h 0) m q ≡ false → A × Same m n) × (fits (kind_of h 0) m q ≡ true → Same m n)) → (fits (kind_of h 0) m q ≡ true) ⊎ (fits (kind_of h 0) m q ≡ false) → Same m n
  same_at q f l A p (inl e) = p.1 e
  same_at q f l A p (inr e) = (p.0 e).1

  pub fresh_same : (o : Sort) (f l : ℕ) → Follows (kind_of h 0) m (fresh o) (fault f l) n → Same m n
  fresh_same o f l p = same_at (fresh o) f l (fault f l ≡ fault 21 4) (p.0, λ e. (p.1 e).0) (cases_Bool (fits (kind_of h 0) m (fresh o)))

  pub build_same : (g : Head) (x y k : ℕ) (s : Labels) (f l : ℕ) → Follows (kind_of h 0) m (build g x y k s) (fault f l) n → Same m n
  build_same g x y k s f l p = same_at (build g x y k s) f l (fault f l ≡ fault 21 4) (p.0, λ e. (p.1 e).0) (cases_Bool (fits (kind_of h 0) m (build g x y k s)))

  -- what it makes
  added_met : (c : ℕ) (o : Sort) (P : ℕ → Valuation → Type 0) → Fill m P → Added m c o (P c) n → Met n es
  added_met c o P fill a =
      let v = (layered_sound h m es [] sound order).some in
      let w = fill v.0 v.1.0 c a.unknown in
      (w.0, a.from w.0 (sound.blind v.0 w.0 v.1.0 w.1) w.2, meets_agree m.state es v.0 w.0 order w.1 v.1.1)

  pub fresh_met : (o : Sort) (c : ℕ) → Follows (kind_of h 0) m (fresh o) (code c) n → Followables n.state es × Met n es
  fresh_met o c p =
      let a = p.1 (code_fits (kind_of h 0) m n (fresh o) c p) in
      (followables_more m.state n.state es (added_known m n c o (λ v. Of o (v c)) a) order, added_met c o (λ i v. Of o (v i)) (fill_fresh m o) a)

  pub build_met : (g : Head) (x y k : ℕ) (s : Labels) (c : ℕ) → Follows (kind_of h 0) m (build g x y k s) (code c) n → Followables n.state es × Met n es
  build_met g x y k s c p =
      let e = code_fits (kind_of h 0) m n (build g x y k s) c p in
      let a = p.1 e in
      let t = (both (ltb (head_number g) h) (takes m.state g x y k s) e).1 in (
        followables_more m.state n.state es (added_known m n c (gives g s k) (λ v. Builds g k (v x) (v y) (v c)) a) order,
        added_met c (gives g s k) (λ i v. Builds g k (v x) (v y) (v i)) (fill_build (kind_of h 0) m g x y k s sound t) a,
      )

  module _ (fs : List Entry) (sound' : Sound (kind_of h 0) n) (followed : Followed n es [] (Ok fs)) where
    pub fresh_made : (o : Sort) (c : ℕ) → Follows (kind_of h 0) m (fresh o) (code c) n → Follows (kind_of h 4) (layered m es ts) (fresh o) (code c) (layered n fs ts)
    fresh_made o c p =
        let e = code_fits (kind_of h 0) m n (fresh o) c p in (
          λ i. absurd (let q = (p.0 (sym (fits_fresh h m es ts o) ∙ i)).0 in cc),
          λ i. added_lift (kind_of h 0) m n c o (λ v. Of o (v c)) es fs ts sound' (p.1 e) order followed,
        )

    pub build_made : (g : Head) (x y k : ℕ) (s : Labels) (c : ℕ) → Follows (kind_of h 0) m (build g x y k s) (code c) n → Follows (kind_of h 4) (layered m es ts) (build g x y k s) (code c) (layered n fs ts)
    build_made g x y k s c p =
        let e = code_fits (kind_of h 0) m n (build g x y k s) c p in (
          λ i. absurd (let q = (p.0 (sym (fits_build h m es ts g x y k s) ∙ i)).0 in cc),
          λ i. added_lift (kind_of h 0) m n c (gives g s k) (λ v. Builds g k (v x) (v y) (v c)) es fs ts sound' (p.1 e) order followed,
        )

    standing_added : (ok ok' : Type 0) (z c : ℕ) (o : Sort) (P : Valuation → Type 0) → ok' → Added m c o P n → Standing ok z m es ts → Standing ok' z n fs ts
    standing_added ok ok' z c o P i a s = record {
      below = i;
      classless = s.classless;
      order = followed_order (kind_of h 0) n sound' es [] fs (followables_more m.state n.state es (added_known m n c o P a) order) tt followed;
      marks = orders_same m.marks n.marks ts a.marks s.marks;
      few = s.few;
    }

    pub fresh_stands : (ok ok' : Type 0) (z : ℕ) (o : Sort) (c : ℕ) → ok' → Follows (kind_of h 0) m (fresh o) (code c) n → Standing ok z m es ts → Standing ok' z n fs ts
    fresh_stands ok ok' z o c i p s = standing_added ok ok' z c o (λ v. Of o (v c)) i (p.1 (code_fits (kind_of h 0) m n (fresh o) c p)) s

    pub build_stands : (ok ok' : Type 0) (z : ℕ) (g : Head) (x y k : ℕ) (l : Labels) (c : ℕ) → ok' → Follows (kind_of h 0) m (build g x y k l) (code c) n → Standing ok z m es ts → Standing ok' z n fs ts
    build_stands ok ok' z g x y k l c i p s = standing_added ok ok' z c (gives g l k) (λ v. Builds g k (v x) (v y) (v c)) i (p.1 (code_fits (kind_of h 0) m n (build g x y k l) c p)) s
