-- What a unification leaves: just the solutions in which both codes are equal, or none.
use Rattle.std.specs.Prelude.{◌≡◌, ℕ, zero, suc, ◌+◌, ◌*◌, ◌<◌, ◌≤◌, Bool, true, false, cond, ltb, ◌⊎◌, List, [], ◌∷◌, ◌++◌, length, ◌==◌, ◌≢◌, nat_lt, refl}
use Rattle.std.proofs.Common.{sym, ◌∙◌, ap, subst, inl, inr, ⊎_elim, arith, eqb-true, lt-ltb, ltb-true, ltb-false}
use Rattle.std.proofs.lemmas.Bool.{cases_eq, eqb-false}
use Rattle.std.proofs.lemmas.List.{append-nil, append_assoc, length-append}
use Rattle.ground.specs.Values.{Value}
use Rattle.ground.specs.Heads.{Builds, has_first, has_second}
use Rattle.ground.specs.declared.head.Head.{Head}
use Rattle.ground.proofs.Built.{no_way, builds_swap, builds_one, builds_first, builds_second, Apt}
use Rattle.system.specs.Meaning.{Valuation}
use Rattle.system.specs.Requests.{head_number}
use Rattle.system.specs.Faults.{system_number}
use Rattle.system.specs.declared.fault.SystemFault.{SystemFault}
use Rattle.system.specs.declared.fault.SystemFault.TheVariants.{Clash, Cyclic, NoCells}
use Rattle.model.specs.declared.cell.Cell.{Cell}
use Rattle.model.specs.declared.cell.Bind.{Bind}
use Rattle.model.specs.declared.cell.Cell.TheVariants.{Open, Link, Built}
use Rattle.model.specs.Cells.{view, occurs, among, Out, held, lost, then, bind, children, meet, unify}
use Rattle.model.specs.Means.{Says, Holds, Lower, Falls, Refers, Fine, opens}
use Rattle.model.specs.Ranks.{counted, counted_lower, many_most, above, occurs_stable, raised, raised_falls, open_link, built_link}
use Rattle.model.specs.Growing.{weight, first_lighter, second_lighter, builds_shows, as_ty, shows, five, one_head}
use Rattle.model.specs.Opens.{opens_most, opens_less, bound_to, view_here, view_else}

apt : (h : Head) (l : ℕ) (v : Value) → head_number h < 5 → Apt h l v
apt h l v = five (λ h. Apt h l v) tt tt tt tt tt h

-- a code that another is reached from is no lighter, and one that is a head and not the same is heavier
module _ (n : ℕ) (w : ℕ → Cell) (refers : (c : ℕ) → c < n → Refers n (w c)) (v : Valuation) (hv : Holds n w v) (a : ℕ) where
  step_heavier : (f : ℕ → Bool) (c : ℕ) → c < n → ((j : ℕ) → j < n → f j ≡ true → weight (v a) ≤ weight (v j))
      → (h : Head) (x y : ℕ) → Says v c (Built h x y) → Refers n (Built h x y) → among f (Built h x y) ≡ true → weight (v a) < weight (v c)
  step_heavier f c lc ih h x y b r e = go (has_first h) refl (f x) refl (has_second h) refl (f y) refl e
    where
      go : (p : Bool) → has_first h ≡ p → (q : Bool) → f x ≡ q → (s : Bool) → has_second h ≡ s → (t : Bool) → f y ≡ t
          → cond (cond p q false) true (cond s t false) ≡ true → weight (v a) < weight (v c)
      go true p true q s i t j e = let l = first_lighter h (v x) (v y) (v c) r.0 p b in let m = ih x (r.1 p) q in omega (arith, l, m)
      go true p false q true i true j e = let l = second_lighter h (v x) (v y) (v c) r.0 i b in let m = ih y (r.2 i) j in omega (arith, l, m)
      go true p false q true i false j e = absurd (no_way e)
      go true p false q false i t j e = absurd (no_way e)
      go false p q g true i true j e = let l = second_lighter h (v x) (v y) (v c) r.0 i b in let m = ih y (r.2 i) j in omega (arith, l, m)
      go false p q g true i false j e = absurd (no_way e)
      go false p q g false i t j e = absurd (no_way e)

  step_heavy : (f : ℕ → Bool) (c : ℕ) → c < n → ((j : ℕ) → j < n → f j ≡ true → weight (v a) ≤ weight (v j))
      → (s : Cell) → Says v c s → Refers n s → among f s ≡ true → weight (v a) ≤ weight (v c)
  step_heavy f c lc ih Open b r e = absurd (no_way e)
  step_heavy f c lc ih (Link p) b r e = let l = ih p r e in let m = ap weight b in omega (arith, l, m)
  step_heavy f c lc ih (Built h x y) b r e = let l = step_heavier f c lc ih h x y b r e in omega (arith, l)

  heavy_go : (f : ℕ → Bool) (c : ℕ) → c < n → ((j : ℕ) → j < n → f j ≡ true → weight (v a) ≤ weight (v j)) → (t : Bool) → (a == c) ≡ t → cond t true (among f (w c)) ≡ true → weight (v a) ≤ weight (v c)
  heavy_go f c lc ih true q e = let m = ap (λ (i : ℕ). weight (v i)) (eqb-true a c q) in omega (arith, m)
  heavy_go f c lc ih false q e = step_heavy f c lc ih (w c) (hv c lc).1 (refers c lc) e

  pub heavy : (m c : ℕ) → c < n → occurs w m a c ≡ true → weight (v a) ≤ weight (v c)
  heavy zero c lc e = absurd (no_way e)
  heavy (suc m) c lc e = heavy_go (occurs w m a) c lc (heavy m) (a == c) refl e

  heavier_go : (f : ℕ → Bool) (c : ℕ) → c < n → ((j : ℕ) → j < n → f j ≡ true → weight (v a) ≤ weight (v j)) → (t : Bool) → (a == c) ≡ t → (a ≢ c)
      → (s : Cell) → ((p : ℕ) → s ≢ Link p) → Says v c s → Refers n s → cond t true (among f s) ≡ true → weight (v a) < weight (v c)
  heavier_go f c lc ih true q ne s nl b r e = absurd (ne (eqb-true a c q))
  heavier_go f c lc ih false q ne Open nl b r e = absurd (no_way e)
  heavier_go f c lc ih false q ne (Link p) nl b r e = absurd (nl p refl)
  heavier_go f c lc ih false q ne (Built h x y) nl b r e = step_heavier f c lc ih h x y b r e

  pub heavier : (m c : ℕ) → c < n → (a ≢ c) → ((p : ℕ) → w c ≢ Link p) → occurs w m a c ≡ true → weight (v a) < weight (v c)
  heavier zero c lc ne nl e = absurd (no_way e)
  heavier (suc m) c lc ne nl e = heavier_go (occurs w m a) c lc (heavy m) (a == c) refl ne (w c) nl (hv c lc).1 (refers c lc) e

module _ (cs : List Cell) (z : ℕ) (small : length cs ≤ z) (most : z ≤ 4096) where
  abbrev pub Sol : List Bind → Valuation → Type 0
  Sol bs v = Holds (length cs) (view cs bs) v

  abbrev pub unbound : List Bind → ℕ
  unbound bs = length (opens (length cs) (view cs bs))

  -- from the binds bs to ds, and just the solutions that P allows are kept
  pub record Went (bs : List Bind) (P : Valuation → Type 0) (ds : List Bind) : Type 0 where
    pub fine : Fine cs ds
    pub new : List Bind
    pub grows : ds ≡ bs ++ new
    pub onto : (v : Valuation) → Sol ds v → Sol bs v × P v
    pub from : (v : Valuation) → Sol bs v → P v → Sol ds v
    pub less : (ds ≡ bs) ⊎ (unbound ds < unbound bs)

  -- no solution would remain
  pub record Failed (bs : List Bind) (P : Valuation → Type 0) (f : SystemFault) (ds : List Bind) : Type 0 where
    pub new : List Bind
    pub grows : ds ≡ bs ++ new
    pub void : (v : Valuation) → Sol bs v → P v → ⊥
    pub told : (system_number f ≡ 12) ⊎ (system_number f ≡ 13)

  abbrev pub Ends : List Bind → (Valuation → Type 0) → Out → Type 0
  Ends bs P (held ds) = Went bs P ds
  Ends bs P (lost f ds) = Failed bs P f ds

  ends_swap : (bs : List Bind) (P Q : Valuation → Type 0) (o : Out) → ((v : Valuation) → Sol bs v → P v → Q v) → ((v : Valuation) → Sol bs v → Q v → P v) → Ends bs P o → Ends bs Q o
  ends_swap bs P Q (held ds) f g e = record {
    fine = e.fine;
    new = e.new;
    grows = e.grows;
    onto = λ v s. let r = e.onto v s in (r.0, f v r.0 r.1);
    from = λ v s q. e.from v s (g v s q);
    less = e.less;
  }
  ends_swap bs P Q (lost x ds) f g e = record { new = e.new; grows = e.grows; void = λ v s q. e.void v s (g v s q); told = e.told }

  stays : (bs : List Bind) (P : Valuation → Type 0) → Fine cs bs → ((v : Valuation) → Sol bs v → P v) → Went bs P bs
  stays bs P fine f = record { fine = fine; new = []; grows = sym (append-nil bs); onto = λ v s. (s, f v s); from = λ v s p. s; less = inl refl }

  -- one after the other
  after : (bs ds : List Bind) (P Q : Valuation → Type 0) (o : Out) → Went bs P ds → Ends ds Q o → Ends bs (λ v. P v × Q v) o
  after bs ds P Q (held es) p q = record {
    fine = q.fine;
    new = p.new ++ q.new;
    grows = q.grows ∙ ap (λ (x : List Bind). x ++ q.new) p.grows ∙ append_assoc bs p.new q.new;
    onto = λ v s. let r = q.onto v s in let t = p.onto v r.0 in (t.0, (t.1, r.1));
    from = λ v s h. q.from v (p.from v s h.0) h.1;
    less = go p.less q.less;
  }
    where
      go : (ds ≡ bs) ⊎ (unbound ds < unbound bs) → (es ≡ ds) ⊎ (unbound es < unbound ds) → (es ≡ bs) ⊎ (unbound es < unbound bs)
      go (inl a) (inl b) = inl (b ∙ a)
      go (inl a) (inr b) = inr (subst (λ (x : List Bind). unbound es < unbound x) a b)
      go (inr a) (inl b) = inr (subst (λ (x : List Bind). unbound x < unbound bs) (sym b) a)
      go (inr a) (inr b) = inr (omega (arith, a, b))
  after bs ds P Q (lost f es) p q = record {
    new = p.new ++ q.new;
    grows = q.grows ∙ ap (λ (x : List Bind). x ++ q.new) p.grows ∙ append_assoc bs p.new q.new;
    void = λ v s h. q.void v (p.from v s h.0) h.1;
    told = q.told;
  }

  failed_first : (bs ds : List Bind) (P Q : Valuation → Type 0) (f : SystemFault) → Failed bs P f ds → Failed bs (λ v. P v × Q v) f ds
  failed_first bs ds P Q f e = record { new = e.new; grows = e.grows; void = λ v s h. e.void v s h.0; told = e.told }

  -- a rank that is at most the number of cells
  abbrev pub ranked : (bs : List Bind) → Fine cs bs → ℕ → ℕ
  ranked bs fine = counted (length cs) fine.order

  pub ranked_most : (bs : List Bind) (fine : Fine cs bs) (c : ℕ) → ranked bs fine c ≤ length cs
  ranked_most bs fine c = many_most (length cs) (λ i. ltb (fine.order i) (fine.order c))

  refers_all : (bs : List Bind) (fine : Fine cs bs) (c : ℕ) → Lower (ranked bs fine) c (view cs bs c)
  refers_all bs fine c = go (nat_lt c (length cs)) refl
    where
      go : (t : Bool) → nat_lt c (length cs) ≡ t → Lower (ranked bs fine) c (view cs bs c)
      go true e = counted_lower (length cs) fine.order c (view cs bs c) (fine.refers c (ltb-true c (length cs) e)) (fine.falls c)
      go false e = subst (λ (s : Cell). Lower (ranked bs fine) c s) (sym (fine.beyond c (ltb-false c (length cs) e))) tt

  pub ranked_falls : (bs : List Bind) (fine : Fine cs bs) → Falls (view cs bs) (ranked bs fine)
  ranked_falls bs fine c = refers_all bs fine c

  -- a bind
  module _ (bs : List Bind) (fine : Fine cs bs) (a b : ℕ) (la : a < length cs) (lb : b < length cs) (loose : view cs bs a ≡ Open) (ne : a ≡ b → ⊥) (nl : (p : ℕ) → view cs bs b ≢ Link p) where
    abbrev ds : List Bind
    ds = bs ++ (bound_to a b ∷ [])

    here : view cs ds a ≡ Link b
    here = view_here cs bs a b loose

    else : (c : ℕ) → (c ≢ a) → view cs ds c ≡ view cs bs c
    else c n = view_else cs bs a b c n

    fewer : unbound ds + 1 ≡ unbound bs
    fewer = opens_less (length cs) (view cs bs) (view cs ds) a b la loose here else

    longer : length ds ≡ length bs + 1
    longer = length-append bs (bound_to a b ∷ [])

    bind_fine : above (view cs bs) (ranked bs fine) (ranked_falls bs fine) a b ≡ false → Fine cs ds
    bind_fine e = record {
      refers = λ c lc.
          ⊎_elim
          (λ (q : c ≡ a). subst (λ (i : ℕ). Refers (length cs) (view cs ds i)) (sym q) (subst (λ (s : Cell). Refers (length cs) s) (sym here) lb))
          (λ (q : c ≡ a → ⊥). subst (λ (s : Cell). Refers (length cs) s) (sym (else c q)) (fine.refers c lc))
          (cases_eq c a);
      beyond = λ c l. else c (λ q. let y : ⊥ = omega (arith, q, la, l) in y) ∙ fine.beyond c l;
      order = raised (view cs bs) (ranked bs fine) (ranked_falls bs fine) a b;
      falls = raised_falls (view cs bs) (ranked bs fine) (ranked_falls bs fine) a b (view cs ds) here else e;
      room = omega (arith, fine.room, fewer, longer);
    }

    bind_onto : (v : Valuation) → Sol ds v → Sol bs v × (v a ≡ v b)
    bind_onto v s = (
      λ c lc.
          ⊎_elim
          (λ (q : c ≡ a). ((s c lc).0, subst (λ (i : ℕ). Says v i (view cs bs i)) (sym q) (subst (λ (x : Cell). Says v a x) (sym loose) tt)))
          (λ (q : c ≡ a → ⊥). ((s c lc).0, subst (λ (x : Cell). Says v c x) (else c q) (s c lc).1))
          (cases_eq c a),
      subst (λ (x : Cell). Says v a x) here (s a la).1,
    )

    bind_from : (v : Valuation) → Sol bs v → v a ≡ v b → Sol ds v
    bind_from v s e c lc =
        ⊎_elim
        (λ (q : c ≡ a). ((s c lc).0, subst (λ (i : ℕ). Says v i (view cs ds i)) (sym q) (subst (λ (x : Cell). Says v a x) (sym here) e)))
        (λ (q : c ≡ a → ⊥). ((s c lc).0, subst (λ (x : Cell). Says v c x) (sym (else c q)) (s c lc).1))
        (cases_eq c a)

    bind_went : above (view cs bs) (ranked bs fine) (ranked_falls bs fine) a b ≡ false → Went bs (λ v. v a ≡ v b) ds
    bind_went e = record { fine = bind_fine e; new = bound_to a b ∷ []; grows = refl; onto = bind_onto; from = bind_from; less = inr (omega (arith, fewer)) }

    bind_failed : occurs (view cs bs) (z + 1) a b ≡ true → Failed bs (λ v. v a ≡ v b) Cyclic bs
    bind_failed e = record {
      new = [];
      grows = sym (append-nil bs);
      void = λ v s q. let l = heavier (length cs) (view cs bs) fine.refers v s a (z + 1) b lb ne nl e in let m = ap weight q in let y : ⊥ = omega (arith, l, m) in y;
      told = inr refl;
    }

    enough : occurs (view cs bs) (z + 1) a b ≡ above (view cs bs) (ranked bs fine) (ranked_falls bs fine) a b
    enough = occurs_stable (view cs bs) (ranked bs fine) (ranked_falls bs fine) a (z + 1) (suc (ranked bs fine b)) b (omega (arith, ranked_most bs fine b, small)) (omega arith)

    bind_go : (t u : Bool) → occurs (view cs bs) (z + 1) a b ≡ t → nat_lt (length bs) z ≡ u → Ends bs (λ v. v a ≡ v b) (cond t (lost Cyclic bs) (cond u (held ds) (lost NoCells bs)))
    bind_go true u e f = bind_failed e
    bind_go false true e f = bind_went (sym enough ∙ e)
    bind_go false false e f = absurd (no_way (sym f ∙ lt-ltb (length bs) z (omega (arith, fine.room, fewer, small))))

    pub bind_ends : Ends bs (λ v. v a ≡ v b) (bind cs z a b bs)
    bind_ends = bind_go (occurs (view cs bs) (z + 1) a b) (nat_lt (length bs) z) refl refl

  -- the induction
  abbrev Works : (ℕ → ℕ → List Bind → Out) → ℕ → Type 0
  Works f m =
      (bs : List Bind) (a b : ℕ) (k : ℕ → ℕ) → Fine cs bs → Falls (view cs bs) k → ((c : ℕ) → k c ≤ 4096) → a < length cs → b < length cs
      → 8194 * unbound bs + (k a + k b) < m → Ends bs (λ v. v a ≡ v b) (f a b bs)

  module _ (f : ℕ → ℕ → List Bind → Out) (m : ℕ) (ih : Works f m) where
    -- the first pair of children, where there is one
    first_ends : (t : Bool) (bs : List Bind) (x p : ℕ) (k : ℕ → ℕ) → Fine cs bs → Falls (view cs bs) k → ((c : ℕ) → k c ≤ 4096) → (t ≡ true → x < length cs) → (t ≡ true → p < length cs)
        → (t ≡ true → 8194 * unbound bs + (k x + k p) < m) → Ends bs (λ v. t ≡ true → v x ≡ v p) (cond t (f x p bs) (held bs))
    first_ends true bs x p k fine falls bnd lx lp lt =
        ends_swap bs (λ v. v x ≡ v p) (λ v. true ≡ true → v x ≡ v p) (f x p bs) (λ v s e u. e) (λ v s g. g refl) (ih bs x p k fine falls bnd (lx refl) (lp refl) (lt refl))
    first_ends false bs x p k fine falls bnd lx lp lt = stays bs (λ v. false ≡ true → v x ≡ v p) fine (λ v s e. absurd (no_way e))

    -- and the second, from where the first led
    module _ (h : Head) (bs : List Bind) (x y p q : ℕ) (k : ℕ → ℕ) (fine : Fine cs bs) (falls : Falls (view cs bs) k) (bnd : (c : ℕ) → k c ≤ 4096)
        (lx : has_first h ≡ true → x < length cs) (lp : has_first h ≡ true → p < length cs) (ly : has_second h ≡ true → y < length cs) (lq : has_second h ≡ true → q < length cs)
        (ltx : has_first h ≡ true → 8194 * unbound bs + (k x + k p) < m) (lty : has_second h ≡ true → 8194 * unbound bs + (k y + k q) < m) where
      abbrev One : Valuation → Type 0
      One v = has_first h ≡ true → v x ≡ v p

      abbrev Two : Valuation → Type 0
      Two v = has_second h ≡ true → v y ≡ v q

      second_ends : (ds : List Bind) → Went bs One ds → (ds ≡ bs) ⊎ (unbound ds < unbound bs) → Ends ds Two (cond (has_second h) (f y q ds) (held ds))
      second_ends ds w (inl e) =
          first_ends (has_second h) ds y q k w.fine (subst (λ (i : List Bind). Falls (view cs i) k) (sym e) falls) bnd ly lq
          (λ t. subst (λ (i : List Bind). 8194 * unbound i + (k y + k q) < m) (sym e) (lty t))
      second_ends ds w (inr l) =
          first_ends (has_second h) ds y q (ranked ds w.fine) w.fine (ranked_falls ds w.fine) (λ c. omega (arith, ranked_most ds w.fine c, small, most)) ly lq
          (λ t. omega (arith, ranked_most ds w.fine y, ranked_most ds w.fine q, small, most, l, lty t))

      joint : (o : Out) → Ends bs One o → Ends bs (λ v. One v × Two v) (then o (λ ds. cond (has_second h) (f y q ds) (held ds)))
      joint (held ds) e = after bs ds One Two (cond (has_second h) (f y q ds) (held ds)) e (second_ends ds e e.less)
      joint (lost x ds) e = failed_first bs ds One Two x e

      pub children_ends : Ends bs (λ v. One v × Two v) (children f h x y p q bs)
      children_ends = joint (cond (has_first h) (f x p bs) (held bs)) (first_ends (has_first h) bs x p k fine falls bnd lx lp ltx)

    -- two heads
    module _ (bs : List Bind) (a b : ℕ) (k : ℕ → ℕ) (fine : Fine cs bs) (falls : Falls (view cs bs) k) (bnd : (c : ℕ) → k c ≤ 4096) (la : a < length cs) (lb : b < length cs)
        (lt : 8194 * unbound bs + (k a + k b) < suc m) (ne : a ≡ b → ⊥) where
      heads_apart : (h g : Head) (x y p q : ℕ) → view cs bs a ≡ Built h x y → view cs bs b ≡ Built g p q → (head_number h ≢ head_number g) → Failed bs (λ v. v a ≡ v b) Clash bs
      heads_apart h g x y p q ea eb na =
          let ra = subst (λ (s : Cell). Refers (length cs) s) ea (fine.refers a la) in
          let rb = subst (λ (s : Cell). Refers (length cs) s) eb (fine.refers b lb) in
          record {
            new = [];
            grows = sym (append-nil bs);
            void = λ v s e.
                na (sym (builds_shows h (v x) (v y) (v a) ra.0 (subst (λ (u : Cell). Says v a u) ea (s a la).1))
                ∙ ap (λ (u : Value). shows (as_ty u)) e
                ∙ builds_shows g (v p) (v q) (v b) rb.0 (subst (λ (u : Cell). Says v b u) eb (s b lb).1));
            told = inl refl;
          }

      heads_one : (h : Head) (x y p q : ℕ) → view cs bs a ≡ Built h x y → view cs bs b ≡ Built h p q → Ends bs (λ v. v a ≡ v b) (children f h x y p q bs)
      heads_one h x y p q ea eb =
          let ra = subst (λ (s : Cell). Refers (length cs) s) ea (fine.refers a la) in
          let rb = subst (λ (s : Cell). Refers (length cs) s) eb (fine.refers b lb) in
          let fa = subst (λ (s : Cell). Lower k a s) ea (falls a) in
          let fb = subst (λ (s : Cell). Lower k b s) eb (falls b) in
          let ba : (v : Valuation) → Sol bs v → Builds h 0 (v x) (v y) (v a) = λ v s. subst (λ (u : Cell). Says v a u) ea (s a la).1 in
          let bb : (v : Valuation) → Sol bs v → Builds h 0 (v p) (v q) (v b) = λ v s. subst (λ (u : Cell). Says v b u) eb (s b lb).1 in
          ends_swap bs (λ v. (has_first h ≡ true → v x ≡ v p) × (has_second h ≡ true → v y ≡ v q)) (λ v. v a ≡ v b) (children f h x y p q bs)
          (λ v s e. builds_one h 0 (v p) (v q) (v a) (v b) (builds_swap h 0 (v x) (v y) (v p) (v q) (v a) e.0 e.1 (ba v s)) (bb v s))
          (λ v s e.
          let bc : Builds h 0 (v p) (v q) (v a) = subst (λ (u : Value). Builds h 0 (v p) (v q) u) (sym e) (bb v s) in (
            λ t. builds_first h 0 (v x) (v y) (v p) (v q) (v a) t (ba v s) bc,
            λ t. builds_second h 0 (v x) (v y) (v p) (v q) (v a) t (apt h 0 (v y) ra.0) (apt h 0 (v q) ra.0) (ba v s) bc,
          ))
          (children_ends h bs x y p q k fine falls bnd ra.1 rb.1 ra.2 rb.2
          (λ t. omega (arith, fa.0 t, fb.0 t, lt)) (λ t. omega (arith, fa.1 t, fb.1 t, lt)))

      heads_go : (h g : Head) (x y p q : ℕ) → view cs bs a ≡ Built h x y → view cs bs b ≡ Built g p q → (t : Bool) → (head_number h == head_number g) ≡ t
          → Ends bs (λ v. v a ≡ v b) (cond t (children f h x y p q bs) (lost Clash bs))
      heads_go h g x y p q ea eb true e =
          let ra = subst (λ (s : Cell). Refers (length cs) s) ea (fine.refers a la) in
          let rb = subst (λ (s : Cell). Refers (length cs) s) eb (fine.refers b lb) in
          heads_one h x y p q ea (subst (λ (i : Head). view cs bs b ≡ Built i p q) (sym (one_head h g ra.0 rb.0 (eqb-true (head_number h) (head_number g) e))) eb)
      heads_go h g x y p q ea eb false e = heads_apart h g x y p q ea eb (eqb-false (head_number h) (head_number g) e)

      second_link : (q : ℕ) → view cs bs b ≡ Link q → Ends bs (λ v. v a ≡ v b) (f a q bs)
      second_link q eb =
          let rb = subst (λ (s : Cell). Refers (length cs) s) eb (fine.refers b lb) in
          let fb = subst (λ (s : Cell). Lower k b s) eb (falls b) in
          let sb : (v : Valuation) → Sol bs v → v b ≡ v q = λ v s. subst (λ (x : Cell). Says v b x) eb (s b lb).1 in
          ends_swap bs (λ v. v a ≡ v q) (λ v. v a ≡ v b) (f a q bs) (λ v s e. e ∙ sym (sb v s)) (λ v s e. e ∙ sb v s)
          (ih bs a q k fine falls bnd la rb (omega (arith, fb, lt)))

      meet_ends : (s u : Cell) → view cs bs a ≡ s → view cs bs b ≡ u → Ends bs (λ v. v a ≡ v b) (meet f cs z a b bs s u)
      meet_ends (Link p) u ea eb =
          let ra = subst (λ (s : Cell). Refers (length cs) s) ea (fine.refers a la) in
          let fa = subst (λ (s : Cell). Lower k a s) ea (falls a) in
          let sa : (v : Valuation) → Sol bs v → v a ≡ v p = λ v s. subst (λ (x : Cell). Says v a x) ea (s a la).1 in
          ends_swap bs (λ v. v p ≡ v b) (λ v. v a ≡ v b) (f p b bs) (λ v s e. sa v s ∙ e) (λ v s e. sym (sa v s) ∙ e)
          (ih bs p b k fine falls bnd ra lb (omega (arith, fa, lt)))
      meet_ends Open (Link q) ea eb = second_link q eb
      meet_ends Open Open ea eb = bind_ends bs fine a b la lb ea ne (λ p e. open_link p (sym eb ∙ e))
      meet_ends Open (Built h x y) ea eb = bind_ends bs fine a b la lb ea ne (λ p e. built_link h x y p (sym eb ∙ e))
      meet_ends (Built h x y) (Link q) ea eb = second_link q eb
      meet_ends (Built h x y) Open ea eb =
          ends_swap bs (λ v. v b ≡ v a) (λ v. v a ≡ v b) (bind cs z b a bs) (λ v s e. sym e) (λ v s e. sym e)
          (bind_ends bs fine b a lb la eb (λ e. ne (sym e)) (λ p e. built_link h x y p (sym ea ∙ e)))
      meet_ends (Built h x y) (Built g p q) ea eb = heads_go h g x y p q ea eb (head_number h == head_number g) refl

  choose : (bs : List Bind) (a b : ℕ) (o : Out) → Fine cs bs → ((a ≢ b) → Ends bs (λ v. v a ≡ v b) o) → (t : Bool) → (a == b) ≡ t → Ends bs (λ v. v a ≡ v b) (cond t (held bs) o)
  choose bs a b o fine f true e = stays bs (λ v. v a ≡ v b) fine (λ v s. ap v (eqb-true a b e))
  choose bs a b o fine f false e = f (eqb-false a b e)

  works : (m : ℕ) → Works (unify cs z m) m
  works zero bs a b k fine falls bnd la lb lt = absurd (let y : ⊥ = omega arith in y)
  works (suc m) bs a b k fine falls bnd la lb lt =
      choose bs a b (meet (unify cs z m) cs z a b bs (view cs bs a) (view cs bs b)) fine
      (λ ne. meet_ends (unify cs z m) m (works m) bs a b k fine falls bnd la lb lt ne (view cs bs a) (view cs bs b) refl refl) (a == b) refl

  -- more steps than any unification of the cells takes
  pub unified : (m : ℕ) (bs : List Bind) (a b : ℕ) → Fine cs bs → a < length cs → b < length cs → 40000000 ≤ m → Ends bs (λ v. v a ≡ v b) (unify cs z m a b bs)
  unified m bs a b fine la lb lt =
      works m bs a b (ranked bs fine) fine (ranked_falls bs fine) (λ c. omega (arith, ranked_most bs fine c, small, most)) la lb
      (omega (arith, ranked_most bs fine a, ranked_most bs fine b, small, most, opens_most (length cs) (view cs bs), lt))
