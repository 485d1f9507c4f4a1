-- The reader goes the same way as the walk from token to token, to the same fault.
use Rattle.std.proofs.Common.{◌≡◌, ℕ, zero, suc, ◌+◌, ◌-◌, ◌<◌, Bool, true, false, cond, not, ◌&&◌, eqb, ltb, List, [], ◌∷◌, ◌++◌, length, Some, None, Ok, Err, Option, sym, refl, ap, ◌∙◌, arith, Result}
use Rattle.std.proofs.lemmas.Bool.{lt-ltb, le-ltb, ltb-true}
use Rattle.std.proofs.lemmas.Bool.Decides.{nat_tests}
use Rattle.ground.specs.declared.place.Place.{Place}
use Rattle.ground.specs.Names.{Name, named}
use Rattle.ground.specs.Forms.{Form, name}
use Rattle.words.specs.Spelling.{good_name}
use Rattle.words.specs.Sheets.{position}
use Rattle.words.specs.Keywords.{keyword_of, is_record_form}
use Rattle.words.specs.Leaves.{leaf_of}
use Rattle.words.specs.declared.keyword.Keyword.{Keyword}
use Rattle.words.specs.declared.leaf.Leaf.{Leaf}
use Rattle.words.specs.declared.leaf.Leaf.TheVariants.{Truth, Number as ANumber, Name as AName}
use Rattle.words.specs.declared.leaf.LeafFault.{LeafFault}
use Rattle.words.specs.declared.leaf.LeafFault.TheVariants.{TooLarge, Stray}
use Rattle.words.specs.declared.number.Number.TheVariants.{Whole, Tenths}
use Rattle.script.specs.declared.part.Part.{Part}
use Rattle.script.specs.declared.part.Part.TheVariants.{Binder, Label, Sub, Body}
use Rattle.script.specs.declared.fault.ReadFault.{ReadFault}
use Rattle.script.specs.declared.fault.Reason.TheVariants.{Unexpected, TooDeep, TooManyForms, UnboundName, NoRecords}
use Rattle.script.specs.Faults.{fault, span, Out}
use Rattle.script.specs.Tokens.{Token, opening, closing, word, ending, first, behind}
use Rattle.script.specs.Nodes.{nodes}
use Rattle.script.specs.Parts.{parts_of, Pieces}
use Rattle.script.specs.Reads.{Setting, Reads, then, wrong, binder_at, numbered, label_at, known, close_at, leaf_form, parts_at, bracketed, reads}
use Rattle.grammar.specs.Grammar.{strict}
use Rattle.grammar.specs.Walk.{Due, a_form, a_keyword, parts, State, state, stray_at, labelled_step, known_step, word_step, walk}
use Rattle.grammar.proofs.Sizes.{sizes, sizes_more, made_size}
use Rattle.grammar.proofs.Pieced.{with_form_left, form, others, form_and_others, inside, shut}
use Rattle.grammar.proofs.Sound.{RightReads, parts_right, reads_right}
use Rattle.grammar.proofs.Thens.{then_then, then_same, then_cond, then_on, then_off, then_not}

module _ (S : Setting) (stop : ℕ) where
  -- the walk from a state over the tokens and the end
  abbrev onward : List Token → State → Out State
  onward ts s = walk (strict S) s (ts ++ (ending stop ∷ []))

  abbrev goes : List Due → ℕ → ℕ → List Token → Out State
  goes σ o n ts = onward ts (state σ o n)

  -- how it goes on behind a form, and behind the parts of a bracketed form
  abbrev after_form : List Due → ℕ → ℕ → Form × List Token → Out State
  after_form σ o n x = goes σ o (n + length (nodes x.0)) x.1

  abbrev after_parts : List Name → List Due → ℕ → ℕ → Pieces × List Token → Out State
  after_parts ns σ o n y = goes (parts ns [] y.0.binder ∷ σ) o (n + sizes y.0.forms) y.1

  -- the walk goes as this way of reading a form does, inside o brackets
  abbrev WalksAs : ℕ → Reads → Type 0
  WalksAs o rd = (ns : List Name) (n : ℕ) (ts : List Token) (σ : List Due) → goes (a_form ns ∷ σ) o n ts ≡ then (rd ns n ts) (after_form σ o n)

  stray_wrong : (o d : ℕ) (i : ℕ) → o + d ≡ 32 → stray_at (strict S) o (opening i) ≡ wrong d (opening i)
  stray_wrong o d i h =
      let e : ltb o 32 ≡ not (eqb d 0) = grind (arith, nat_tests) in
      ap (λ v. cond v (fault Unexpected (span i 1)) (fault TooDeep (span i 1))) e
      ∙ turned (eqb d 0) (fault Unexpected (span i 1)) (fault TooDeep (span i 1))
    where
      turned : (v : Bool) (x y : ReadFault) → cond (not v) x y ≡ cond v y x
      turned true x y = refl
      turned false x y = refl

  close_walks :
      (o d : ℕ) (ns : List Name) (b : Name) (n : ℕ) (ts : List Token) (σ : List Due)
      → o + d ≡ 32
      → goes (parts ns [] b ∷ σ) o n ts ≡ then (close_at d (first stop ts) (behind ts)) (λ c. goes σ (o - 1) n c.1)
  close_walks o d ns b n [] σ h = refl
  close_walks o d ns b n (opening i ∷ ts) σ h = ap Err (stray_wrong o d i h)
  close_walks o d ns b n (closing i ∷ ts) σ h = refl
  close_walks o d ns b n (word p w ∷ ts) σ h = refl
  close_walks o d ns b n (ending k ∷ ts) σ h = refl

  sub_walks : (ns : List Name) (ps : List Part) (b : Name) (σ : List Due) (o n : ℕ) (ts : List Token)
      → goes (parts ns (Sub ∷ ps) b ∷ σ) o n ts ≡ goes (a_form ns ∷ (parts ns ps b ∷ σ)) o n ts
  sub_walks ns ps b σ o n [] = refl
  sub_walks ns ps b σ o n (t ∷ ts) = refl

  body_walks : (ns : List Name) (ps : List Part) (b : Name) (σ : List Due) (o n : ℕ) (ts : List Token)
      → goes (parts ns (Body ∷ ps) b ∷ σ) o n ts ≡ goes (a_form (b ∷ ns) ∷ (parts ns ps b ∷ σ)) o n ts
  body_walks ns ps b σ o n [] = refl
  body_walks ns ps b σ o n (t ∷ ts) = refl

  module _ (o d : ℕ) (rd : Reads) (h : o + d ≡ 32) (go : WalksAs o rd) where
    label_walks :
        (ps : List Part) (ns : List Name) (n : ℕ) (b : Name) (p : Place) (m : Option ℕ) (ts : List Token) (σ : List Due)
        → ((v : ℕ) → goes (parts ns ps b ∷ σ) o n ts ≡ then (parts_at S stop rd d ns n ps b v ts) (after_parts ns σ o n))
        → then (labelled_step (strict S) p m (state (parts ns ps b ∷ σ) o n)) (onward ts)
        ≡ then (numbered p m ts) (λ (x : ℕ × List Token). then (parts_at S stop rd d ns n ps b x.0 x.1) (after_parts ns σ o n))
    label_walks ps ns n b p None ts σ r = refl
    label_walks ps ns n b p (Some v) ts σ r = r v

    next_parts :
        (ps : List Part) (ns : List Name) (n : ℕ) (b : Name) (l : ℕ) (σ : List Due) (x : Form × List Token)
        → after_form (parts ns ps b ∷ σ) o n x
        ≡ then (others S stop rd d ps ns n b l x) (after_parts ns σ o (n + length (nodes x.0)))
        → after_form (parts ns ps b ∷ σ) o n x ≡ then (form_and_others S stop rd d ps ns n b l x) (after_parts ns σ o n)
    next_parts ps ns n b l σ x r =
        let rest = others S stop rd d ps ns n b l x in
        r
        ∙ then_same rest (after_parts ns σ o (n + length (nodes x.0))) (λ y. after_parts ns σ o n (with_form_left x.0 y)) (λ y e. counted y)
        ∙ sym (then_then rest (λ y. Ok (with_form_left x.0 y)) (after_parts ns σ o n))
      where
        counted : (y : Pieces × List Token) → after_parts ns σ o (n + length (nodes x.0)) y ≡ after_parts ns σ o n (with_form_left x.0 y)
        counted y =
            let z = sizes_more x.0 y.0.forms in
            let e : n + length (nodes x.0) + sizes y.0.forms ≡ n + sizes (x.0 ∷ y.0.forms) = omega arith in
            ap (λ (m : ℕ). goes (parts ns [] y.0.binder ∷ σ) o m y.1) e

    parts_walk :
        (ps : List Part) (ns : List Name) (n : ℕ) (b : Name) (l : ℕ) (ts : List Token) (σ : List Due)
        → goes (parts ns ps b ∷ σ) o n ts ≡ then (parts_at S stop rd d ns n ps b l ts) (after_parts ns σ o n)
    parts_walk [] ns n b l ts σ = let e : n ≡ n + 0 = omega arith in ap (λ (m : ℕ). goes (parts ns [] b ∷ σ) o m ts) e
    parts_walk (Binder ∷ ps) ns n b l [] σ = refl
    parts_walk (Binder ∷ ps) ns n b l (opening i ∷ ts) σ = ap Err (stray_wrong o d i h)
    parts_walk (Binder ∷ ps) ns n b l (closing i ∷ ts) σ = refl
    parts_walk (Binder ∷ ps) ns n b l (word p w ∷ ts) σ =
        let bound : Name × List Token → Out (Pieces × List Token) = λ x. parts_at S stop rd d ns n ps x.0 l x.1 in
        then_cond (good_name w) (Ok (state (parts ns ps w ∷ σ) o n)) (Ok (w, ts)) (fault Unexpected p) (onward ts)
        (λ x. then (bound x) (after_parts ns σ o n)) (λ e. parts_walk ps ns n w l ts σ)
        ∙ sym (then_then (binder_at d (word p w) ts) bound (after_parts ns σ o n))
    parts_walk (Binder ∷ ps) ns n b l (ending k ∷ ts) σ = refl
    parts_walk (Label ∷ ps) ns n b l [] σ = refl
    parts_walk (Label ∷ ps) ns n b l (opening i ∷ ts) σ = ap Err (stray_wrong o d i h)
    parts_walk (Label ∷ ps) ns n b l (closing i ∷ ts) σ = refl
    parts_walk (Label ∷ ps) ns n b l (word p w ∷ ts) σ =
        let labelled : ℕ × List Token → Out (Pieces × List Token) = λ x. parts_at S stop rd d ns n ps b x.0 x.1 in
        let m = position S.sheet w in
        then_cond (good_name w) (labelled_step (strict S) p m (state (parts ns ps b ∷ σ) o n)) (numbered p m ts) (fault Unexpected p) (onward ts)
        (λ x. then (labelled x) (after_parts ns σ o n)) (λ e. label_walks ps ns n b p m ts σ (λ v. parts_walk ps ns n b v ts σ))
        ∙ sym (then_then (label_at S.sheet d (word p w) ts) labelled (after_parts ns σ o n))
    parts_walk (Label ∷ ps) ns n b l (ending k ∷ ts) σ = refl
    parts_walk (Sub ∷ ps) ns n b l ts σ =
        let both = form_and_others S stop rd d ps ns n b l in
        sub_walks ns ps b σ o n ts
        ∙ go ns n ts (parts ns ps b ∷ σ)
        ∙ then_same (rd ns n ts) (after_form (parts ns ps b ∷ σ) o n) (λ x. then (both x) (after_parts ns σ o n))
        (λ x e. next_parts ps ns n b l σ x (parts_walk ps ns (n + length (nodes x.0)) b l x.1 σ))
        ∙ sym (then_then (rd ns n ts) both (after_parts ns σ o n))
    parts_walk (Body ∷ ps) ns n b l ts σ =
        let both = form_and_others S stop rd d ps ns n b l in
        body_walks ns ps b σ o n ts
        ∙ go (b ∷ ns) n ts (parts ns ps b ∷ σ)
        ∙ then_same (rd (b ∷ ns) n ts) (after_form (parts ns ps b ∷ σ) o n) (λ x. then (both x) (after_parts ns σ o n))
        (λ x e. next_parts ps ns n b l σ x (parts_walk ps ns (n + length (nodes x.0)) b l x.1 σ))
        ∙ sym (then_then (rd (b ∷ ns) n ts) both (after_parts ns σ o n))

    module _ (right : RightReads S stop d rd) where
      -- what a keyword and its tokens come to
      abbrev whole_form : List Name → ℕ → ℕ → Keyword × List Token → Out (Form × List Token)
      whole_form ns n i k = then (inside S stop rd d ns n k) (shut S stop rd d i k)

      shut_walks :
          (ns : List Name) (n i : ℕ) (σ : List Due) (k : Keyword × List Token) (q : Pieces × List Token)
          → n < 512
          → inside S stop rd d ns n k ≡ Ok q
          → after_parts ns σ o (n + 1) q ≡ then (shut S stop rd d i k q) (after_form σ (o - 1) n)
      shut_walks ns n i σ k q lt e =
          let close = close_at d (first stop q.1) (behind q.1) in
          let m = n + 1 + sizes q.0.forms in
          close_walks o d ns q.0.binder m q.1 σ h
          ∙ then_same close (λ c. goes σ (o - 1) m c.1) (λ c. after_form σ (o - 1) n (form i k q c)) (λ c e. counted c)
          ∙ sym (then_then close (λ c. Ok (form i k q c)) (after_form σ (o - 1) n))
        where
          counted : (c : ℕ × List Token) → goes σ (o - 1) (n + 1 + sizes q.0.forms) c.1 ≡ after_form σ (o - 1) n (form i k q c)
          counted c =
              let r = parts_right S stop d rd right (parts_of k.0) ns (n + 1) [] 0 k.1 q (omega arith) e in
              let z = (made_size k.0 (span i (c.0 + 1 - i)) r.says).0 in
              let s : n + 1 + sizes q.0.forms ≡ n + length (nodes (form i k q c).0) = omega arith in
              ap (λ (v : ℕ). goes σ (o - 1) v c.1) s

      inside_walks :
          (ns : List Name) (n i : ℕ) (σ : List Due) (k : Keyword × List Token)
          → n < 512
          → goes (parts ns (parts_of k.0) [] ∷ σ) o (n + 1) k.1 ≡ then (whole_form ns n i k) (after_form σ (o - 1) n)
      inside_walks ns n i σ k lt =
          let pieces = inside S stop rd d ns n k in
          parts_walk (parts_of k.0) ns (n + 1) [] 0 k.1 σ
          ∙ then_same pieces (after_parts ns σ o (n + 1)) (λ q. then (shut S stop rd d i k q) (after_form σ (o - 1) n))
          (λ q. shut_walks ns n i σ k q lt)
          ∙ sym (then_then pieces (shut S stop rd d i k) (after_form σ (o - 1) n))

      known_walks :
          (ns : List Name) (n i : ℕ) (σ : List Due) (p : Place) (m : Option Keyword) (ts : List Token)
          → n < 512
          → then (known_step (strict S) ns σ o (n + 1) p m) (onward ts)
          ≡ then (known S.records p m ts) (λ k. then (whole_form ns n i k) (after_form σ (o - 1) n))
      known_walks ns n i σ p None ts lt = refl
      known_walks ns n i σ p (Some k) ts lt =
          then_not (is_record_form k && not S.records) (Ok (state (parts ns (parts_of k) [] ∷ σ) o (n + 1))) (Ok (k, ts)) (fault NoRecords p)
          (onward ts) (λ k. then (whole_form ns n i k) (after_form σ (o - 1) n)) (inside_walks ns n i σ (k, ts) lt)

      bracketed_walks :
          (ns : List Name) (n i : ℕ) (ts : List Token) (σ : List Due)
          → n < 512
          → goes (a_keyword ns ∷ σ) o (n + 1) ts ≡ then (bracketed S stop rd d ns n i ts) (after_form σ (o - 1) n)
      bracketed_walks ns n i [] σ lt = refl
      bracketed_walks ns n i (opening j ∷ ts) σ lt = ap Err (stray_wrong o d j h)
      bracketed_walks ns n i (closing j ∷ ts) σ lt = refl
      bracketed_walks ns n i (word p w ∷ ts) σ lt =
          known_walks ns n i σ p (keyword_of w) ts lt
          ∙ sym (then_then (known S.records p (keyword_of w) ts) (whole_form ns n i) (after_form σ (o - 1) n))
      bracketed_walks ns n i (ending j ∷ ts) σ lt = refl

  leaf_walks :
      (o n : ℕ) (ns : List Name) (p : Place) (w : List ℕ) (l : Result Leaf LeafFault) (ts : List Token) (σ : List Due)
      → then (word_step (strict S) ns p w l (state σ o (n + 1))) (onward ts)
      ≡ then (then (leaf_form ns p w l) (λ f. Ok (f, ts))) (after_form σ o n)
  leaf_walks o n ns p w (Ok (Truth b)) ts σ = refl
  leaf_walks o n ns p w (Ok (ANumber (Whole z))) ts σ = refl
  leaf_walks o n ns p w (Ok (ANumber (Tenths z))) ts σ = refl
  leaf_walks o n ns p w (Err TooLarge) ts σ = refl
  leaf_walks o n ns p w (Ok AName) ts σ =
      then_cond (named ns w) (Ok (state σ o (n + 1))) (Ok (name p w)) (fault UnboundName p) (onward ts)
      (λ f. after_form σ o n (f, ts)) (λ e. refl)
      ∙ sym (then_then (cond (named ns w) (Ok (name p w)) (Err (fault UnboundName p))) (λ f. Ok (f, ts)) (after_form σ o n))
  leaf_walks o n ns p w (Err Stray) ts σ = refl

  word_walks :
      (o n : ℕ) (ns : List Name) (p : Place) (w : List ℕ) (ts : List Token) (σ : List Due)
      → goes (a_form ns ∷ σ) o n (word p w ∷ ts)
      ≡ then (cond (ltb n 512) (then (leaf_form ns p w (leaf_of w)) (λ f. Ok (f, ts))) (Err (fault TooManyForms (span p.start 1))))
      (after_form σ o n)
  word_walks o n ns p w ts σ =
      let l = leaf_of w in
      then_cond (ltb n 512) (word_step (strict S) ns p w l (state σ o (n + 1))) (then (leaf_form ns p w l) (λ f. Ok (f, ts)))
      (fault TooManyForms (span p.start 1)) (onward ts) (after_form σ o n) (λ e. leaf_walks o n ns p w l ts σ)

  -- with d brackets still allowed, inside o
  pub reads_walk : (d o : ℕ) → o + d ≡ 32 → WalksAs o (reads S stop d)
  reads_walk zero o h ns n [] σ = refl
  reads_walk zero o h ns n (opening i ∷ ts) σ =
      then_off (ltb o 32) (cond (ltb n 512) (Ok (state (a_keyword ns ∷ σ) (o + 1) (n + 1))) (Err (fault TooManyForms (span i 1))))
      (Err (fault TooDeep (span i 1))) (onward ts) (le-ltb o 32 (omega arith))
  reads_walk zero o h ns n (closing i ∷ ts) σ = refl
  reads_walk zero o h ns n (word p w ∷ ts) σ = word_walks o n ns p w ts σ
  reads_walk zero o h ns n (ending k ∷ ts) σ = refl
  reads_walk (suc d) o h ns n [] σ = refl
  reads_walk (suc d) o h ns n (opening i ∷ ts) σ =
      let h' : o + 1 + d ≡ 32 = omega arith in
      let back : o + 1 - 1 ≡ o = omega arith in
      let form = bracketed S stop (reads S stop d) d ns n i ts in
      let walks = bracketed_walks (o + 1) d (reads S stop d) h' (reads_walk d (o + 1) h') (reads_right S stop d) ns n i ts σ in
      let s = Ok (state (a_keyword ns ∷ σ) (o + 1) (n + 1)) in
      let many = fault TooManyForms (span i 1) in
      then_on (ltb o 32) (cond (ltb n 512) s (Err many)) (Err (fault TooDeep (span i 1))) (onward ts) (lt-ltb o 32 (omega arith))
      ∙ then_cond (ltb n 512) s form many (onward ts) (after_form σ o n)
      (λ e. walks (ltb-true n 512 e) ∙ ap (λ (v : ℕ). then form (after_form σ v n)) back)
  reads_walk (suc d) o h ns n (closing i ∷ ts) σ = refl
  reads_walk (suc d) o h ns n (word p w ∷ ts) σ = word_walks o n ns p w ts σ
  reads_walk (suc d) o h ns n (ending k ∷ ts) σ = refl
