-- Reading a form by its first token, and the parts behind a keyword by the first of them.
use Rattle.std.proofs.Common.{◌≡◌, ℕ, zero, suc, ◌+◌, ◌-◌, ◌<◌, ◌≤◌, true, false, cond, ltb, List, [], ◌∷◌, ◌++◌, length, get_or, take, drop, Ok, Err, vec_items, vec_len, Result, Vec, sym, refl, ap, ◌∙◌, subst, append_assoc, append-nil, arith}
use Rattle.std.proofs.lemmas.Bool.Decides.{nat_tests}
use Rattle.std.proofs.lemmas.List.{take_all, length-append}
use Rattle.ground.specs.declared.place.Place.{Place}
use Rattle.ground.specs.Names.{Name, pack}
use Rattle.ground.specs.Forms.{Form}
use Rattle.words.specs.Leaves.{leaf_of}
use Rattle.script.specs.declared.fault.ReadFault.{ReadFault}
use Rattle.script.specs.declared.fault.Reason.TheVariants.{TooManyForms, TooDeep}
use Rattle.script.specs.declared.node.Node.{Node}
use Rattle.script.specs.declared.part.Part.{Part}
use Rattle.script.specs.declared.part.Part.TheVariants.{Sub, Body}
use Rattle.script.specs.declared.seen.Seen.{Seen}
use Rattle.script.specs.Faults.{fault, span}
use Rattle.script.specs.Tokens.{Token, opening, word, first, behind, rest}
use Rattle.script.specs.Nodes.{nodes, all_nodes}
use Rattle.script.specs.Reads.{Setting, Reads, then, leaf_form, with_form, parts_at, bracketed, form_at, reads}
use Rattle.script.specs.Came.{CameParts}

fits : (n : ℕ) → n < 512 → ltb n 512 ≡ true
fits n h = grind (arith, nat_tests)

full : (n : ℕ) → 512 ≤ n → ltb n 512 ≡ false
full n h = grind (arith, nat_tests)

module _ (S : Setting) (stop : ℕ) where
  -- with a bracket allowed
  some : (d : ℕ) (ns : List Name) (n : ℕ) (ts : List Token) → (d ≡ 0 → ⊥)
      → reads S stop d ns n ts ≡ form_at S stop true (reads S stop (d - 1)) (d - 1) ns n (first stop ts) (behind ts)
  some zero ns n ts h = elim (h refl) [ ]
  some (suc d) ns n ts h =
      let p : d ≡ suc d - 1 = omega arith in
      ap (λ k. form_at S stop true (reads S stop k) k ns n (first stop ts) (behind ts)) p

  pub at_open : (d : ℕ) (ns : List Name) (n : ℕ) (ts : List Token) (i : ℕ) → (d ≡ 0 → ⊥) → opening i ≡ first stop ts → n < 512
      → reads S stop d ns n ts ≡ bracketed S stop (reads S stop (d - 1)) (d - 1) ns n i (behind ts)
  at_open d ns n ts i ne e h =
      some d ns n ts ne
      ∙ ap (λ t. form_at S stop true (reads S stop (d - 1)) (d - 1) ns n t (behind ts)) (sym e)
      ∙ ap (λ b. cond b (bracketed S stop (reads S stop (d - 1)) (d - 1) ns n i (behind ts)) (Err (fault TooManyForms (span i 1)))) (fits n h)

  -- a word, whatever the depth
  worded : (d : ℕ) (ns : List Name) (n : ℕ) (ts : List Token) (p : Place) (w : List ℕ) → word p w ≡ first stop ts
      → reads S stop d ns n ts
      ≡ cond (ltb n 512) (then (leaf_form ns p w (leaf_of w)) (λ f. Ok (f, behind ts))) (Err (fault TooManyForms (span p.start 1)))
  worded zero ns n ts p w e = ap (λ t. form_at S stop false (λ ms k us. Err (fault TooDeep (span 0 0))) 0 ns n t (behind ts)) (sym e)
  worded (suc d) ns n ts p w e = ap (λ t. form_at S stop true (reads S stop d) d ns n t (behind ts)) (sym e)

  pub at_word : (d : ℕ) (ns : List Name) (n : ℕ) (ts : List Token) (p : Place) (w : List ℕ) → word p w ≡ first stop ts → n < 512
      → reads S stop d ns n ts ≡ then (leaf_form ns p w (leaf_of w)) (λ f. Ok (f, behind ts))
  at_word d ns n ts p w e h =
      worded d ns n ts p w e
      ∙ ap (λ b. cond b (then (leaf_form ns p w (leaf_of w)) (λ f. Ok (f, behind ts))) (Err (fault TooManyForms (span p.start 1)))) (fits n h)

  pub at_word_full : (d : ℕ) (ns : List Name) (n : ℕ) (ts : List Token) (p : Place) (w : List ℕ) → word p w ≡ first stop ts → 512 ≤ n
      → reads S stop d ns n ts ≡ Err (fault TooManyForms (span p.start 1))
  at_word_full d ns n ts p w e h =
      worded d ns n ts p w e
      ∙ ap (λ b. cond b (then (leaf_form ns p w (leaf_of w)) (λ f. Ok (f, behind ts))) (Err (fault TooManyForms (span p.start 1)))) (full n h)

absurd_length : (p : Part) (ps : List Part) → length (p ∷ ps) ≡ 0 → ⊥
absurd_length p ps z = omega (arith, z)

-- the first of a list of parts, and the others
pub parted : (ps : List Part) (d : Part) → (length ps ≡ 0 → ⊥) → ps ≡ get_or ps 0 d ∷ take (length ps - 1) (drop 1 ps)
parted [] d h = elim (h refl) [ ]
parted (p ∷ ps) d h = ap (λ qs. p ∷ qs) (sym (take_all (length (p ∷ ps) - 1) ps (omega arith)))

module _ (S : Setting) (stop : ℕ) (text : List ℕ) (rd : Reads) (d : ℕ) (ns : List Name) where
  pub none_due : (es : List Node) (n : ℕ) (ps : List Part) (b : Name) (l : ℕ) (x : Seen × ℕ) → length ps ≡ 0 → x.0.binder ≡ pack b → x.0.label ≡ l
      → CameParts text es es (Ok x) (parts_at S stop rd d ns n ps b l (rest text x.1))
  none_due es n [] b l x z e m = (record { binder = b; label = l; forms = [] }, refl, sym (append-nil es), e, m)
  none_due es n (p ∷ ps) b l x z e m = elim (absurd_length p ps z) [ ]

  -- a form, and what came of the later parts
  joined : (es xs : List Node) (n k : ℕ) (later : List Part) (b : Name) (l : ℕ) (us : List Token) (f : Form) (ms : List Node) (r : Result (Seen × ℕ) ReadFault)
      → ms ≡ es ++ nodes f
      → k ≡ n + length (nodes f)
      → CameParts text ms xs r (parts_at S stop rd d ns k later b l us)
      → CameParts text es xs r (then (parts_at S stop rd d ns (n + length (nodes f)) later b l us) (λ y. Ok (with_form f y.0, y.1)))
  joined es xs n k later b l us f ms (Ok x) em ek h =
      let o = ap (λ j. parts_at S stop rd d ns j later b l us) (sym ek) ∙ h.1 in (
        with_form f h.0,
        ap (λ y. then y (λ z. Ok (with_form f z.0, z.1))) o,
        h.2 ∙ ap (λ zs. zs ++ all_nodes h.0.forms) em ∙ append_assoc es (nodes f) (all_nodes h.0.forms),
        h.3,
        h.4,
      )
  joined es xs n k later b l us f ms (Err e) em ek h =
      ap (λ y. then y (λ z. Ok (with_form f z.0, z.1))) (ap (λ j. parts_at S stop rd d ns j later b l us) (sym ek) ∙ h)

  pub sub_due : (es xs : List Node) (n k : ℕ) (ps later : List Part) (b : Name) (l : ℕ) (ts us : List Token) (f : Form) (ms : List Node) (r : Result (Seen × ℕ) ReadFault)
      → ps ≡ Sub ∷ later
      → rd ns n ts ≡ Ok (f, us)
      → ms ≡ es ++ nodes f
      → k ≡ n + length (nodes f)
      → CameParts text ms xs r (parts_at S stop rd d ns k later b l us)
      → CameParts text es xs r (parts_at S stop rd d ns n ps b l ts)
  sub_due es xs n k ps later b l ts us f ms r e o em ek h =
      subst (CameParts text es xs r)
      (sym (ap (λ qs. parts_at S stop rd d ns n qs b l ts) e
      ∙ ap (λ x. then x (λ y. then (parts_at S stop rd d ns (n + length (nodes y.0)) later b l y.1) (λ z. Ok (with_form y.0 z.0, z.1)))) o))
      (joined es xs n k later b l us f ms r em ek h)

  pub body_due : (es xs : List Node) (n k : ℕ) (ps later : List Part) (b : Name) (l : ℕ) (ts us : List Token) (f : Form) (ms : List Node) (r : Result (Seen × ℕ) ReadFault)
      → ps ≡ Body ∷ later
      → rd (b ∷ ns) n ts ≡ Ok (f, us)
      → ms ≡ es ++ nodes f
      → k ≡ n + length (nodes f)
      → CameParts text ms xs r (parts_at S stop rd d ns k later b l us)
      → CameParts text es xs r (parts_at S stop rd d ns n ps b l ts)
  body_due es xs n k ps later b l ts us f ms r e o em ek h =
      subst (CameParts text es xs r)
      (sym (ap (λ qs. parts_at S stop rd d ns n qs b l ts) e
      ∙ ap (λ x. then x (λ y. then (parts_at S stop rd d ns (n + length (nodes y.0)) later b l y.1) (λ z. Ok (with_form y.0 z.0, z.1)))) o))
      (joined es xs n k later b l us f ms r em ek h)

-- the nodes of a form are counted
pub counted : {Z : Type 0} (v w : Vec Node Z) (f : Form) → vec_items w ≡ vec_items v ++ nodes f → vec_len w ≡ vec_len v + length (nodes f)
counted v w f e = w.ok.0 ∙ ap length e ∙ length-append (vec_items v) (nodes f) ∙ ap (λ k. k + length (nodes f)) (sym v.ok.0)
