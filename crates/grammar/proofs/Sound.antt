-- What the reader accepts, the grammar says, with the limits kept.
use Rattle.std.proofs.Common.{◌≡◌, ℕ, zero, suc, ◌+◌, ◌-◌, ◌<◌, ◌≤◌, cond, ltb, List, [], ◌∷◌, length, Ok, Err, sym, subst, arith}
use Rattle.std.proofs.lemmas.Bool.{ltb-true}
use Rattle.ground.specs.declared.place.Place.{Place}
use Rattle.ground.specs.Names.{Name}
use Rattle.ground.specs.Forms.{Form}
use Rattle.words.specs.Leaves.{leaf_of}
use Rattle.words.specs.declared.keyword.Keyword.{Keyword}
use Rattle.script.specs.declared.part.Part.{Part}
use Rattle.script.specs.declared.part.Part.TheVariants.{Binder, Label, Sub, Body}
use Rattle.script.specs.declared.fault.Reason.TheVariants.{TooManyForms}
use Rattle.script.specs.Faults.{fault, span, Out}
use Rattle.script.specs.Tokens.{Token, opening, closing, word, ending, first, behind}
use Rattle.script.specs.Nodes.{nodes}
use Rattle.script.specs.Parts.{parts_of, Pieces}
use Rattle.script.specs.Reads.{Setting, Reads, then, binder_at, label_at, keyword_at, close_at, leaf_form, parts_at, bracketed, reads}
use Rattle.grammar.specs.Grammar.{strict, Says, by_word, in_brackets, Behind, no_more, binder, label, sub, body, deep}
use Rattle.grammar.proofs.Outs.{err_ok, same_ok, then_ok, cond_ok}
use Rattle.grammar.proofs.Sizes.{deepest, sizes, sizes_more, made_size}
use Rattle.grammar.proofs.Pieced.{with_form_left, form, others, form_and_others, inside, shut}
use Rattle.grammar.proofs.Taken.{IsKeyword, close_ok, binder_ok, label_ok, keyword_ok, leaf_ok}

module _ (S : Setting) (stop : ℕ) where
  -- a form was read, with d brackets allowed and n forms begun before it
  pub record Right (d : ℕ) (ns : List Name) (n : ℕ) (ts : List Token) (x : Form × List Token) : Type 0 where
    pub says : Says (strict S) ns ts x.0 x.1
    pub nests : deep x.0 ≤ d
    pub few : n + length (nodes x.0) ≤ 512

  -- and so the parts of a bracketed form
  pub record RightParts (d : ℕ) (ns : List Name) (n : ℕ) (ps : List Part) (b : Name) (l : ℕ) (ts : List Token) (y : Pieces × List Token) : Type 0 where
    pub says : Behind (strict S) ns ps b l ts y.0 y.1
    pub nests : deepest y.0.forms ≤ d
    pub few : n + sizes y.0.forms ≤ 512

  -- whatever is read so, is right
  abbrev pub RightReads : ℕ → Reads → Type 0
  RightReads d rd = (ns : List Name) (n : ℕ) (ts : List Token) (x : Form × List Token) → rd ns n ts ≡ Ok x → Right d ns n ts x

  pub parts_right :
      (d : ℕ) (rd : Reads)
      → RightReads d rd
      → (ps : List Part) (ns : List Name) (n : ℕ) (b : Name) (l : ℕ) (ts : List Token) (y : Pieces × List Token)
      → n ≤ 512
      → parts_at S stop rd d ns n ps b l ts ≡ Ok y
      → RightParts d ns n ps b l ts y
  parts_right d rd h [] ns n b l ts y le e =
      subst (λ (z : Pieces × List Token). RightParts d ns n [] b l ts z) (same_ok _ y e)
      (record { says = no_more; nests = omega arith; few = omega arith })
  parts_right d rd h (Binder ∷ ps) ns n b l ts y le e =
      let next : Name × List Token → Out (Pieces × List Token) = λ x. parts_at S stop rd d ns n ps x.0 l x.1 in
      let (x, o, k) = then_ok (binder_at d (first stop ts) (behind ts)) next y e in
      let i = binder_ok stop d ts x o in
      let r = parts_right d rd h ps ns n x.0 l x.1 y le k in
      record {
        says =
            subst (λ (us : List Token). Behind (strict S) ns (Binder ∷ ps) b l us y.0 y.1) (sym i.is)
            (binder i.good r.says);
        nests = r.nests;
        few = r.few;
      }
  parts_right d rd h (Label ∷ ps) ns n b l ts y le e =
      let next : ℕ × List Token → Out (Pieces × List Token) = λ x. parts_at S stop rd d ns n ps b x.0 x.1 in
      let (x, o, k) = then_ok (label_at S.sheet d (first stop ts) (behind ts)) next y e in
      let i = label_ok stop d S.sheet ts x o in
      let r = parts_right d rd h ps ns n b x.0 x.1 y le k in
      record {
        says =
            subst (λ (us : List Token). Behind (strict S) ns (Label ∷ ps) b l us y.0 y.1) (sym i.is)
            (label i.good i.found r.says);
        nests = r.nests;
        few = r.few;
      }
  parts_right d rd h (Sub ∷ ps) ns n b l ts y le e =
      let (x, o, k) = then_ok (rd ns n ts) (form_and_others S stop rd d ps ns n b l) y e in
      let (z, o', k') = then_ok (others S stop rd d ps ns n b l x) (λ (z : Pieces × List Token). Ok (with_form_left x.0 z)) y k in
      let r = h ns n ts x o in
      let s = parts_right d rd h ps ns (n + length (nodes x.0)) b l x.1 z r.few o' in
      subst (λ (v : Pieces × List Token). RightParts d ns n (Sub ∷ ps) b l ts v) (same_ok (with_form_left x.0 z) y k')
      (record { says = sub r.says s.says; nests = omega arith; few = omega (arith, sizes_more x.0 z.0.forms) })
  parts_right d rd h (Body ∷ ps) ns n b l ts y le e =
      let (x, o, k) = then_ok (rd (b ∷ ns) n ts) (form_and_others S stop rd d ps ns n b l) y e in
      let (z, o', k') = then_ok (others S stop rd d ps ns n b l x) (λ (z : Pieces × List Token). Ok (with_form_left x.0 z)) y k in
      let r = h (b ∷ ns) n ts x o in
      let s = parts_right d rd h ps ns (n + length (nodes x.0)) b l x.1 z r.few o' in
      subst (λ (v : Pieces × List Token). RightParts d ns n (Body ∷ ps) b l ts v) (same_ok (with_form_left x.0 z) y k')
      (record { says = body r.says s.says; nests = omega arith; few = omega (arith, sizes_more x.0 z.0.forms) })

  form_right :
      (d : ℕ) (ns : List Name) (n i : ℕ) (ts : List Token) (k : Keyword × List Token) (q : Pieces × List Token) (c : ℕ × List Token)
      → n < 512
      → IsKeyword S.records ts k
      → RightParts d ns (n + 1) (parts_of k.0) [] 0 k.1 q
      → q.1 ≡ closing c.0 ∷ c.1
      → Right (suc d) ns n (opening i ∷ ts) (form i k q c)
  form_right d ns n i ts k q c lt w r e =
      let z = made_size k.0 (span i (c.0 + 1 - i)) r.says in
      let b = subst (λ (us : List Token). Behind (strict S) ns (parts_of k.0) [] 0 k.1 q.0 us) e r.says in
      let says = in_brackets {i = i} {p = w.place} c.0 k.0 q.0 w.good b in
      record {
        says = subst (λ (us : List Token). Says (strict S) ns (opening i ∷ us) (form i k q c).0 c.1) (sym w.is) says;
        nests = omega arith;
        few = omega arith;
      }

  bracketed_right :
      (d : ℕ) (rd : Reads)
      → RightReads d rd
      → (ns : List Name) (n i : ℕ) (ts : List Token) (x : Form × List Token)
      → n < 512
      → bracketed S stop rd d ns n i ts ≡ Ok x
      → Right (suc d) ns n (opening i ∷ ts) x
  bracketed_right d rd h ns n i ts x lt e =
      let next : Keyword × List Token → Out (Form × List Token) = λ k. then (inside S stop rd d ns n k) (shut S stop rd d i k) in
      let (k, o, e₁) = then_ok (keyword_at S.records d (first stop ts) (behind ts)) next x e in
      let (q, o₁, e₂) = then_ok (inside S stop rd d ns n k) (shut S stop rd d i k) x e₁ in
      let (c, o₂, e₃) = then_ok (close_at d (first stop q.1) (behind q.1)) (λ (c : ℕ × List Token). Ok (form i k q c)) x e₂ in
      let r = parts_right d rd h (parts_of k.0) ns (n + 1) [] 0 k.1 q (omega arith) o₁ in
      subst (λ (v : Form × List Token). Right (suc d) ns n (opening i ∷ ts) v) {x = form i k q c} (same_ok (form i k q c) x e₃)
      (form_right d ns n i ts k q c lt (keyword_ok stop d S.records ts k o) r (close_ok stop d q.1 c o₂))

  word_right :
      (d : ℕ) (ns : List Name) (n : ℕ) (p : Place) (w : List ℕ) (ts : List Token) (x : Form × List Token)
      → cond (ltb n 512) (then (leaf_form ns p w (leaf_of w)) (λ f. Ok (f, ts))) (Err (fault TooManyForms (span p.start 1))) ≡ Ok x
      → Right d ns n (word p w ∷ ts) x
  word_right d ns n p w ts x e =
      let c = cond_ok (ltb n 512) (then (leaf_form ns p w (leaf_of w)) (λ f. Ok (f, ts))) _ x e in
      let (f, o, k) = then_ok (leaf_form ns p w (leaf_of w)) (λ (f : Form). Ok (f, ts)) x c.1 in
      let l = leaf_ok S ns p w f o in
      let lt = ltb-true n 512 c.0 in
      subst (λ (v : Form × List Token). Right d ns n (word p w ∷ ts) v) (same_ok (f, ts) x k)
      (record { says = by_word l.says; nests = omega arith; few = omega arith })

  pub reads_right : (d : ℕ) → RightReads d (reads S stop d)
  reads_right zero ns n [] x e = absurd (err_ok _ x e)
  reads_right zero ns n (opening i ∷ ts) x e = absurd (err_ok _ x e)
  reads_right zero ns n (closing i ∷ ts) x e = absurd (err_ok _ x e)
  reads_right zero ns n (word p w ∷ ts) x e = word_right zero ns n p w ts x e
  reads_right zero ns n (ending k ∷ ts) x e = absurd (err_ok _ x e)
  reads_right (suc d) ns n [] x e = absurd (err_ok _ x e)
  reads_right (suc d) ns n (opening i ∷ ts) x e =
      let c = cond_ok (ltb n 512) (bracketed S stop (reads S stop d) d ns n i ts) (fault TooManyForms (span i 1)) x e in
      bracketed_right d (reads S stop d) (reads_right d) ns n i ts x (ltb-true n 512 c.0) c.1
  reads_right (suc d) ns n (closing i ∷ ts) x e = absurd (err_ok _ x e)
  reads_right (suc d) ns n (word p w ∷ ts) x e = word_right (suc d) ns n p w ts x e
  reads_right (suc d) ns n (ending k ∷ ts) x e = absurd (err_ok _ x e)
