-- What the grammar says with the limits kept, the reader accepts.
use Rattle.std.proofs.Common.{◌≡◌, ℕ, zero, suc, ◌+◌, ◌-◌, ◌<◌, ◌≤◌, true, not, ◌&&◌, ltb, List, [], ◌∷◌, length, Ok, Err, Option, refl, ap, ◌∙◌, arith}
use Rattle.std.proofs.lemmas.Bool.{lt-ltb, cond-true, cond-false, not-true, false≢true}
use Rattle.ground.specs.declared.place.Place.{Place}
use Rattle.ground.specs.Names.{Name, named}
use Rattle.ground.specs.Forms.{Form, name}
use Rattle.words.specs.Spelling.{good_name}
use Rattle.words.specs.Sheets.{position}
use Rattle.words.specs.Keywords.{spelling, is_record_form}
use Rattle.words.specs.Leaves.{leaf_of}
use Rattle.words.specs.declared.keyword.Keyword.{Keyword}
use Rattle.script.specs.declared.part.Part.{Part}
use Rattle.script.specs.declared.fault.Reason.TheVariants.{UnboundName, NoRecords}
use Rattle.script.specs.Faults.{fault, span}
use Rattle.script.specs.Tokens.{Token, closing, word, first, behind}
use Rattle.script.specs.Nodes.{nodes}
use Rattle.script.specs.Parts.{parts_of, Pieces, made}
use Rattle.script.specs.Reads.{Setting, Reads, wrong, binder_at, numbered, label_at, known, keyword_at, leaf_form, parts_at, bracketed, reads}
use Rattle.grammar.specs.Grammar.{Rules, strict, SaysWord, a_truth, a_whole, some_tenths, too_large, a_name, deep}
use Rattle.grammar.specs.Grammar.{Says, by_word, in_brackets, Behind, no_more, binder, label, sub, body}
use Rattle.grammar.proofs.Outs.{then_is}
use Rattle.grammar.proofs.Spelled.{spelling_keyword}
use Rattle.grammar.proofs.Sizes.{deepest, sizes, sizes_more, made_size}

pub word_lone : {R : Rules} {ns : List Name} {p : Place} {w : List ℕ} {f : Form} → SaysWord R ns p w f → length (nodes f) ≡ 1
word_lone (a_truth e) = refl
word_lone (a_whole e) = refl
word_lone (some_tenths e) = refl
word_lone (too_large e h) = refl
word_lone (a_name e h) = refl

leaf_read : (S : Setting) {ns : List Name} {p : Place} {w : List ℕ} {f : Form} → SaysWord (strict S) ns p w f → leaf_form ns p w (leaf_of w) ≡ Ok f
leaf_read S {ns = ns} {p} {w} (a_truth e) = ap (leaf_form ns p w) e
leaf_read S {ns = ns} {p} {w} (a_whole e) = ap (leaf_form ns p w) e
leaf_read S {ns = ns} {p} {w} (some_tenths e) = ap (leaf_form ns p w) e
leaf_read S {ns = ns} {p} {w} (too_large e h) = absurd (false≢true h)
leaf_read S {ns = ns} {p} {w} (a_name e h) = ap (leaf_form ns p w) e ∙ cond-true (named ns w) (Ok (name p w)) (Err (fault UnboundName p)) h

module _ (S : Setting) (stop : ℕ) where
  word_read :
      (d n : ℕ) (ns : List Name) (p : Place) (w : List ℕ) (f : Form) (ts : List Token)
      → n < 512
      → leaf_form ns p w (leaf_of w) ≡ Ok f
      → reads S stop d ns n (word p w ∷ ts) ≡ Ok (f, ts)
  word_read zero n ns p w f ts h e =
      cond-true (ltb n 512) _ _ (lt-ltb n 512 h) ∙ then_is (leaf_form ns p w (leaf_of w)) (λ (f : Form). Ok (f, ts)) f e
  word_read (suc d) n ns p w f ts h e =
      cond-true (ltb n 512) _ _ (lt-ltb n 512 h) ∙ then_is (leaf_form ns p w (leaf_of w)) (λ (f : Form). Ok (f, ts)) f e

  keyword_read :
      (d : ℕ) (p : Place) (k : Keyword) (ts : List Token)
      → (strict S).known k ≡ true
      → keyword_at S.records d (word p (spelling k)) ts ≡ Ok (k, ts)
  keyword_read d p k ts e =
      ap (λ (o : Option Keyword). known S.records p o ts) (spelling_keyword k)
      ∙ cond-false (is_record_form k && not S.records) (Err (fault NoRecords p)) (Ok (k, ts)) (not-true _ e)

  bracketed_read :
      (rd : Reads) (d n i j : ℕ) (ns : List Name) (k : Keyword) (q : Pieces) (ts us rest : List Token)
      → keyword_at S.records d (first stop ts) (behind ts) ≡ Ok (k, us)
      → parts_at S stop rd d ns (n + 1) (parts_of k) [] 0 us ≡ Ok (q, closing j ∷ rest)
      → bracketed S stop rd d ns n i ts ≡ Ok (made k (span i (j + 1 - i)) q, rest)
  bracketed_read rd d n i j ns k q ts us rest e₁ e₂ = simp (e₁, e₂)

  mutual
    pub says_read :
        {ns : List Name} {ts rest : List Token} {f : Form}
        → Says (strict S) ns ts f rest
        → (d n : ℕ)
        → deep f ≤ d
        → n + length (nodes f) ≤ 512
        → reads S stop d ns n ts ≡ Ok (f, rest)
    says_read {ns = ns} (by_word {p = p} {w = w} {f = f} {rest = rest} s) d n h l =
        word_read d n ns p w f rest (omega (arith, word_lone s)) (leaf_read S s)
    says_read (in_brackets {i = i} j k q e b) zero n h l = absurd (omega (arith, (made_size k (span i (j + 1 - i)) b).1))
    says_read {ns = ns} (in_brackets {i = i} {p = p} {ts = ts} {rest = rest} j k q e b) (suc d) n h l =
        let z = made_size k (span i (j + 1 - i)) b in
        let lt : n < 512 = omega arith in
        let inside = parts_read b d (n + 1) (omega arith) (omega arith) in
        cond-true (ltb n 512) _ _ (lt-ltb n 512 lt)
        ∙ bracketed_read (reads S stop d) d n i j ns k q (word p (spelling k) ∷ ts) ts rest (keyword_read d p k ts e) inside

    parts_read :
        {ns : List Name} {ps : List Part} {b : Name} {l : ℕ} {ts rest : List Token} {q : Pieces}
        → Behind (strict S) ns ps b l ts q rest
        → (d n : ℕ)
        → deepest q.forms ≤ d
        → n + sizes q.forms ≤ 512
        → parts_at S stop (reads S stop d) d ns n ps b l ts ≡ Ok (q, rest)
    parts_read no_more d n h m = refl
    parts_read {ns = ns} {l = l} (binder {ps = ps} {p = p} {w = w} {ts = ts} g r) d n h m =
        then_is (binder_at d (word p w) ts) (λ (x : Name × List Token). parts_at S stop (reads S stop d) d ns n ps x.0 l x.1) (w, ts)
        (cond-true (good_name w) (Ok (w, ts)) (Err (wrong d (word p w))) g)
        ∙ parts_read r d n h m
    parts_read {ns = ns} {b = b} (label {ps = ps} {m = v} {p = p} {w = w} {ts = ts} g e r) d n h m =
        then_is (label_at S.sheet d (word p w) ts) (λ (x : ℕ × List Token). parts_at S stop (reads S stop d) d ns n ps b x.0 x.1) (v, ts)
        (cond-true (good_name w) (numbered p (position S.sheet w) ts) (Err (wrong d (word p w))) g ∙ ap (λ (o : Option ℕ). numbered p o ts) e)
        ∙ parts_read r d n h m
    parts_read (sub {f = f} {q = q} s r) d n h m =
        let z = sizes_more f q.forms in
        let e₁ = says_read s d n (omega arith) (omega arith) in
        let e₂ = parts_read r d (n + length (nodes f)) (omega arith) (omega arith) in
        simp (e₁, e₂)
    parts_read (body {f = f} {q = q} s r) d n h m =
        let z = sizes_more f q.forms in
        let e₁ = says_read s d n (omega arith) (omega arith) in
        let e₂ = parts_read r d (n + length (nodes f)) (omega arith) (omega arith) in
        simp (e₁, e₂)
