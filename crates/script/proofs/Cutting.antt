-- How the cutting of a script goes on from byte to byte.
use Rattle.std.proofs.Common.{◌≡◌, ℕ, suc, ◌+◌, ◌-◌, ◌<◌, min, true, false, cond, inl, inr, List, [], ◌∷◌, ◌++◌, length, get_or, take, drop, sym, refl, ap, ◌∙◌, arith, length-drop}
use Rattle.std.proofs.lemmas.List.{at_drop_more, get_or-drop, drop-drop, drop_more, drop_all, take_rest, append-nil, append_assoc, length-append}
use Rattle.std.proofs.lemmas.Bool.{cases_lt, cases_Bool, false≢true}
use Rattle.std.proofs.lemmas.List.Sums.{prefix_len_stops}
use Rattle.script.specs.declared.token.Kind.{Kind}
use Rattle.script.specs.declared.token.Kind.TheVariants.{Space, Open, Close, Letter}
use Rattle.script.specs.Faults.{span}
use Rattle.script.specs.Tokens.{Token, word, Begun, between, inside, grown, by_kind, kind_of, same_kind, run, cut, rest}

-- one byte more
on : (g : Begun) (text : List ℕ) (i : ℕ) → i < length text
    → cut g i (drop i text) ≡ by_kind (kind_of (get_or text i 0)) g i (rest text (i + 1)) (cut (grown g i (get_or text i 0)) (i + 1) (drop (i + 1) text))
on g text i h = at_drop_more (cut g i) text i 0 h

-- a word ends before a byte that is no letter
stops : (s : ℕ) (w : List ℕ) (i : ℕ) (k : Kind) (next more more' : List Token) → (k ≡ Letter → ⊥)
    → by_kind k (inside s w) i next more ≡ word (span s (length w)) w ∷ by_kind k between i next more'
stops s w i Space next more more' ne = refl
stops s w i Open next more more' ne = refl
stops s w i Close next more more' ne = refl
stops s w i Letter next more more' ne = elim (ne refl) [ ]

is_space : (k : Kind) → same_kind k Space ≡ true → k ≡ Space
is_space Space h = refl
is_space Open h = absurd (false≢true h)
is_space Close h = absurd (false≢true h)
is_space Letter h = absurd (false≢true h)

is_letter : (k : Kind) → same_kind k Letter ≡ true → k ≡ Letter
is_letter Space h = absurd (false≢true h)
is_letter Open h = absurd (false≢true h)
is_letter Close h = absurd (false≢true h)
is_letter Letter h = refl

no_letter : (k : Kind) → same_kind k Letter ≡ false → k ≡ Letter → ⊥
no_letter Space h = λ e. cc
no_letter Open h = λ e. cc
no_letter Close h = λ e. cc
no_letter Letter h = λ e. false≢true (sym h)

one_on : (k : Kind) (b : ℕ) (bs : List ℕ) → same_kind (kind_of b) k ≡ true → run k (b ∷ bs) ≡ suc (run k bs)
one_on k b bs h = let one : 1 + run k bs ≡ suc (run k bs) = omega arith in ap (λ v. cond v (1 + run k bs) 0) h ∙ one

none_on : (k : Kind) (b : ℕ) (bs : List ℕ) → same_kind (kind_of b) k ≡ false → run k (b ∷ bs) ≡ 0
none_on k b bs h = ap (λ v. cond v (1 + run k bs) 0) h

-- spaces are passed over
spaces : (at : ℕ) (bs : List ℕ) → cut between (at + run Space bs) (drop (run Space bs) bs) ≡ cut between at bs
spaces at [] = refl
spaces at (b ∷ bs) =
    elim (cases_Bool (same_kind (kind_of b) Space)) [
      | inl t ↦
          let next : at + suc (run Space bs) ≡ at + 1 + run Space bs = omega arith in
          ap (λ n. cut between (at + n) (drop n (b ∷ bs))) (one_on Space b bs t)
          ∙ ap (λ i. cut between i (drop (run Space bs) bs)) next
          ∙ spaces (at + 1) bs
          ∙ sym (ap (λ k. by_kind k between at (cut between (at + 1) bs) (cut (grown between at b) (at + 1) bs)) (is_space (kind_of b) t))
      | inr f ↦
          let same : at + 0 ≡ at = omega arith in
          ap (λ n. cut between (at + n) (drop n (b ∷ bs))) (none_on Space b bs f) ∙ ap (λ i. cut between i (b ∷ bs)) same
    ]

-- a word that has begun ends behind its letters
letters : (s at : ℕ) (w bs : List ℕ)
    → cut (inside s w) at bs ≡ word (span s (length w + run Letter bs)) (w ++ take (run Letter bs) bs) ∷ cut between (at + run Letter bs) (drop (run Letter bs) bs)
letters s at w [] =
    let same : length w ≡ length w + 0 = omega arith in
    ap (λ n. word (span s n) w ∷ []) same ∙ ap (λ v. word (span s (length w + 0)) v ∷ []) (sym (append-nil w))
letters s at w (b ∷ bs) =
    elim (cases_Bool (same_kind (kind_of b) Letter)) [
      | inl t ↦
          let n = run Letter bs in
          let next : at + 1 + n ≡ at + suc n = omega arith in
          let long : length (w ++ b ∷ []) + n ≡ length w + suc n = omega (arith, length-append w (b ∷ [])) in
          ap (λ k. by_kind k (inside s w) at (cut between (at + 1) bs) (cut (grown (inside s w) at b) (at + 1) bs)) (is_letter (kind_of b) t)
          ∙ letters s (at + 1) (w ++ b ∷ []) bs
          ∙ ap (λ m. word (span s m) ((w ++ b ∷ []) ++ take n bs) ∷ cut between (at + 1 + n) (drop n bs)) long
          ∙ ap (λ v. word (span s (length w + suc n)) v ∷ cut between (at + 1 + n) (drop n bs)) (append_assoc w (b ∷ []) (take n bs))
          ∙ ap (λ i. word (span s (length w + suc n)) (w ++ b ∷ take n bs) ∷ cut between i (drop n bs)) next
          ∙ ap (λ m. word (span s (length w + m)) (w ++ take m (b ∷ bs)) ∷ cut between (at + m) (drop m (b ∷ bs))) (sym (one_on Letter b bs t))
      | inr f ↦
          let same : at ≡ at + 0 = omega arith in
          let long : length w ≡ length w + 0 = omega arith in
          stops s w at (kind_of b) (cut between (at + 1) bs) (cut (grown (inside s w) at b) (at + 1) bs) (cut (grown between at b) (at + 1) bs) (no_letter (kind_of b) f)
          ∙ ap (λ i. word (span s (length w)) w ∷ cut between i (b ∷ bs)) same
          ∙ ap (λ m. word (span s m) w ∷ cut between (at + 0) (b ∷ bs)) long
          ∙ ap (λ v. word (span s (length w + 0)) v ∷ cut between (at + 0) (b ∷ bs)) (sym (append-nil w))
          ∙ ap (λ m. word (span s (length w + m)) (w ++ take m (b ∷ bs)) ∷ cut between (at + m) (drop m (b ∷ bs))) (sym (none_on Letter b bs f))
    ]

-- a word begins with a letter
begins : (at b : ℕ) (bs : List ℕ) → kind_of b ≡ Letter
    → cut between at (b ∷ bs) ≡ word (span at (run Letter (b ∷ bs))) (take (run Letter (b ∷ bs)) (b ∷ bs)) ∷ cut between (at + run Letter (b ∷ bs)) (drop (run Letter (b ∷ bs)) (b ∷ bs))
begins at b bs e =
    let n = run Letter bs in
    let one = one_on Letter b bs (ap (λ k. same_kind k Letter) e) in
    let long : length (b ∷ []) + n ≡ suc n = omega arith in
    let next : at + 1 + n ≡ at + suc n = omega arith in
    ap (λ k. by_kind k between at (cut between (at + 1) bs) (cut (grown between at b) (at + 1) bs)) e
    ∙ letters at (at + 1) (b ∷ []) bs
    ∙ ap (λ m. word (span at m) (b ∷ take n bs) ∷ cut between (at + 1 + n) (drop n bs)) long
    ∙ ap (λ i. word (span at (suc n)) (b ∷ take n bs) ∷ cut between i (drop n bs)) next
    ∙ ap (λ m. word (span at m) (take m (b ∷ bs)) ∷ cut between (at + m) (drop m (b ∷ bs))) (sym one)

-- The same, from a byte of a text on, as the code goes on from it.

pub spaces_on : (text : List ℕ) (at : ℕ) → rest text (at + run Space (drop at text)) ≡ rest text at
spaces_on text at =
    let n = run Space (drop at text) in
    ap (cut between (at + n)) (sym (drop-drop n at text)) ∙ spaces at (drop at text)

pub space_stops : (text : List ℕ) (at : ℕ) → at + run Space (drop at text) < length text → kind_of (get_or text (at + run Space (drop at text)) 0) ≡ Space → ⊥
space_stops text at h e =
    let n = run Space (drop at text) in
    let short : n < length (drop at text) = simp length-drop (omega arith) in
    let no = prefix_len_stops (λ b. same_kind (kind_of b) Space) (drop at text) 0 short in
    false≢true (sym no ∙ ap (λ b. same_kind (kind_of b) Space) (get_or-drop at text n 0) ∙ ap (λ k. same_kind k Space) e)

-- what is cut off at a byte, or at the end where the byte is behind it
pub from_byte : (text : List ℕ) (at m : ℕ) → m ≡ min at (length text) → take (length text - m) (drop m text) ≡ drop at text
from_byte text at m e =
    take_rest text m ∙ elim (cases_lt at (length text)) [
      | inl l ↦ let same : m ≡ at = omega arith in ap (λ k. drop k text) same
      | inr g ↦ drop_all m text (omega arith) ∙ sym (drop_all at text g)
    ]

-- the word at a byte
pub word_on : (text : List ℕ) (s n : ℕ) → s < length text → kind_of (get_or text s 0) ≡ Letter → n ≡ run Letter (drop s text)
    → rest text s ≡ word (span s n) (take n (drop s text)) ∷ rest text (s + n)
word_on text s n h e r =
    let bs = drop (s + 1) text in
    let first : drop s text ≡ get_or text s 0 ∷ bs = drop_more text s 0 h in
    let m = run Letter (drop s text) in
    ap (cut between s) first
    ∙ begins s (get_or text s 0) bs e
    ∙ ap (λ v. word (span s (run Letter v)) (take (run Letter v) v) ∷ cut between (s + run Letter v) (drop (run Letter v) v)) (sym first)
    ∙ ap (λ v. word (span s m) (take m (drop s text)) ∷ cut between (s + m) v) (drop-drop m s text)
    ∙ ap (λ k. word (span s k) (take k (drop s text)) ∷ rest text (s + k)) (sym r)
