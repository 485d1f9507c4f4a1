-- Where a walk keeps the grammar, its tokens begin a script: what is still due can be supplied.
use Rattle.std.proofs.Common.{◌≡◌, ℕ, ◌+◌, ◌-◌, true, List, [], ◌∷◌, ◌++◌, Some, None, Ok, codes, Option, sym, refl, subst, Err, Result}
use Rattle.ground.specs.declared.place.Place.{Place}
use Rattle.ground.specs.Names.{Name}
use Rattle.ground.specs.Forms.{Form, name, number, tenths, truth}
use Rattle.words.specs.Spelling.{good_name}
use Rattle.words.specs.Keywords.{spelling, keyword_of}
use Rattle.words.specs.Leaves.{leaf_of}
use Rattle.words.specs.declared.keyword.Keyword.{Keyword}
use Rattle.words.specs.declared.keyword.Keyword.TheVariants.{Record}
use Rattle.words.specs.declared.leaf.Leaf.{Leaf}
use Rattle.words.specs.declared.leaf.Leaf.TheVariants.{Truth, Number as ANumber, Name as AName}
use Rattle.words.specs.declared.leaf.LeafFault.{LeafFault}
use Rattle.words.specs.declared.leaf.LeafFault.TheVariants.{TooLarge, Stray}
use Rattle.words.specs.declared.number.Number.TheVariants.{Whole, Tenths}
use Rattle.script.specs.declared.fault.Reason.TheVariants.{Unexpected}
use Rattle.script.specs.declared.part.Part.{Part}
use Rattle.script.specs.declared.part.Part.TheVariants.{Binder, Label, Sub, Body}
use Rattle.script.specs.Faults.{fault, span, Out}
use Rattle.script.specs.Tokens.{Token, opening, closing, word, ending}
use Rattle.script.specs.Parts.{parts_of, Pieces, made}
use Rattle.script.specs.Reads.{with_form}
use Rattle.grammar.specs.Grammar.{free, a_truth, a_whole, some_tenths, too_large, a_name}
use Rattle.grammar.specs.Grammar.{Says, by_word, in_brackets, Behind, no_more, binder, label, sub, body}
use Rattle.grammar.specs.Walk.{Due, a_form, a_keyword, parts, State, state, word_step, form_step, known_step, due_step, step, walk}
use Rattle.grammar.proofs.Outs.{err_ok, same_ok, then_ok, cond_ok}
use Rattle.grammar.proofs.Spelled.{keyword_spelled}
use Rattle.grammar.proofs.Plain.{Plain}

-- the tokens supply what is due: of a keyword, with the bracket before it
abbrev pub Fills : List Due → List Token → Type 0
Fills [] ts = ts ≡ []
Fills (a_form ns ∷ σ) ts = (f : Form) × (us : List Token) × Says free ns ts f us × Fills σ us
Fills (a_keyword ns ∷ σ) ts = (i : ℕ) → (f : Form) × (us : List Token) × Says free ns (opening i ∷ ts) f us × Fills σ us
Fills (parts ns ps b ∷ σ) ts = (l : ℕ) → (j : ℕ) × (q : Pieces) × (us : List Token) × Behind free ns ps b l ts q (closing j ∷ us) × Fills σ us

-- what supplies the dues of an answer
at_ok : (s s' : State) (ts : List Token) → ◌≡◌ {A = Out State} (Ok s) (Ok s') → Fills s'.due ts → Fills s.due ts
at_ok s s' ts e h = subst (λ (v : State). Fills v.due ts) (sym (same_ok s s' e)) h

word_fills :
    (ns : List Name) (σ : List Due) (d n : ℕ) (p : Place) (w : List ℕ) (l : Result Leaf LeafFault) (s : State) (ts : List Token)
    → leaf_of w ≡ l
    → word_step free ns p w l (state σ d n) ≡ Ok s
    → Fills s.due ts
    → Fills (a_form ns ∷ σ) (word p w ∷ ts)
word_fills ns σ d n p w (Ok (Truth b)) s ts h e k = (truth p b, ts, by_word (a_truth h), at_ok (state σ d n) s ts e k)
word_fills ns σ d n p w (Ok (ANumber (Whole z))) s ts h e k = (number p z, ts, by_word (a_whole h), at_ok (state σ d n) s ts e k)
word_fills ns σ d n p w (Ok (ANumber (Tenths z))) s ts h e k = (tenths p z, ts, by_word (some_tenths h), at_ok (state σ d n) s ts e k)
word_fills ns σ d n p w (Err TooLarge) s ts h e k = (_, ts, by_word (too_large h refl), at_ok (state σ d n) s ts e k)
word_fills ns σ d n p w (Ok AName) s ts h e k = (name p w, ts, by_word (a_name h refl), at_ok (state σ d n) s ts e k)
word_fills ns σ d n p w (Err Stray) s ts h e k = absurd (err_ok _ s e)

form_fills :
    (ns : List Name) (σ : List Due) (d n : ℕ) (t : Token) (s : State) (ts : List Token)
    → form_step free ns σ d n t ≡ Ok s
    → Fills s.due ts
    → Fills (a_form ns ∷ σ) (t ∷ ts)
form_fills ns σ d n (opening i) s ts e k = at_ok (state (a_keyword ns ∷ σ) (d + 1) (n + 1)) s ts e k i
form_fills ns σ d n (closing i) s ts e k = absurd (err_ok _ s e)
form_fills ns σ d n (word p w) s ts e k = word_fills ns σ d (n + 1) p w (leaf_of w) s ts refl e k
form_fills ns σ d n (ending i) s ts e k = absurd (err_ok _ s e)

known_fills :
    (ns : List Name) (σ : List Due) (d n : ℕ) (p : Place) (w : List ℕ) (o : Option Keyword) (s : State) (ts : List Token)
    → keyword_of w ≡ o
    → known_step free ns σ d n p o ≡ Ok s
    → Fills s.due ts
    → Fills (a_keyword ns ∷ σ) (word p w ∷ ts)
known_fills ns σ d n p w None s ts h e k = absurd (err_ok _ s e)
known_fills ns σ d n p w (Some v) s ts h e k =
    let (j, q, us, b, m) = at_ok (state (parts ns (parts_of v) [] ∷ σ) d n) s ts e k 0 in
    λ i.
    let f = made v (span i (j + 1 - i)) q in
    let says = in_brackets {ns = ns} {i = i} {p = p} j v q refl b in
    (f, us, subst (λ (x : List ℕ). Says free ns (opening i ∷ (word p x ∷ ts)) f us) (sym (keyword_spelled w v h)) says, m)

due_fills :
    (σ : List Due) (d n : ℕ) (t : Token) (s : State) (ts : List Token)
    → Plain (t ∷ [])
    → due_step free σ d n t ≡ Ok s
    → Fills s.due ts
    → Fills σ (t ∷ ts)
due_fills [] d n (opening i) s ts h e k = absurd (err_ok _ s e)
due_fills [] d n (closing i) s ts h e k = absurd (err_ok _ s e)
due_fills [] d n (word p w) s ts h e k = absurd (err_ok _ s e)
due_fills [] d n (ending i) s ts h e k = absurd h
due_fills (a_form ns ∷ σ) d n t s ts h e k = form_fills ns σ d n t s ts e k
due_fills (a_keyword ns ∷ σ) d n (opening i) s ts h e k = absurd (err_ok _ s e)
due_fills (a_keyword ns ∷ σ) d n (closing i) s ts h e k = absurd (err_ok _ s e)
due_fills (a_keyword ns ∷ σ) d n (word p w) s ts h e k = known_fills ns σ d n p w (keyword_of w) s ts refl e k
due_fills (a_keyword ns ∷ σ) d n (ending i) s ts h e k = absurd (err_ok _ s e)
due_fills (parts ns [] b ∷ σ) d n (opening i) s ts h e k = absurd (err_ok _ s e)
due_fills (parts ns [] b ∷ σ) d n (closing i) s ts h e k =
    λ l. (i, record { binder = b; label = l; forms = [] }, ts, no_more, at_ok (state σ (d - 1) n) s ts e k)
due_fills (parts ns [] b ∷ σ) d n (word p w) s ts h e k = absurd (err_ok _ s e)
due_fills (parts ns [] b ∷ σ) d n (ending i) s ts h e k = absurd (err_ok _ s e)
due_fills (parts ns (Binder ∷ ps) b ∷ σ) d n (opening i) s ts h e k = absurd (err_ok _ s e)
due_fills (parts ns (Binder ∷ ps) b ∷ σ) d n (closing i) s ts h e k = absurd (err_ok _ s e)
due_fills (parts ns (Binder ∷ ps) b ∷ σ) d n (word p w) s ts h e k =
    let c = cond_ok (good_name w) (Ok (state (parts ns ps w ∷ σ) d n)) (fault Unexpected p) s e in
    λ l. let (j, q, us, r, m) = at_ok (state (parts ns ps w ∷ σ) d n) s ts c.1 k l in (j, q, us, binder c.0 r, m)
due_fills (parts ns (Binder ∷ ps) b ∷ σ) d n (ending i) s ts h e k = absurd (err_ok _ s e)
due_fills (parts ns (Label ∷ ps) b ∷ σ) d n (opening i) s ts h e k = absurd (err_ok _ s e)
due_fills (parts ns (Label ∷ ps) b ∷ σ) d n (closing i) s ts h e k = absurd (err_ok _ s e)
due_fills (parts ns (Label ∷ ps) b ∷ σ) d n (word p w) s ts h e k =
    let c = cond_ok (good_name w) (Ok (state (parts ns ps b ∷ σ) d n)) (fault Unexpected p) s e in
    λ l. let (j, q, us, r, m) = at_ok (state (parts ns ps b ∷ σ) d n) s ts c.1 k 0 in (j, q, us, label c.0 refl r, m)
due_fills (parts ns (Label ∷ ps) b ∷ σ) d n (ending i) s ts h e k = absurd (err_ok _ s e)
due_fills (parts ns (Sub ∷ ps) b ∷ σ) d n t s ts h e k =
    let (f, us, a, m) = form_fills ns (parts ns ps b ∷ σ) d n t s ts e k in
    λ l. let (j, q, vs, r, o) = m l in (j, with_form f q, vs, sub a r, o)
due_fills (parts ns (Body ∷ ps) b ∷ σ) d n t s ts h e k =
    let (f, us, a, m) = form_fills (b ∷ ns) (parts ns ps b ∷ σ) d n t s ts e k in
    λ l. let (j, q, vs, r, o) = m l in (j, with_form f q, vs, body a r, o)

plain_parts : (t : Token) (ts : List Token) → Plain (t ∷ ts) → Plain (t ∷ []) × Plain ts
plain_parts (opening i) ts h = (tt, h)
plain_parts (closing i) ts h = (tt, h)
plain_parts (word p w) ts h = (tt, h)
plain_parts (ending n) ts h = absurd h

walk_fills :
    (ws : List Token) (s s' : State) (more : List Token)
    → Plain ws
    → walk free s ws ≡ Ok s'
    → Fills s'.due more
    → Fills s.due (ws ++ more)
walk_fills [] s s' more h e k = at_ok s s' more e k
walk_fills (t ∷ ws) s s' more h e k =
    let (x, o, r) = then_ok (step free s t) (λ (v : State). walk free v ws) s' e in
    let p = plain_parts t ws h in
    due_fills s.due s.open_brackets s.begun t x (ws ++ more) p.0 o (walk_fills ws x s' more p.1 r k)

-- the word yes, for a form that is due; the letter a, for a name
abbrev yes_word : Token
yes_word = word (span 0 0) (codes "yes")

abbrev a_word : Token
a_word = word (span 0 0) (codes "a")

-- tokens that supply what is due, whatever it is
finish_parts :
    (ns : List Name) (ps : List Part) (b : Name) (us : List Token)
    → (ts : List Token) × ((l : ℕ) → (q : Pieces) × Behind free ns ps b l ts q (closing 0 ∷ us))
finish_parts ns [] b us = (closing 0 ∷ us, λ l. (record { binder = b; label = l; forms = [] }, no_more))
finish_parts ns (Binder ∷ ps) b us = let (ts, r) = finish_parts ns ps (codes "a") us in (a_word ∷ ts, λ l. ((r l).0, binder refl (r l).1))
finish_parts ns (Label ∷ ps) b us = let (ts, r) = finish_parts ns ps b us in (a_word ∷ ts, λ l. ((r 0).0, label refl refl (r 0).1))
finish_parts ns (Sub ∷ ps) b us =
    let (ts, r) = finish_parts ns ps b us in
    (yes_word ∷ ts, λ l. (with_form (truth (span 0 0) true) (r l).0, sub (by_word (a_truth refl)) (r l).1))
finish_parts ns (Body ∷ ps) b us =
    let (ts, r) = finish_parts ns ps b us in
    (yes_word ∷ ts, λ l. (with_form (truth (span 0 0) true) (r l).0, body (by_word (a_truth refl)) (r l).1))

finish : (σ : List Due) → (ts : List Token) × Fills σ ts
finish [] = ([], refl)
finish (a_form ns ∷ σ) = let (us, k) = finish σ in (yes_word ∷ us, (truth (span 0 0) true, us, by_word (a_truth refl), k))
finish (a_keyword ns ∷ σ) =
    let (us, k) = finish σ in
    let q : Pieces = record { binder = []; label = 0; forms = [] } in
    (word (span 0 0) (spelling Record) ∷ (closing 0 ∷ us), λ i. (made Record (span i (0 + 1 - i)) q, us, in_brackets 0 Record q refl no_more, k))
finish (parts ns ps b ∷ σ) = let (us, k) = finish σ in let (ts, r) = finish_parts ns ps b us in (ts, λ l. (0, (r l).0, us, (r l).1, k))

pub goes_on :
    (ns : List Name) (ws : List Token) (s : State) (d n : ℕ)
    → Plain ws
    → walk free (state (a_form ns ∷ []) d n) ws ≡ Ok s
    → (more : List Token) × (f : Form) × Says free ns (ws ++ more) f []
goes_on ns ws s d n h e =
    let (more, k) = finish s.due in
    let (f, us, a, z) = walk_fills ws (state (a_form ns ∷ []) d n) s more h e k in
    (more, f, subst (λ (vs : List Token). Says free ns (ws ++ more) f vs) z a)
