-- No bad byte is found exactly where each byte is printable; one that is found is the first.
use Rattle.std.proofs.Common.{◌≡◌, ℕ, ◌+◌, Bool, true, false, cond, List, [], ◌∷◌, ◌++◌, length, Some, None, Option, sym, refl, ap, ◌∙◌, arith}
use Rattle.std.proofs.lemmas.Bool.{cond-true}
use Rattle.script.specs.Reads.{printable, first_bad_byte}
use Rattle.grammar.specs.Statements.{Printable}

some_none : (i : ℕ) → ◌≡◌ {A = Option ℕ} (Some i) None → ⊥
some_none i e = let z : ◌≡◌ {A = ℕ} 0 1 = cc in omega arith

cond_none : (b : Bool) (o : Option ℕ) (i : ℕ) → cond b o (Some i) ≡ None → (b ≡ true) × (o ≡ None)
cond_none true o i e = (refl, e)
cond_none false o i e = absurd (some_none i e)

pub none_bad : (i : ℕ) (bs : List ℕ) → first_bad_byte i bs ≡ None → Printable bs
none_bad i [] e = tt
none_bad i (b ∷ bs) e = let c = cond_none (printable b) (first_bad_byte (i + 1) bs) i e in (c.0, none_bad (i + 1) bs c.1)

pub all_good : (i : ℕ) (bs : List ℕ) → Printable bs → first_bad_byte i bs ≡ None
all_good i [] h = refl
all_good i (b ∷ bs) h = cond-true (printable b) (first_bad_byte (i + 1) bs) (Some i) h.0 ∙ all_good (i + 1) bs h.1

-- the byte at j, counted from i, is the first bad one
pub record FirstBad (i : ℕ) (bs : List ℕ) (j : ℕ) : Type 0 where
  pub before : List ℕ
  pub byte : ℕ
  pub after : List ℕ
  pub split : bs ≡ before ++ (byte ∷ after)
  pub good : Printable before
  pub bad : printable byte ≡ false
  pub at : j ≡ i + length before

bad_or_later :
    (i : ℕ) (b : ℕ) (bs : List ℕ) (j : ℕ) (v : Bool)
    → (first_bad_byte (i + 1) bs ≡ Some j → FirstBad (i + 1) bs j)
    → printable b ≡ v
    → cond v (first_bad_byte (i + 1) bs) (Some i) ≡ Some j
    → FirstBad i (b ∷ bs) j
bad_or_later i b bs j true go h e =
    let r = go e in
    let l = r.at in
    record {
      before = b ∷ r.before;
      byte = r.byte;
      after = r.after;
      split = ap (λ (us : List ℕ). b ∷ us) r.split;
      good = (h, r.good);
      bad = r.bad;
      at = omega arith;
    }
bad_or_later i b bs j false go h e =
    let l : i ≡ j = cc in
    record { before = []; byte = b; after = bs; split = refl; good = tt; bad = h; at = omega arith }

pub first_bad : (i : ℕ) (bs : List ℕ) (j : ℕ) → first_bad_byte i bs ≡ Some j → FirstBad i bs j
first_bad i [] j e = absurd (some_none j (sym e))
first_bad i (b ∷ bs) j e = bad_or_later i b bs j (printable b) (first_bad (i + 1) bs j) refl e
