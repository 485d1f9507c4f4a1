-- Where the next token is taken, it is the one that the grammar asks for.
use Rattle.std.proofs.Common.{◌≡◌, ℕ, Bool, true, not, ◌&&◌, List, [], ◌∷◌, length, Some, None, Ok, Option, refl, ap, subst, Err, Result}
use Rattle.std.proofs.lemmas.Bool.{not_from_false}
use Rattle.ground.specs.declared.place.Place.{Place}
use Rattle.ground.specs.Names.{Name, named}
use Rattle.ground.specs.Forms.{Form, name}
use Rattle.words.specs.Spelling.{good_name}
use Rattle.words.specs.Sheets.{position}
use Rattle.words.specs.Keywords.{spelling, keyword_of, is_record_form}
use Rattle.words.specs.Leaves.{leaf_of}
use Rattle.words.specs.declared.keyword.Keyword.{Keyword}
use Rattle.words.specs.declared.leaf.Leaf.{Leaf}
use Rattle.words.specs.declared.leaf.Leaf.TheVariants.{Truth, Number as ANumber, Name as AName}
use Rattle.words.specs.declared.leaf.LeafFault.{LeafFault}
use Rattle.words.specs.declared.leaf.LeafFault.TheVariants.{TooLarge, Stray}
use Rattle.words.specs.declared.number.Number.TheVariants.{Whole, Tenths}
use Rattle.script.specs.declared.fault.Reason.TheVariants.{UnboundName, NoRecords}
use Rattle.script.specs.Faults.{fault}
use Rattle.script.specs.Tokens.{Token, opening, closing, word, ending, first, behind}
use Rattle.script.specs.Nodes.{nodes}
use Rattle.script.specs.Reads.{Setting, wrong, close_at, binder_at, numbered, label_at, known, keyword_at, leaf_form}
use Rattle.grammar.specs.Grammar.{strict, SaysWord, a_truth, a_whole, some_tenths, a_name, deep}
use Rattle.grammar.proofs.Outs.{err_ok, same_ok, cond_ok, else_ok}
use Rattle.grammar.proofs.Spelled.{keyword_spelled}

-- the tokens begin with a name that may be bound
pub record IsBinder (ts : List Token) (x : Name × List Token) : Type 0 where
  pub place : Place
  pub is : ts ≡ word place x.0 ∷ x.1
  pub good : good_name x.0 ≡ true

-- the tokens begin with a label of the sheet
pub record IsLabel (sheet : List Name) (ts : List Token) (x : ℕ × List Token) : Type 0 where
  pub place : Place
  pub text : Name
  pub is : ts ≡ word place text ∷ x.1
  pub good : good_name text ≡ true
  pub found : position sheet text ≡ Some x.0

-- the tokens begin with a keyword that is known
pub record IsKeyword (records : Bool) (ts : List Token) (x : Keyword × List Token) : Type 0 where
  pub place : Place
  pub is : ts ≡ word place (spelling x.0) ∷ x.1
  pub good : not (is_record_form x.0 && not records) ≡ true

module _ (stop : ℕ) (d : ℕ) where
  pub close_ok : (ts : List Token) (x : ℕ × List Token) → close_at d (first stop ts) (behind ts) ≡ Ok x → ts ≡ closing x.0 ∷ x.1
  close_ok [] x e = absurd (err_ok _ x e)
  close_ok (opening i ∷ ts) x e = absurd (err_ok _ x e)
  close_ok (closing i ∷ ts) x e = ap (λ (y : ℕ × List Token). closing y.0 ∷ y.1) (same_ok (i, ts) x e)
  close_ok (word p w ∷ ts) x e = absurd (err_ok _ x e)
  close_ok (ending n ∷ ts) x e = absurd (err_ok _ x e)

  pub binder_ok : (ts : List Token) (x : Name × List Token) → binder_at d (first stop ts) (behind ts) ≡ Ok x → IsBinder ts x
  binder_ok [] x e = absurd (err_ok _ x e)
  binder_ok (opening i ∷ ts) x e = absurd (err_ok _ x e)
  binder_ok (closing i ∷ ts) x e = absurd (err_ok _ x e)
  binder_ok (word p w ∷ ts) x e =
      let c = cond_ok (good_name w) (Ok (w, ts)) (wrong d (word p w)) x e in
      subst (λ (y : Name × List Token). IsBinder (word p w ∷ ts) y) (same_ok (w, ts) x c.1) (record { place = p; is = refl; good = c.0 })
  binder_ok (ending n ∷ ts) x e = absurd (err_ok _ x e)

  numbered_ok :
      (p : Place) (o : Option ℕ) (ts : List Token) (x : ℕ × List Token) → numbered p o ts ≡ Ok x → (o ≡ Some x.0) × (ts ≡ x.1)
  numbered_ok p None ts x e = absurd (err_ok _ x e)
  numbered_ok p (Some l) ts x e = let s = same_ok (l, ts) x e in (ap (λ (y : ℕ × List Token). Some y.0) s, ap (λ (y : ℕ × List Token). y.1) s)

  pub label_ok : (sheet : List Name) (ts : List Token) (x : ℕ × List Token) → label_at sheet d (first stop ts) (behind ts) ≡ Ok x → IsLabel sheet ts x
  label_ok sheet [] x e = absurd (err_ok _ x e)
  label_ok sheet (opening i ∷ ts) x e = absurd (err_ok _ x e)
  label_ok sheet (closing i ∷ ts) x e = absurd (err_ok _ x e)
  label_ok sheet (word p w ∷ ts) x e =
      let c = cond_ok (good_name w) (numbered p (position sheet w) ts) (wrong d (word p w)) x e in
      let m = numbered_ok p (position sheet w) ts x c.1 in
      record { place = p; text = w; is = ap (λ us. word p w ∷ us) m.1; good = c.0; found = m.0 }
  label_ok sheet (ending n ∷ ts) x e = absurd (err_ok _ x e)

  known_ok :
      (records : Bool) (p : Place) (w : List ℕ) (o : Option Keyword) (ts : List Token) (x : Keyword × List Token)
      → keyword_of w ≡ o
      → known records p o ts ≡ Ok x
      → IsKeyword records (word p w ∷ ts) x
  known_ok records p w None ts x h e = absurd (err_ok _ x e)
  known_ok records p w (Some k) ts x h e =
      let c = else_ok (is_record_form k && not records) (fault NoRecords p) (Ok (k, ts)) x e in
      subst (λ (y : Keyword × List Token). IsKeyword records (word p w ∷ ts) y) (same_ok (k, ts) x c.1)
      (record { place = p; is = ap (λ v. word p v ∷ ts) (keyword_spelled w k h); good = not_from_false (is_record_form k && not records) c.0 })

  pub keyword_ok :
      (records : Bool) (ts : List Token) (x : Keyword × List Token)
      → keyword_at records d (first stop ts) (behind ts) ≡ Ok x
      → IsKeyword records ts x
  keyword_ok records [] x e = absurd (err_ok _ x e)
  keyword_ok records (opening i ∷ ts) x e = absurd (err_ok _ x e)
  keyword_ok records (closing i ∷ ts) x e = absurd (err_ok _ x e)
  keyword_ok records (word p w ∷ ts) x e = known_ok records p w (keyword_of w) ts x refl e
  keyword_ok records (ending n ∷ ts) x e = absurd (err_ok _ x e)

-- the word is a form by itself
pub record IsLeaf (S : Setting) (ns : List Name) (p : Place) (w : List ℕ) (f : Form) : Type 0 where
  pub says : SaysWord (strict S) ns p w f
  pub lone : length (nodes f) ≡ 1
  pub flat : deep f ≡ 0

pub leaf_ok : (S : Setting) (ns : List Name) (p : Place) (w : List ℕ) (f : Form) → leaf_form ns p w (leaf_of w) ≡ Ok f → IsLeaf S ns p w f
leaf_ok S ns p w f e = go (leaf_of w) refl e
  where
    of : (g : Form) → g ≡ f → IsLeaf S ns p w g → IsLeaf S ns p w f
    of g s h = subst (λ (y : Form). IsLeaf S ns p w y) s h

    go : (l : Result Leaf LeafFault) → leaf_of w ≡ l → leaf_form ns p w l ≡ Ok f → IsLeaf S ns p w f
    go (Ok (Truth b)) h r = of _ (same_ok _ f r) (record { says = a_truth h; lone = refl; flat = refl })
    go (Ok (ANumber (Whole z))) h r = of _ (same_ok _ f r) (record { says = a_whole h; lone = refl; flat = refl })
    go (Ok (ANumber (Tenths z))) h r = of _ (same_ok _ f r) (record { says = some_tenths h; lone = refl; flat = refl })
    go (Err TooLarge) h r = absurd (err_ok _ f r)
    go (Ok AName) h r =
        let c = cond_ok (named ns w) (Ok (name p w)) (fault UnboundName p) f r in
        of (name p w) (same_ok _ f c.1) (record { says = a_name h c.0; lone = refl; flat = refl })
    go (Err Stray) h r = absurd (err_ok _ f r)
