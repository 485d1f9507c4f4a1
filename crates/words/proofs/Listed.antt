-- The words of a good sheet's text, put on a list one after the other.
use Rattle.std.proofs.Common.{◌≡◌, ℕ, ◌+◌, ◌-◌, ◌<◌, ◌≤◌, min, true, not, ◌&&◌, leb, List, [], ◌∷◌, ◌++◌, length, drop, replicate, Some, None, refl, ap, ◌∙◌, arith}
use Rattle.std.proofs.lemmas.List.{append_assoc, take_at}
use Rattle.std.proofs.lemmas.Bool.{and_parts, and_from, leb-true, le-leb, cond-true}
use Rattle.ground.specs.declared.name.Name.{Name as Packed}
use Rattle.ground.specs.Names.{Name, named, text, texts, pack, packed}
use Rattle.words.specs.Spelling.{starts_small, all_later, is_reserved, good_name}
use Rattle.words.specs.Sheets.{good_labels, good_up_to}

texts_push : (ps : List Packed) (p : Packed) → texts (ps ++ p ∷ []) ≡ texts ps ++ text p ∷ []
texts_push [] p = refl
texts_push (q ∷ ps) p = ap (λ ws. text q ∷ ws) (texts_push ps p)

-- a name is short
pub name_fits : (w : Name) → good_name w ≡ true → length w ≤ 12
name_fits w e =
    let front = and_parts (starts_small w && all_later w && leb (length w) 12) (not (is_reserved w)) e in
    let fits = and_parts (starts_small w && all_later w) (leb (length w) 12) front.0 in
    leb-true (length w) 12 fits.1

-- a name that is packed has its bytes
text_pack : (w : Name) → length w ≤ 12 → text (pack w) ≡ w
text_pack w h =
    let m : length w ≡ min (length w) 12 = omega arith in
    take_at w (drop (length w) (replicate 12 0)) (min (length w) 12) m

pub good_first : (k : ℕ) (w : Name) (ws : List Name) → good_up_to k (w ∷ ws) ≡ true → (good_name w ≡ true) × (0 < k) × (good_up_to (k - 1) ws ≡ true)
good_first k w ws e =
    let both = and_parts (leb (length (w ∷ ws)) k) (good_labels (w ∷ ws)) e in
    let fits : length ws + 1 ≤ k = omega (arith, leb-true (length (w ∷ ws)) k both.0) in
    let here = and_parts (good_name w && not (named ws w)) (good_labels ws) both.1 in (
      (and_parts (good_name w) (not (named ws w)) here.0).0,
      omega arith,
      and_from (leb (length ws) (k - 1)) (good_labels ws) (le-leb (length ws) (k - 1) (omega arith)) here.1,
    )

pub none_packs : (w : Name) → length w ≤ 12 → None ≡ packed w → ⊥
none_packs w h e =
    let s : None ≡ Some (pack w) = e ∙ cond-true (leb (length w) 12) (Some (pack w)) None (le-leb (length w) 12 h) in
    let z : ◌≡◌ {A = ℕ} 0 1 = cc in
    omega arith

word_packed : (w : Name) (p : Packed) → length w ≤ 12 → Some p ≡ packed w → text p ≡ w
word_packed w p h e =
    let s : Some p ≡ Some (pack w) = e ∙ cond-true (leb (length w) 12) (Some (pack w)) None (le-leb (length w) 12 h) in
    let q : p ≡ pack w = cc in
    ap text q ∙ text_pack w h

-- one name more on the list
pub listed_more :
    (w : Name) (ws : List Name) (ps qs : List Packed) (p : Packed) (all : List Name)
    → length w ≤ 12
    → Some p ≡ packed w
    → qs ≡ ps ++ p ∷ []
    → texts ps ++ w ∷ ws ≡ all
    → texts qs ++ ws ≡ all
listed_more w ws ps qs p all h o q i =
    ap (λ vs. vs ++ ws) (ap texts q ∙ texts_push ps p ∙ ap (λ v. texts ps ++ v ∷ []) (word_packed w p h o))
    ∙ append_assoc (texts ps) (w ∷ []) ws
    ∙ i
