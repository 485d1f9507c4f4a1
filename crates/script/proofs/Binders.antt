-- A name that is read can be kept by value.
use Rattle.std.proofs.Common.{◌≡◌, ℕ, ◌≤◌, min, Bool, true, false, cond, not, ◌&&◌, leb, List, [], ◌∷◌, ◌++◌, length, take, drop, replicate, Some, None, Ok, Err, codes, Option, Result, sym, refl, ap, ◌∙◌, arith, leb-true}
use Rattle.std.proofs.lemmas.Bool.Decides.{nat_tests}
use Rattle.ground.specs.declared.place.Place.{Place}
use Rattle.std.proofs.lemmas.List.{take_at}
use Rattle.ground.specs.declared.name.Name.{Name as Packed}
use Rattle.ground.specs.Names.{Name, same_name, named, text, pack, packed}
use Rattle.ground.specs.Forms.{Form, name, number, tenths}
use Rattle.words.specs.Spelling.{good_name, starts_small, all_later, is_reserved}
use Rattle.words.specs.Numbers.{Told, number_of}
use Rattle.words.specs.Leaves.{leaf_of, number_or_name}
use Rattle.words.specs.declared.leaf.Leaf.{Leaf}
use Rattle.words.specs.declared.leaf.Leaf.TheVariants.{Truth, Number as ANumber, Name as AName}
use Rattle.words.specs.declared.number.Number.{Number}
use Rattle.words.specs.declared.number.Number.TheVariants.{Whole, Tenths}
use Rattle.words.specs.declared.leaf.LeafFault.{LeafFault}
use Rattle.words.specs.declared.leaf.LeafFault.TheVariants.{Stray}
use Rattle.script.specs.declared.fault.Reason.TheVariants.{UnboundName}
use Rattle.script.specs.Faults.{fault}
use Rattle.script.specs.Nodes.{node, nodes}
use Rattle.script.specs.Items.{item_of_number}
use Rattle.script.specs.Reads.{leaf_form}

third : (a b c d : Bool) → (a && b && c && d) ≡ true → c ≡ true
third a b true d h = refl
third true true false d h = h
third true false false d h = h
third false b false d h = h

pub short : (w : Name) → good_name w ≡ true → length w ≤ 12
short w h = omega (arith, leb-true (length w) 12 (third (starts_small w) (all_later w) (leb (length w) 12) (not (is_reserved w)) h))

pub packs : (w : Name) → good_name w ≡ true → packed w ≡ Some (pack w)
packs w h =
    let l : leb (length w) 12 ≡ true = grind (arith, nat_tests, short w h) in
    ap (λ b. cond b (Some (pack w)) None) l

numbered_or_named : (n : Option Told) (w : Name) → number_or_name n w ≡ Ok AName → good_name w ≡ true
numbered_or_named None w h =
    elim (good_name w) as (λ b. cond b (Ok AName) (Err Stray) ≡ Ok AName → b ≡ true) [ true ↦ λ e. refl | false ↦ λ e. cc (e) ] h
numbered_or_named (Some (Ok n)) w h = cc
numbered_or_named (Some (Err e)) w h = cc

-- a word that is a name where a form may stand is a good name
truths : (a b : Bool) (l : Result Leaf LeafFault) → cond a (Ok (Truth true)) (cond b (Ok (Truth false)) l) ≡ Ok AName → l ≡ Ok AName
truths true b l h = cc
truths false true l h = cc
truths false false l h = h

pub named_word : (w : Name) → leaf_of w ≡ Ok AName → good_name w ≡ true
named_word w h = numbered_or_named (number_of w) w (truths (same_name w (codes "yes")) (same_name w (codes "no")) (number_or_name (number_of w) w) h)

-- what a word is, by a copy of it
pub leaf_is : (ns : List Name) (p : Place) (w u : List ℕ) (l : Result Leaf LeafFault) → l ≡ leaf_of u → u ≡ w → leaf_form ns p w (leaf_of w) ≡ leaf_form ns p w l
leaf_is ns p w u l e s = ap (leaf_form ns p w) (sym (e ∙ ap leaf_of s))

-- a number as a form, and its node
pub leaf_number : (ns : List Name) (p : Place) (w : List ℕ) (n : Number) → (f : Form) × (leaf_form ns p w (Ok (ANumber n)) ≡ Ok f) × (nodes f ≡ node p (item_of_number n) ∷ [])
leaf_number ns p w (Whole z) = (number p z, refl, refl)
leaf_number ns p w (Tenths z) = (tenths p z, refl, refl)

pub leaf_bound : (ns : List Name) (p : Place) (w u : List ℕ) → Ok AName ≡ leaf_of u → u ≡ w → true ≡ named ns u → leaf_form ns p w (leaf_of w) ≡ Ok (name p u)
leaf_bound ns p w u e s b =
    leaf_is ns p w u (Ok AName) e s
    ∙ ap (λ x. cond x (Ok (name p w)) (Err (fault UnboundName p))) (sym (b ∙ ap (named ns) s))
    ∙ ap (λ x. Ok (name p x)) (sym s)

-- a name that is kept by value has its bytes back
text_pack : (w : Name) → length w ≤ 12 → text (pack w) ≡ w
text_pack w h =
    let m : min (length w) 12 ≡ length w = omega arith in
    ap (λ n. take n (w ++ drop (length w) (replicate 12 0))) m ∙ take_at w (drop (length w) (replicate 12 0)) (length w) refl

pub read_back : (x : Packed) (w : Name) → x ≡ pack w → length w ≤ 12 → text x ≡ w
read_back x w e h = ap text e ∙ text_pack w h
