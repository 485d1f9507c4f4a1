-- Which names stand in lists that are searched one after another.
use Rattle.std.proofs.Common.{◌≡◌, Bool, true, false, ◌||◌, cond, List, [], ◌∷◌, ◌++◌, sym, refl, ap, ◌∙◌}
use Rattle.std.specs.List.{list_any}
use Rattle.ground.specs.Names.{Name, same_name, named, text, texts}
use Rattle.ground.specs.declared.name.Name.{Name as Packed}
use Rattle.script.specs.Scopes.{over}

pub any_named : (ps : List Packed) (w : Name) → list_any (λ p. same_name (text p) w) ps ≡ named (texts ps) w
any_named [] w = refl
any_named (p ∷ ps) w = elim (same_name (text p) w) as (λ v. (v || list_any (λ p. same_name (text p) w) ps) ≡ cond v true (named (texts ps) w)) [ true ↦ refl | false ↦ any_named ps w ]

-- a name of the front, or one of the rest
choice : (a b c : Bool) → cond (cond a true b) true c ≡ cond a true (cond b true c)
choice true b c = refl
choice false b c = refl

swapped : (a b c : Bool) → cond a true (cond b true c) ≡ cond b true (cond a true c)
swapped true true c = refl
swapped true false c = refl
swapped false b c = refl

pub named_append : (ms ns : List Name) (w : Name) → named (ms ++ ns) w ≡ cond (named ms w) true (named ns w)
named_append [] ns w = refl
named_append (m ∷ ms) ns w =
    ap (λ b. cond (same_name m w) true b) (named_append ms ns w) ∙ sym (choice (same_name m w) (named ms w) (named ns w))

pub named_over : (ps : List Packed) (ns : List Name) (w : Name) → named (over ps ns) w ≡ cond (named (texts ps) w) true (named ns w)
named_over [] ns w = refl
named_over (p ∷ ps) ns w =
    named_over ps (text p ∷ ns) w
    ∙ swapped (named (texts ps) w) (same_name (text p) w) (named ns w)
    ∙ sym (choice (same_name (text p) w) (named (texts ps) w) (named ns w))

-- three lists, one after another
pub found : (ps qs : List Packed) (ns : List Name) (w : Name) (a b c : Bool)
    → a ≡ named (texts ps) w → b ≡ named (texts qs) w → c ≡ named ns w
    → cond a true (cond b true c) ≡ named (over ps (texts qs ++ ns)) w
found ps qs ns w a b c ea eb ec =
    ap (λ x. cond x true (cond b true c)) ea
    ∙ ap (λ x. cond (named (texts ps) w) true x) (ap (λ x. cond x true c) eb ∙ ap (λ x. cond (named (texts qs) w) true x) ec ∙ sym (named_append (texts qs) ns w))
    ∙ sym (named_over ps (texts qs ++ ns) w)

-- a name bound over others
over_push : (ps : List Packed) (x : Packed) (ns : List Name) → over (ps ++ (x ∷ [])) ns ≡ text x ∷ over ps ns
over_push [] x ns = refl
over_push (p ∷ ps) x ns = over_push ps x (text p ∷ ns)

pub bound_more : (ps : List Packed) (x : Packed) (ns : List Name) (qs : List Packed) → qs ≡ ps ++ x ∷ [] → over qs ns ≡ text x ∷ over ps ns
bound_more ps x ns qs e = ap (λ rs. over rs ns) e ∙ over_push ps x ns
