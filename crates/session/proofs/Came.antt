-- What came of the calls of a typing is what is due: the types that belong, or none.
use Rattle.std.proofs.Common.{◌≡◌, ℕ, ◌≤◌, Bool, true, false, List, [], ◌∷◌, ◌++◌, length, Ok, sym, refl, ap, ◌∙◌, subst, leb-true}
use Rattle.ground.specs.Values.{Ty, of_type}
use Rattle.ground.specs.Names.{Name, built_in_list}
use Rattle.ground.specs.Forms.{Form}
use Rattle.ground.specs.Belongs.{Env, Belongs, built_in, names as names_of}
use Rattle.ground.specs.declared.place.Place.{Place}
use Rattle.script.specs.Reads.{reading}
use Rattle.system.specs.Meaning.{Kind, Valuation, Meaning, Sound, Known}
use Rattle.system.specs.Requests.{Request, Reply}
use Rattle.system.specs.Replies.{Looks}
use Rattle.system.specs.Follows.{Follows}
use Rattle.engine.specs.Trees.{Tree, scheme, names}
use Rattle.engine.specs.Runs.{Outcome, typed, stopped}
use Rattle.engine.specs.Schemes.{Scheme}
use Rattle.engine.specs.Proper.{Proper}
use Rattle.engine.specs.Standing.{Standing}
use Rattle.engine.specs.Calls.{answer, typing}
use Rattle.engine.proofs.Steps.{Run}
use Rattle.engine.proofs.FineStates.{lift}
use Rattle.engine.proofs.Standing.{checked, checked_some, checked_none, defined}
use Rattle.session.specs.Book.{Bytes, Book, with_classes, setting, env_of, Came}
use Rattle.session.proofs.ReadForms.{read_proper}

names_both : (b c : Env) → names_of (b ++ c) ≡ names_of b ++ names_of c
names_both [] c = refl
names_both (x ∷ b) c = ap (λ ns. x.0 ∷ ns) (names_both b c)

built_in_names : (c : Bool) → names_of (built_in c) ≡ built_in_list c
built_in_names true = refl
built_in_names false = refl

-- The reader binds the names that have types.
pub read_names : (K : Kind) (sheet : List Name) (b : Book) → names_of (env_of K b) ≡ (setting K sheet b).names
read_names K sheet b = names_both b (built_in (with_classes K)) ∙ ap (λ ns. names_of b ++ ns) (built_in_names (with_classes K))

module _
    (K : Kind)
    (sheet : List Name)
    (Text : Bytes → Type 0)
    (words : Bytes → ℕ)
    (TextHas : Bytes → Ty → Type 0)
    {S : Type 0}
    (ok : S → Type 0)
    (meaning : S → Meaning)
    (asked : S → Request → Reply → S → Type 0)
    (rank : S → ℕ → ℕ)
    (Solved : S → ℕ → Bytes → Type 0)
    (follows : (s t : S) (q : Request) (r : Reply) → asked s q r t → Follows K (meaning s) q r (meaning t))
    (fine : (s t : S) (q : Request) (r : Reply) → asked s q r t → ok t)
    (sound : (s : S) → ok s → Sound K (meaning s))
    (looks : (s : S) (c : ℕ) → ok s → Known (meaning s).state c → Looks (rank s) (meaning s) c)
    (small : length sheet ≤ 24)
    (b : Book)
    (script : Bytes)
    (e : Form)
    (read : reading (setting K sheet b) script ≡ Ok e)
  where
    abbrev CameTo : Outcome → Type 0
    CameTo o = Came K sheet Text words TextHas ok meaning asked rank Solved b e o

    -- The fine states as a system of their own, and the run over them.
    abbrev Fine : Type 0
    Fine = (s : S) × ok s

    abbrev mean : Fine → Meaning
    mean g = meaning g.0

    abbrev ask : Fine → Request → Reply → Fine → Type 0
    ask g q r h = asked g.0 q r h.0

    abbrev fall : Fine → ℕ → ℕ
    fall g = rank g.0

    follow : (a b : Fine) (q : Request) (r : Reply) → ask a q r b → Follows K (mean a) q r (mean b)
    follow a b q r h = follows a.0 b.0 q r h

    sounds : (a : Fine) → Sound K (mean a)
    sounds a = sound a.0 a.1

    look : (a : Fine) (c : ℕ) → Known (mean a).state c → Looks (fall a) (mean a) c
    look a c k = looks a.0 c a.1 k

    run : (o : Outcome) (r : CameTo o) → (h : ok r.to) × Run mean ask fall (r.from, r.fine) (typing e r.scope answer) o (r.to, h)
    run o r = lift K meaning asked rank ok follows fine sound looks r.fine r.ran

    proper : (o : Outcome) (r : CameTo o) → Proper K (names r.scope) e
    proper o r =
        subst (λ (ns : List Name). Proper K ns e) (sym (r.standing.named ∙ read_names K sheet b))
        (read_proper K (setting K sheet b) (λ h. leb-true 10 K.heads h) small script e read)

    -- The types that the code has after the typing are those that belong to the script.
    pub came_types : (c : ℕ) (r : CameTo (typed c)) (T : Ty)
        → (Belongs (env_of K b) e T → (w : Valuation) × (meaning r.to).state.solves w × (w c ≡ of_type T))
        × ((w : Valuation) × (meaning r.to).state.solves w × (w c ≡ of_type T) → Belongs (env_of K b) e T)
    came_types c r T =
        let w = run (typed c) r in
        checked K mean ask fall follow sounds look (env_of K b) r.scope e (r.from, r.fine) (r.to, w.0) r.standing r.empty (proper (typed c) r) c w.1 T

    -- Some type does.
    pub came_some : (c : ℕ) → CameTo (typed c) → (T : Ty) × Belongs (env_of K b) e T
    came_some c r =
        let w = run (typed c) r in
        checked_some K mean ask fall follow sounds look (env_of K b) r.scope e (r.from, r.fine) (r.to, w.0) r.standing r.empty (proper (typed c) r) c w.1

    -- None does where 12 to 15 stopped the typing.
    pub came_none : (p : Place) (f l : ℕ) → f ≤ 15 → CameTo (stopped p f l) → (T : Ty) → Belongs (env_of K b) e T → ⊥
    came_none p f l h r =
        let w = run (stopped p f l) r in
        checked_none K mean ask fall follow sounds look (env_of K b) r.scope e (r.from, r.fine) (r.to, w.0) r.standing r.empty (proper (stopped p f l) r) p f l h w.1

    -- The scheme of the code stands for a definition with the types that belong.
    pub came_defined : (n : Name) (c : ℕ) (g : Tree) (r : CameTo (typed c)) → Scheme meaning rank r.to c r.scope g
        → Standing K (meaning r.to) ((n, Belongs (env_of K b) e) ∷ env_of K b) ((n, scheme g) ∷ r.scope)
    came_defined n c g r t =
        let w = run (typed c) r in
        defined K mean ask fall follow sounds look (env_of K b) r.scope e (r.from, r.fine) (r.to, w.0) r.standing r.empty (proper (typed c) r) n c g w.1 t
