-- What a session needs of the engine: schemes that stand for a book, a script checked or defined under them, and the book after it.
use Rattle.std.proofs.Common.{◌≡◌, ℕ, ◌≤◌, Bool, true, false, [], ◌∷◌, refl, ap, inl, inr}
use mathlib.Core.Option.{none}
use Rattle.ground.specs.Values.{Ty, of_type}
use Rattle.ground.specs.Names.{Name}
use Rattle.ground.specs.Forms.{Form}
use Rattle.ground.specs.Belongs.{Env, Belongs, built_in, names as names_of}
use Rattle.ground.specs.declared.place.Place.{Place}
use Rattle.ground.specs.declared.sort.Sort.TheVariants.{«Type» as OfType}
use Rattle.ground.proofs.Belonging.{alike_push, alike_sym, belongs_alike}
use Rattle.system.specs.Meaning.{Kind, Valuation, Meaning, Sound, Known}
use Rattle.system.specs.Requests.{Request, Reply}
use Rattle.system.specs.Replies.{Looks}
use Rattle.system.specs.Follows.{Follows}
use Rattle.engine.specs.Trees.{Tree, Binding, code, scheme, Scope, Types, names, env}
use Rattle.engine.specs.Calls.{answer, typing}
use Rattle.engine.specs.Runs.{typed, stopped}
use Rattle.engine.specs.Schemes.{Bears, TreeOf}
use Rattle.engine.specs.Scopes.{Fine, Ready}
use Rattle.engine.specs.Proper.{Proper}
use Rattle.engine.specs.Builtins.{built_in_scope}
use Rattle.engine.specs.Standing.{Closed, Schematic, AllClosed, Standing}
use Rattle.engine.proofs.Steps.{Run}
use Rattle.engine.proofs.Closed.{NoCode, tree_closed, closed_grown}
use Rattle.engine.proofs.Builtins.{built_in_alike, built_in_ready}
use Rattle.engine.proofs.Root.{root_types, root_some, root_none, root_scheme}

no_bearer : (b : Binding) (c : ℕ) → Schematic b → Bears b c → ⊥
no_bearer (code d) c s e = s
no_bearer (scheme t) c s e = e

no_code : (E : Scope) → AllClosed E → NoCode E
no_code [] a c h = h
no_code (b ∷ E) a c (inl h) = no_bearer b.1 c a.0 h
no_code (b ∷ E) a c (inr h) = no_code E a.1 c h

-- No code stays in the scheme of a code that is bound where all names are schemes: at the root, with no name at all or under the names of a book.
pub scheme_closed : (rank : ℕ → ℕ) (m : Meaning) (E : Scope) → AllClosed E → {c : ℕ} {t : Tree} → TreeOf rank m E c t → Closed t
scheme_closed rank m E a tr = tree_closed rank m E (no_code E a) tr

pub root_closed : (rank : ℕ → ℕ) (m : Meaning) {c : ℕ} {t : Tree} → TreeOf rank m [] c t → Closed t
root_closed rank m tr = scheme_closed rank m [] tt tr

fine_moved : (K : Kind) (m n : Meaning) (E : Scope) (b : Binding) → Schematic b → Fine K m E b → Fine K n E b
fine_moved K m n E (code c) s f = absurd s
fine_moved K m n E (scheme t) s f = (f.0, f.1, closed_grown K f.0 f.1 m n E E t OfType s f.2)

ready_moved : (K : Kind) (m n : Meaning) (E : Scope) → AllClosed E → Ready K m E → Ready K n E
ready_moved K m n [] a r = tt
ready_moved K m n (b ∷ E) a r = (fine_moved K m n E b.1 a.0 r.0, ready_moved K m n E a.1 r.1)

-- What stands in one state of a system stands in every other.
pub standing_moved : {K : Kind} {m : Meaning} {b : Env} {E : Scope} (n : Meaning) → Standing K m b E → Standing K n b E
standing_moved {K} {m} {b} {E} n s = record { named = s.named; types = s.types; closed = s.closed; ready = ready_moved K m n E s.closed s.ready }

built_in_named : (b : Bool) → names (built_in_scope b) ≡ names_of (built_in b)
built_in_named true = refl
built_in_named false = refl

built_in_closed : (b : Bool) → AllClosed (built_in_scope b)
built_in_closed true = search
built_in_closed false = search

-- At first the built-in names stand.
pub standing_first : (K : Kind) (m : Meaning) → 5 ≤ K.heads → (b : Bool) → (b ≡ true → K.classes ≡ 0 → ⊥) → Standing K m (built_in b) (built_in_scope b)
standing_first K m h b c = record { named = built_in_named b; types = built_in_alike b; closed = built_in_closed b; ready = built_in_ready K h m b c }

module _ {S : Type 0} (K : Kind) (meaning : S → Meaning) (asked : S → Request → Reply → S → Type 0) (rank : S → ℕ → ℕ)
    (follows : (s t : S) (q : Request) (r : Reply) → asked s q r t → Follows K (meaning s) q r (meaning t))
    (sound : (s : S) → Sound K (meaning s))
    (looks : (s : S) (c : ℕ) → Known (meaning s).state c → Looks (rank s) (meaning s) c)
    (b : Env) (E : Scope) (e : Form) (s u : S)
    (st : Standing K (meaning s) b E)
    (empty : (c : ℕ) → (meaning s).state.sort_of c ≡ none)
    (pr : Proper K (names E) e) where
  into : (v : Valuation) (T : Ty) → Belongs b e T → Belongs (env v E) e T
  into v T h = belongs_alike e b (env v E) (alike_sym (env v E) b (st.types v)) T h

  out : (v : Valuation) (T : Ty) → Belongs (env v E) e T → Belongs b e T
  out v T h = belongs_alike e (env v E) b (st.types v) T h

  -- A script that is typed from a system without a code: the types of its code are those that belong, and some do.
  pub checked : (c : ℕ) → Run meaning asked rank s (typing e E answer) (typed c) u → (T : Ty)
      → (Belongs b e T → (w : Valuation) × (meaning u).state.solves w × (w c ≡ of_type T)) × ((w : Valuation) × (meaning u).state.solves w × (w c ≡ of_type T) → Belongs b e T)
  checked c run T =
      let v = (sound s).some.0 in
      let r = root_types K meaning asked rank follows sound looks s u E e empty st.ready pr c run v T in
      (λ h. r.0 (into v T h), λ w. out v T (r.1 w))

  pub checked_some : (c : ℕ) → Run meaning asked rank s (typing e E answer) (typed c) u → (T : Ty) × Belongs b e T
  checked_some c run =
      let v = (sound s).some.0 in
      let r = root_some K meaning asked rank follows sound looks s u E e empty st.ready pr c run v in
      (r.0, out v r.0 r.1)

  -- A script that is refused with 12 to 15 has none.
  pub checked_none : (p : Place) (f l : ℕ) → f ≤ 15 → Run meaning asked rank s (typing e E answer) (stopped p f l) u → (T : Ty) → Belongs b e T → ⊥
  checked_none p f l h run T y =
      let v = (sound s).some.0 in
      root_none K meaning asked rank follows sound looks s u E e empty st.ready pr p f l h run v T (into v T y)

  -- A script that is defined is listed with the types that belong to it.
  pub defined : (n : Name) (c : ℕ) (g : Tree) → Run meaning asked rank s (typing e E answer) (typed c) u → TreeOf (rank u) (meaning u) E c g
      → Standing K (meaning u) ((n, Belongs b e) ∷ b) ((n, scheme g) ∷ E)
  defined n c g run tr =
      let r = root_scheme K meaning asked rank follows sound looks s u E e empty st.ready pr (no_code E st.closed) c g run tr in
      record {
        named = ap (λ ns. n ∷ ns) st.named;
        closed = (r.0, st.closed);
        ready = (r.1 (meaning u) E, ready_moved K (meaning s) (meaning u) E st.closed st.ready);
        types = λ v. alike_push n (Types v (scheme g)) (Belongs b e) (env v E) b (λ T. (λ h. out v T ((r.2 v T).1 h), λ h. (r.2 v T).0 (into v T h))) (st.types v);
      }
