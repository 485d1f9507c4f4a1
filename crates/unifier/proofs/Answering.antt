-- What a call answers, of a solver as the code has it.
use Rattle.std.proofs.Common.{◌≡◌, ◌≢◌, ℕ, suc, ◌+◌, ◌-◌, ◌<◌, ◌≤◌, true, false, eqb, List, [], ◌∷◌, ◌++◌, length, Ok, Err, vec_items, Result, sym, ap, ◌∙◌, subst, arith, ne_eqb}
use Rattle.ground.specs.declared.code.Code.{Code}
use Rattle.ground.specs.declared.sort.Sort.{Sort}
use Rattle.ground.proofs.Built.{no_way}
use Rattle.system.specs.Requests.{Request, Reply, equate, code as coded-as, fault, alike, fits, finder}
use Rattle.system.proofs.Same.{same_same}
use Rattle.system.specs.Follows.{Follows}
use Rattle.system.specs.Replies.{kind_of, coded, plain}
use Rattle.system.specs.Faults.{system_number, system_layer}
use Rattle.system.specs.declared.fault.SystemFault.{SystemFault}
use Rattle.system.specs.declared.fault.SystemFault.TheVariants.{NoClasses, Clash, Cyclic, NoCells, Unknown, TooManyMarks}
use Rattle.cells.specs.declared.What.{What}
use Rattle.cells.specs.declared.Cell.{Cell}
use Rattle.cells.specs.Cells.{sort_at}
use Rattle.unifier.specs.declared.undo.Undo.{Undo}
use Rattle.unifier.specs.declared.saved.Saved.{Saved}
use Rattle.unifier.specs.declared.solver.Solver.{Solver}
use Rattle.unifier.specs.Fine.{cell_of}
use Rattle.unifier.specs.States.{sort_in, meaning_of, Good}
use Rattle.unifier.specs.Equated.{Equated}
use Rattle.unifier.specs.Solutions.{Means}
use Rattle.unifier.specs.Codes.{alike_codes}
use Rattle.unifier.proofs.FollowingEquate.{equate_done, equate_denied, five_takes_none, five_is_enough}
use Rattle.unifier.specs.Solvers.{means, sure, asks, Grown, Took, Told}
use Rattle.unifier.proofs.Following.{Step}
use Rattle.unifier.proofs.FollowingMarks.{open_marks}

-- from a solver to lists
abbrev pub Into : (h : ℕ) → Solver h → Request → Reply → ℕ → ℕ → List (Cell ℕ) → List Undo → List Saved → Type 0
Into h s q r Z N D T S = Follows (kind_of h 0) (means h s) q r (meaning_of Z N D T S) × Good h Z N D T S

-- a solver that refuses what does not fit stays as it was
pub refuses : (h : ℕ) (s : Solver h) → sure h s → (q : Request) → fits (kind_of h 0) (means h s) q ≡ false → finder (kind_of h 0) (means h s) q ≡ 4 → asks h s q (fault 21 4) s
refuses h s k q e f = ((λ u. (ap (fault 21) (sym f), same_same (means h s)), λ u. absurd (no_way (sym e ∙ u))), k)

-- a step to lists is one to equal lists
pub moved : (h : ℕ) (s : Solver h) (q : Request) (r : Reply) (N : ℕ) (D : List (Cell ℕ)) (T : List Undo) (S : List Saved) (l n : ℕ) (cs : List (Cell ℕ)) (tr : List Undo) (ss : List Saved)
    → Into h s q r (s.store.limit - 1) N D T S → l ≡ s.store.limit → n ≡ N → cs ≡ D → tr ≡ T → ss ≡ S → Into h s q r (l - 1) n cs tr ss
moved h s q r N D T S l n cs tr ss k el en ed et es =
    let z = s.store.limit - 1 in
    subst (λ (i : ℕ). Into h s q r i n cs tr ss) (ap (λ (i : ℕ). i - 1) (sym el))
    (subst (λ (i : ℕ). Into h s q r z i cs tr ss) (sym en)
    (subst (λ (i : List (Cell ℕ)). Into h s q r z N i tr ss) (sym ed)
    (subst (λ (i : List Undo). Into h s q r z N D i ss) (sym et)
    (subst (λ (i : List Saved). Into h s q r z N D T i) (sym es) k))))

-- and one of solvers that hold them
pub stepped : (h : ℕ) (s t : Solver h) (q : Request) (r : Reply) (N : ℕ) (D : List (Cell ℕ)) (T : List Undo) (S : List Saved) → Into h s q r (s.store.limit - 1) N D T S
    → t.store.limit ≡ s.store.limit → t.calls ≡ N → vec_items t.store.cells ≡ D → vec_items t.store.trail ≡ T → vec_items t.saved ≡ S → asks h s q r t
stepped h s t q r N D T S k = moved h s q r N D T S t.store.limit t.calls (vec_items t.store.cells) (vec_items t.store.trail) (vec_items t.saved) k

-- to other marks alone
abbrev pub Marks : (h : ℕ) → Solver h → Request → Reply → List Saved → Type 0
Marks h s q r S = Into h s q r (s.store.limit - 1) s.calls (vec_items s.store.cells) (vec_items s.store.trail) S

-- a mark that is not the newest is refused, and all stay
pub stale : (h : ℕ) (s : Solver h) → sure h s → (q : Request) (d : ℕ) → fits (kind_of h 0) (means h s) q ≡ eqb (suc d) (length (means h s).marks) → finder (kind_of h 0) (means h s) q ≡ 4
    → (S : List Saved) → (d + 1 ≢ length (vec_items s.saved)) → S ≡ vec_items s.saved → Marks h s q (fault 21 4) S
stale h s k q d f l S n e =
    let u = ne_eqb (suc d) (length (means h s).marks) (λ w. n (omega (arith, w, open_marks h (s.store.limit - 1) s.calls (vec_items s.store.cells) (vec_items s.store.trail) (vec_items s.saved) k))) in
    let a = refuses h s k q (f ∙ u) l in
    subst (λ (i : List Saved). Marks h s q (fault 21 4) i) (sym e) a

-- fresh and build
module _ (h : ℕ) (s t : Solver h) (ok : sure h s) (q : Request) (w : What ℕ) (o : Sort) where
  abbrev cs : List (Cell ℕ)
  cs = vec_items s.store.cells

  abbrev Done : Type 0
  Done = length cs < s.store.limit - 1 + 1
      → Step h (s.store.limit - 1) s.calls cs (vec_items s.store.trail) (vec_items s.saved) q (coded-as (length cs)) (s.calls + 1) (cs ++ cell_of w o ∷ []) (vec_items s.store.trail) (vec_items s.saved)

  abbrev Full : Type 0
  Full = length cs ≡ s.store.limit - 1 + 1 → Step h (s.store.limit - 1) s.calls cs (vec_items s.store.trail) (vec_items s.saved) q (fault 16 4) s.calls cs (vec_items s.store.trail) (vec_items s.saved)

  pub grown_answer : Done → Full → (r : Result Code SystemFault) → Grown h s w o r t → asks h s q (coded system_number system_layer r) t
  grown_answer done full (Ok c) g =
      let e : coded-as c.0 ≡ coded-as (length cs) = ap (λ (x : Code). coded-as x.0) g.1 in
      let u = g.4 in
      subst (λ (r : Reply). asks h s q r t) (sym e)
      (stepped h s t q (coded-as (length cs)) (s.calls + 1) (cs ++ cell_of w o ∷ []) (vec_items s.store.trail) (vec_items s.saved)
      (done (omega (arith, g.0, ok.least))) u.0 g.3 g.2 u.1 u.2)
  grown_answer done full (Err f) g =
      let u = g.4 in
      subst (λ (x : SystemFault). asks h s q (fault (system_number x) (system_layer x)) t) (sym g.1)
      (stepped h s t q (fault 16 4) s.calls cs (vec_items s.store.trail) (vec_items s.saved)
      (full (omega (arith, g.0, ok.least, ok.cells))) u.0 g.3 g.2 u.1 u.2)

-- equate, by what the cells came to
module _ (h : ℕ) (s : Solver h) (ok : sure h s) (a b : ℕ) (fit : alike (sort_in (vec_items s.store.cells) a) (sort_in (vec_items s.store.cells) b) ≡ true) (ds : List (Cell ℕ)) (ts : List Undo) (limit : ℕ) (same : limit ≡ s.store.limit) (room : length ds ≤ limit) where
  abbrev old : List (Cell ℕ)
  old = vec_items s.store.cells

  abbrev trail : List Undo
  trail = vec_items s.store.trail

  abbrev z : ℕ
  z = s.store.limit - 1

  known : (0 < a) × (a < length old) × (0 < b) × (b < length old) × (sort_at old a ≡ sort_at old b)
  known = alike_codes old a b fit

  abbrev Ends : Result (Unit {0}) SystemFault → Type 0
  Ends r = Into h s (equate a b) (plain system_number system_layer r) (limit - 1) s.calls ds ts (vec_items s.saved)

  one_more : z + 1 ≡ s.store.limit
  one_more = omega (arith, ok.least)

  pub equated : (r : Result (Unit {0}) SystemFault) → Equated s.store.limit old trail a b r ds ts → Means s.store.limit old a b r ds → Ends r
  equated (Ok u) e m =
      let f = e.2 ok.sane.order ok.sane.falls in
      subst (λ (l : ℕ). Into h s (equate a b) (plain system_number system_layer (Ok u)) (l - 1) s.calls ds ts (vec_items s.saved)) (sym same)
      (equate_done h z s.calls old trail (vec_items s.saved) ok a b known.0 known.1 known.2 known.3 known.4 ds ts e.0 e.1 f.0 f.1 m (omega (arith, room, same, one_more)))
  equated (Err f) e m =
      let d = equate_denied h z s.calls old trail (vec_items s.saved) ok a b known.0 known.1 known.2 known.3 known.4 f ds (subst (λ (l : ℕ). Means l old a b (Err f) ds) (sym one_more) m) in
      subst (λ (l : ℕ). Into h s (equate a b) (plain system_number system_layer (Err f)) (l - 1) s.calls ds ts (vec_items s.saved)) (sym same)
      (subst (λ (x : List (Cell ℕ)). Into h s (equate a b) (plain system_number system_layer (Err f)) z s.calls x ts (vec_items s.saved)) (sym e.1)
      (subst (λ (y : List Undo). Into h s (equate a b) (plain system_number system_layer (Err f)) z s.calls old y (vec_items s.saved)) (sym e.2) d.0))

  -- the cells that it took
  told : (f : SystemFault) → Means s.store.limit old a b (Err f) ds → Told (means h s) a b f
  told f m = (equate_denied h z s.calls old trail (vec_items s.saved) ok a b known.0 known.1 known.2 known.3 known.4 f ds (subst (λ (l : ℕ). Means l old a b (Err f) ds) (sym one_more) m)).1

  pub took : (r : Result (Unit {0}) SystemFault) → Equated s.store.limit old trail a b r ds ts → Means s.store.limit old a b r ds → Took h s a b r ds
  took (Ok u) e m =
      let v = e.0.turned.led.even in (
        v.0,
        v.1,
        λ q. (let y = five_takes_none h z s.calls old trail (vec_items s.saved) ok q ds e.0.turned.paid in omega (arith, y, v.1)),
      )
  took (Err NoClasses) e m = m
  took (Err Clash) e m = (told Clash m, e.1)
  took (Err Cyclic) e m = (told Cyclic m, e.1)
  took (Err NoCells) e m = (e.0, λ q. (let y = five_is_enough h z s.calls old trail (vec_items s.saved) ok q s.store.limit e.0.3.0 in omega (arith, y, ok.cells, one_more)), e.1)
  took (Err Unknown) e m = absurd m
  took (Err TooManyMarks) e m = m
