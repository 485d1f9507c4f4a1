-- Each call of the layer over any system: what it answers keeps to what the layer means, and leaves it as it should stand. Fresh and build.
use Rattle.std.proofs.Common.{◌≡◌, ℕ, List, [], Ok, Err, Result, sym, refl, ◌∙◌, subst, reverse, vec_items}
use Rattle.std.specs.Result.{IsErrAnd, MatchResult}
use Rattle.ground.specs.declared.sort.Sort.{Sort}
use Rattle.ground.specs.declared.sort.Labels.{Labels}
use Rattle.ground.specs.declared.head.Head.{Head}
use Rattle.system.specs.Meaning.{Sound, Known}
use Rattle.system.specs.Requests.{Request, fresh, build, Reply, code, fault}
use Rattle.system.specs.Follows.{Follows}
use Rattle.system.specs.Replies.{kind_of, Looks}
use Rattle.system.specs.declared.unspent.Unspent.{Unspent}
use Rattle.classes.specs.declared.entry.Entry.{Entry}
use Rattle.system.specs.declared.layer_fault.LayerFault.{LayerFault}
use Rattle.system.specs.declared.layer_fault.LayerFault.TheVariants.{Below}
use Rattle.classes.specs.Layered.{Followables, Met}
use Rattle.classes.specs.Following.{Followed}
use Rattle.classes.proofs.Answering.{classless}
use Rattle.classes.proofs.Adding.{standing_same, fresh_refused, fresh_same, fresh_met, fresh_made, fresh_stands, build_refused, build_same, build_met, build_made, build_stands}
use Rattle.ground.specs.declared.refusal.Refusal.{Ghosts as Numbers}
use Rattle.system.specs.declared.system.System.{Ghosts}
use Rattle.classes.specs.declared.layer.Layer.{Layer}
use Rattle.classes.specs.Layers.{sure as Sure}
use Rattle.classes.proofs.Laws.{Laws, Serves}

module _ {S F M : Type 0} {D : Ghosts S F M} {N : Numbers F} (L : Laws D) (this : Layer S F M D N) (standing : Sure D.ok D.CLASSES D.meaning this) (t : S) where
  abbrev s : S
  s = this.below

  abbrev es : List Entry
  es = this.table

  abbrev ts : List (List Entry)
  ts = reverse (vec_items this.saved)

  below : (q : Request) (r : Reply) → D.asked s q r t → Follows (kind_of D.HEADS 0) (D.meaning s) q r (D.meaning t)
  below q r a = classless D.HEADS D.CLASSES (D.meaning s) (D.meaning t) q r standing.classless (L.told s t q r a)

  sure : (u : S) → D.ok u → Sound (kind_of D.HEADS 0) (D.meaning u)
  sure u o = subst (λ (i : ℕ). Sound (kind_of D.HEADS i) (D.meaning u)) standing.classless (L.sound u o)

  looks : (c : ℕ) → Known (D.meaning s).state c → Looks (D.rank s) (D.meaning s) c
  looks c k = L.looked s c standing.below k

  -- fresh
  pub fresh_denied : (o : Sort) (f l : ℕ) → D.asked s (fresh o) (fault f l) t → Serves D s es ts (fresh o) (fault f l) t es ts
  fresh_denied o f l a =
      let p = below (fresh o) (fault f l) a in (
        fresh_refused D.HEADS (D.meaning s) (D.meaning t) es ts (sure s standing.below) standing.order (D.rank s) looks o f l p,
        standing_same (D.ok s) (D.ok t) D.CLASSES (D.meaning s) (D.meaning t) es ts (L.fine s t (fresh o) (fault f l) a) (fresh_same D.HEADS (D.meaning s) (D.meaning t) es ts (sure s standing.below) standing.order o f l p) standing,
        tt,
      )

  pub fresh_ready : (o : Sort) (c : ℕ) → D.asked s (fresh o) (code c) t → Followables (D.meaning t).state es × Met (D.meaning t) es
  fresh_ready o c a = fresh_met D.HEADS (D.meaning s) (D.meaning t) es ts (sure s standing.below) standing.order o c (below (fresh o) (code c) a)

  pub fresh_done : (o : Sort) (c : ℕ) (fs : List Entry) → D.asked s (fresh o) (code c) t → Followed (D.meaning t) es [] (Ok fs) → Serves D s es ts (fresh o) (code c) t fs ts
  fresh_done o c fs a f =
      let p = below (fresh o) (code c) a in
      let i = L.fine s t (fresh o) (code c) a in (
        fresh_made D.HEADS (D.meaning s) (D.meaning t) es ts (sure s standing.below) standing.order fs (sure t i) f o c p,
        fresh_stands D.HEADS (D.meaning s) (D.meaning t) es ts (sure s standing.below) standing.order fs (sure t i) f (D.ok s) (D.ok t) D.CLASSES o c i p standing,
        tt,
      )

  -- build
  module _ (g : Head) (x y k : ℕ) (m : Labels) where
    pub build_denied : (f l : ℕ) → D.asked s (build g x y k m) (fault f l) t → Serves D s es ts (build g x y k m) (fault f l) t es ts
    build_denied f l a =
        let p = below (build g x y k m) (fault f l) a in (
          build_refused D.HEADS (D.meaning s) (D.meaning t) es ts (sure s standing.below) standing.order (D.rank s) looks g x y k m f l p,
          standing_same (D.ok s) (D.ok t) D.CLASSES (D.meaning s) (D.meaning t) es ts (L.fine s t (build g x y k m) (fault f l) a)
              (build_same D.HEADS (D.meaning s) (D.meaning t) es ts (sure s standing.below) standing.order g x y k m f l p) standing,
          tt,
        )

    pub build_ready : (c : ℕ) → D.asked s (build g x y k m) (code c) t → Followables (D.meaning t).state es × Met (D.meaning t) es
    build_ready c a = build_met D.HEADS (D.meaning s) (D.meaning t) es ts (sure s standing.below) standing.order g x y k m c (below (build g x y k m) (code c) a)

    pub build_done : (c : ℕ) (fs : List Entry) → D.asked s (build g x y k m) (code c) t → Followed (D.meaning t) es [] (Ok fs) → Serves D s es ts (build g x y k m) (code c) t fs ts
    build_done c fs a f =
        let p = below (build g x y k m) (code c) a in
        let i = L.fine s t (build g x y k m) (code c) a in (
          build_made D.HEADS (D.meaning s) (D.meaning t) es ts (sure s standing.below) standing.order fs (sure t i) f g x y k m c p,
          build_stands D.HEADS (D.meaning s) (D.meaning t) es ts (sure s standing.below) standing.order fs (sure t i) f (D.ok s) (D.ok t) D.CLASSES g x y k m c i p standing,
          tt,
        )

-- a mark that was handed back below, with the refusal, or was taken
pub handed :
    {M F : Type 0} (b : Result (Unit {0}) (Unspent M F)) (r : Result (Unit {0}) (Unspent M (LayerFault F))) (e : Unspent M (LayerFault F))
    → MatchResult b (λ x. r ≡ Ok x) (λ u. IsErrAnd r (λ v. (v.mark ≡ u.mark) × (v.fault ≡ Below u.fault))) → r ≡ Err e → (u : Unspent M F) × (b ≡ Err u) × (e ≡ record { mark = u.mark; fault = Below u.fault })
handed (Ok x) r e h p = cc
handed (Err u) (Ok y) e h p = cc
handed (Err u) (Err v) e h p = let q : v ≡ e = cc in (u, refl, sym q ∙ (λ i. record { mark = h.0 i; fault = h.1 i }))

pub untouched : {M F : Type 0} (b : Result (Unit {0}) (Unspent M F)) (r : Result (Unit {0}) (Unspent M (LayerFault F)))
    → MatchResult b (λ x. r ≡ Ok x) (λ u. IsErrAnd r (λ v. (v.mark ≡ u.mark) × (v.fault ≡ Below u.fault))) → r ≡ Ok tt → b ≡ Ok tt
untouched (Ok x) r h p = refl
untouched (Err u) (Ok y) h p = absurd h
untouched (Err u) (Err v) h p = cc
