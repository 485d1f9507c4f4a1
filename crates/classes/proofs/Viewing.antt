-- What look answers, in the layer.
use Rattle.std.proofs.Common.{◌≡◌, ℕ, List, Ok, refl, sym, subst}
use Rattle.ground.specs.declared.code.Code.{Code}
use Rattle.ground.specs.declared.classes.Classes.{Classes}
use Rattle.system.specs.Meaning.{Meaning, Known}
use Rattle.system.specs.Replies.{Looked, Stands}
use Rattle.system.specs.declared.view.View.{View}
use Rattle.system.specs.declared.view.View.TheVariants.{Open, Built}
use Rattle.classes.specs.declared.entry.Entry.{Entry}
use Rattle.classes.specs.Entries.{classed}
use Rattle.classes.specs.Layered.{layered}
use Rattle.classes.specs.Lifting.{stands_lift, shaped_lift}

module _ {F G : Type 0} (number layer : F → ℕ) (number' layer' : G → ℕ) (rank : ℕ → ℕ) (h : ℕ) (m : Meaning) (es : List Entry) (ts : List (List Entry)) (c : ℕ) (w : View) where
  pub open_view : (d : Code) (k s : Classes) → w ≡ Open d k → s ≡ classed es d.0 → Looked number layer rank m c (Ok w) → Known m.state c × Stands (layered m es ts) c d.0 s
  open_view d k s e i p =
      let P : View → Type 0 = λ u. Looked number layer rank m c (Ok u) in
      let q : P (Open d k) = subst P e p in
      (q.0, subst (Stands (layered m es ts) c d.0) (sym i) (stands_lift h m es ts c d.0 k q.1))

pub built_view :
    {F G : Type 0} (number layer : F → ℕ) (number' layer' : G → ℕ) (rank : ℕ → ℕ) (h : ℕ) (m : Meaning) (es : List Entry) (ts : List (List Entry)) (c : ℕ) (w : View)
    → ((d : Code) (k : Classes) → w ≡ Open d k → ⊥) → Looked number layer rank m c (Ok w) → Looked number' layer' rank (layered m es ts) c (Ok w)
built_view number layer number' layer' rank h m es ts c (Open d k) n p = absurd (n d k refl)
built_view number layer number' layer' rank h m es ts c (Built g x y l) n p = (p.0, shaped_lift h m es ts rank c g x.0 y.0 l p.1)

-- what was looked at is known
pub known_view : {F : Type 0} (number layer : F → ℕ) (rank : ℕ → ℕ) (m : Meaning) (c : ℕ) (w : View) → Looked number layer rank m c (Ok w) → Known m.state c
known_view number layer rank m c (Open d k) p = p.0
known_view number layer rank m c (Built g x y l) p = p.0
