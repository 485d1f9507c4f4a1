-- Heads without children, or with one: what they do not take plays no part.
use Rattle.std.proofs.Common.{◌≡◌, ℕ, true, false, sym, refl, ◌∙◌}
use Rattle.ground.specs.Values.{Value}
use Rattle.ground.specs.Heads.{Builds, has_first, has_second}
use Rattle.ground.specs.declared.sort.Labels.{Labels}
use Rattle.ground.specs.declared.head.Head.{Head}
use Rattle.ground.specs.declared.head.Head.TheVariants.{Whole, Tenth, Flag, To, List as ListOf, Record, Absent, Has as HasHead, Empty, Row as RowWith}
use Rattle.ground.proofs.Built.{builds_swap, builds_label, no_way}
use Rattle.system.specs.Requests.{labelled}

pub first_none : (h : Head) → has_first h ≡ false → has_second h ≡ false
first_none Whole e = refl
first_none Tenth e = refl
first_none Flag e = refl
first_none To e = e
first_none ListOf e = refl
first_none Record e = refl
first_none Absent e = refl
first_none HasHead e = refl
first_none Empty e = refl
first_none RowWith e = e

pub label_leaf : (h : Head) (l k : ℕ) (m : Labels) → has_first h ≡ false → labelled h l m ≡ true → labelled h k m ≡ true
label_leaf Whole l k m e t = refl
label_leaf Tenth l k m e t = refl
label_leaf Flag l k m e t = refl
label_leaf To l k m e t = refl
label_leaf ListOf l k m e t = refl
label_leaf Record l k m e t = refl
label_leaf Absent l k m e t = refl
label_leaf HasHead l k m e t = refl
label_leaf Empty l k m e t = t
label_leaf RowWith l k m e t = absurd (no_way (sym e))

pub label_over : (h : Head) (l : ℕ) (m : Labels) → has_first h ≡ true → has_second h ≡ false → labelled h l m ≡ true
label_over Whole l m f e = refl
label_over Tenth l m f e = refl
label_over Flag l m f e = refl
label_over To l m f e = refl
label_over ListOf l m f e = refl
label_over Record l m f e = refl
label_over Absent l m f e = refl
label_over HasHead l m f e = refl
label_over Empty l m f e = absurd (no_way f)
label_over RowWith l m f e = absurd (no_way (sym e))

-- A head without children builds its value of anything; one with a single child ignores the second.
pub builds_leaf : (h : Head) (l k : ℕ) (x y z w v : Value) → has_first h ≡ false → Builds h l x y v → Builds h k z w v
builds_leaf h l k x y z w v e b = builds_label h l k z w v (first_none h e) (builds_swap h l x y z w v (λ f. absurd (no_way (sym e ∙ f))) (λ f. absurd (no_way (sym (first_none h e) ∙ f))) b)

pub builds_over : (h : Head) (l k : ℕ) (x y w v : Value) → has_second h ≡ false → Builds h l x y v → Builds h k x w v
builds_over h l k x y w v e b = builds_label h l k x w v e (builds_swap h l x y x w v (λ f. refl) (λ f. absurd (no_way (sym e ∙ f))) b)
