-- The two cells of an extension, and what the link to them asks for.
use Rattle.std.proofs.Common.{◌≡◌, ℕ, suc, ◌+◌, ◌-◌, ◌<◌, ◌≤◌, List, [], ◌∷◌, ◌++◌, length, get_or, sym, refl, ap, ◌∙◌, subst, ap₂, arith, length-append}
use Rattle.std.proofs.lemmas.List.{append_assoc, get_or_append_left, get_or-append_right}
use Rattle.ground.specs.declared.sort.Sort.{Sort}
use Rattle.ground.specs.declared.sort.Sort.TheVariants.{Row as OfRow}
use Rattle.ground.specs.declared.sort.Labels.{Labels}
use Rattle.cells.specs.declared.What.TheVariants.{Open, Row as RowAt}
use Rattle.cells.specs.declared.Cell.{Cell}
use Rattle.cells.specs.Cells.{none, what_at, rank_at, sort_at, Root, rootly, linked, row_cell, tail_cell, longer, extended}
use Rattle.unifier.specs.declared.undo.Undo.{Undo}
use Rattle.unifier.specs.Trails.{Movable, Roomy, Since}
use Rattle.unifier.proofs.Trailing.{since_more, since_fresh, since_room}

pub longer_made : (cs bs es : List (Cell ℕ)) (o l x row : ℕ) (n : Labels) (s : Sort) → row ≡ length cs → s ≡ sort_at cs o →
    bs ≡ cs ++ record { what = RowAt l x (row + 1); rank = 0; sort = s } ∷ [] → es ≡ bs ++ record { what = Open; rank = 0; sort = OfRow n } ∷ [] → es ≡ longer cs o l x n
longer_made cs bs es o l x row n s er eq eb ee =
    let k : row + 1 ≡ suc (length cs) = omega (arith, er) in
    ee
    ∙ ap (λ (b : List (Cell ℕ)). b ++ tail_cell n ∷ []) (eb ∙ ap₂ (λ (i : ℕ) (t : Sort). cs ++ record { what = RowAt l x i; rank = 0; sort = t } ∷ []) k eq)
    ∙ append_assoc cs (row_cell cs o l x ∷ []) (tail_cell n ∷ [])

module _ (cs : List (Cell ℕ)) (tr : List Undo) (o l x : ℕ) (n : Labels) where
  pub longer_since : Since cs tr (longer cs o l x n) tr
  longer_since =
      let b = cs ++ row_cell cs o l x ∷ [] in
      subst (λ (e : List (Cell ℕ)). Since cs tr e tr) (append_assoc cs (row_cell cs o l x ∷ []) (tail_cell n ∷ []))
      (since_more cs b (b ++ tail_cell n ∷ []) tr tr tr (since_fresh cs tr (row_cell cs o l x)) (since_fresh b tr (tail_cell n)))

  pub longer_length : length (longer cs o l x n) ≡ suc (suc (length cs))
  longer_length = omega (arith, length-append cs (row_cell cs o l x ∷ tail_cell n ∷ []))

  -- what the link of the old tail to the new row asks for
  pub record Ready (es : List (Cell ℕ)) : Type 0 where
    pub from : o < length es
    pub to : length cs < length es
    pub apart : o ≡ length cs → ⊥
    pub one : Movable (what_at es o)
    pub two : Root (what_at es (length cs))
    pub low : rank_at es o ≤ length es
    pub room : Roomy es tr

  pub longer_ready : o < length cs → what_at cs o ≡ Open → rank_at cs o ≤ length cs → Roomy cs tr → Ready (longer cs o l x n)
  longer_ready ol oo lo ro =
      let old = get_or_append_left cs (row_cell cs o l x ∷ tail_cell n ∷ []) none o ol in
      let row : get_or (longer cs o l x n) (length cs) none ≡ row_cell cs o l x =
      get_or-append_right cs (row_cell cs o l x ∷ tail_cell n ∷ []) (length cs) (length cs) none refl (omega arith)
      ∙ ap (λ (k : ℕ). get_or (row_cell cs o l x ∷ tail_cell n ∷ []) k none) (let z : length cs - length cs ≡ 0 = omega arith in z) in
      record {
        from = omega (arith, longer_length, ol);
        to = omega (arith, longer_length);
        apart = λ e. omega (arith, ol, e);
        one = subst Movable (sym (ap (λ (c : Cell ℕ). c.what) old ∙ oo)) tt;
        two = ap (λ (c : Cell ℕ). rootly c.what) row;
        low = omega (arith, ap (λ (c : Cell ℕ). c.rank) old, lo, longer_length);
        room = since_room cs (longer cs o l x n) tr tr longer_since ro;
      }

  pub extended_made : (es ds : List (Cell ℕ)) (us : List Undo) (row : ℕ) → es ≡ longer cs o l x n → row ≡ length cs → ds ≡ linked es o row → Since es tr ds us → (ds ≡ extended cs o l x n) × Since cs tr ds us
  extended_made es ds us row ee er ed s = (
    ed ∙ ap₂ (λ (e : List (Cell ℕ)) (r : ℕ). linked e o r) ee er,
    since_more cs (longer cs o l x n) ds tr tr us longer_since (subst (λ (e : List (Cell ℕ)). Since e tr ds us) ee s),
  )
