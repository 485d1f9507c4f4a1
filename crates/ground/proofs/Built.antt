-- What a head builds: of what it uses alone, one value, and from that value its children can be told.
use Rattle.std.proofs.Common.{◌≡◌, ℕ, true, false, sym, refl, ap, ◌∙◌, subst, arith}
use Rattle.ground.specs.Values.{Row, put, at, absent, Value, of_field, of_row}
use Rattle.ground.specs.Heads.{Builds, gives, has_first, has_second}
use Rattle.ground.specs.declared.sort.Labels.{Labels}
use Rattle.ground.specs.declared.head.Head.{Head}
use Rattle.ground.specs.declared.head.Head.TheVariants.{Whole, Tenth, Flag, To, List as ListOf, Record, Absent, Has, Empty, Row as RowWith}
use Rattle.ground.proofs.Rows.{put_inj, put_field}

pub no_way : false ≡ true → ⊥
no_way e = let z : ◌≡◌ {A = ℕ} 0 1 = cc in omega arith

-- only the children that it has count
pub builds_swap : (h : Head) (l : ℕ) (x y z w v : Value) → (has_first h ≡ true → x ≡ z) → (has_second h ≡ true → y ≡ w) → Builds h l x y v → Builds h l z w v
builds_swap Whole l x y z w v p q b = b
builds_swap Tenth l x y z w v p q b = b
builds_swap Flag l x y z w v p q b = b
builds_swap To l x y z w v p q b = (b.0, b.1, sym (p refl) ∙ b.2, sym (q refl) ∙ b.3, b.4)
builds_swap ListOf l x y z w v p q b = (b.0, sym (p refl) ∙ b.1, b.2)
builds_swap Record l x y z w v p q b = (b.0, sym (p refl) ∙ b.1, b.2)
builds_swap Absent l x y z w v p q b = b
builds_swap Has l x y z w v p q b = (b.0, sym (p refl) ∙ b.1, b.2)
builds_swap Empty l x y z w v p q b = b
builds_swap RowWith l x y z w v p q b = (b.0, b.1, sym (p refl) ∙ b.2, sym (q refl) ∙ b.3, b.4)

-- and the label only of a row
pub builds_other : (h : Head) (l k : ℕ) (x y v : Value) → (h ≡ RowWith → l ≡ k) → Builds h l x y v → Builds h k x y v
builds_other Whole l k x y v e b = b
builds_other Tenth l k x y v e b = b
builds_other Flag l k x y v e b = b
builds_other To l k x y v e b = b
builds_other ListOf l k x y v e b = b
builds_other Record l k x y v e b = b
builds_other Absent l k x y v e b = b
builds_other Has l k x y v e b = b
builds_other Empty l k x y v e b = b
builds_other RowWith l k x y v e b = subst (λ (n : ℕ). Builds RowWith n x y v) (e refl) b

pub builds_label : (h : Head) (l k : ℕ) (x y v : Value) → has_second h ≡ false → Builds h l x y v → Builds h k x y v
builds_label h l k x y v f b = builds_other h l k x y v (λ e. absurd (no_way (sym f ∙ ap has_second e))) b

pub others_ignored : (h : Head) (l k : ℕ) (x y z w v : Value) → (has_first h ≡ true → x ≡ z) → (has_second h ≡ true → y ≡ w) → (h ≡ RowWith → l ≡ k) → Builds h l x y v → Builds h k z w v
others_ignored h l k x y z w v p q e b = builds_other h l k z w v e (builds_swap h l x y z w v p q b)

-- one value
pub builds_one : (h : Head) (l : ℕ) (x y v w : Value) → Builds h l x y v → Builds h l x y w → v ≡ w
builds_one Whole l x y v w b d = b ∙ sym d
builds_one Tenth l x y v w b d = b ∙ sym d
builds_one Flag l x y v w b d = b ∙ sym d
builds_one To l x y v w (a, r, p, q, e) (a', r', p', q', e') = cc
builds_one ListOf l x y v w (a, p, e) (a', p', e') = cc
builds_one Record l x y v w (a, p, e) (a', p', e') = cc
builds_one Absent l x y v w b d = b ∙ sym d
builds_one Has l x y v w (a, p, e) (a', p', e') = cc
builds_one Empty l x y v w b d = b ∙ sym d
builds_one RowWith l x y v w (a, r, p, q, e) (a', r', p', q', e') = cc

-- a row that a row head takes is absent at the label
abbrev pub Apt : Head → ℕ → Value → Type 0
Apt Whole l y = Unit {0}
Apt Tenth l y = Unit {0}
Apt Flag l y = Unit {0}
Apt To l y = Unit {0}
Apt ListOf l y = Unit {0}
Apt Record l y = Unit {0}
Apt Absent l y = Unit {0}
Apt Has l y = Unit {0}
Apt Empty l y = Unit {0}
Apt RowWith l y = (r : Row) → y ≡ of_row r → at r l ≡ absent

pub builds_first : (h : Head) (l : ℕ) (x y z w v : Value) → has_first h ≡ true → Builds h l x y v → Builds h l z w v → x ≡ z
builds_first Whole l x y z w v f b d = absurd (no_way f)
builds_first Tenth l x y z w v f b d = absurd (no_way f)
builds_first Flag l x y z w v f b d = absurd (no_way f)
builds_first To l x y z w v f (a, r, p, q, e) (a', r', p', q', e') = cc
builds_first ListOf l x y z w v f (a, p, e) (a', p', e') = cc
builds_first Record l x y z w v f (a, p, e) (a', p', e') = cc
builds_first Absent l x y z w v f b d = absurd (no_way f)
builds_first Has l x y z w v f (a, p, e) (a', p', e') = cc
builds_first Empty l x y z w v f b d = absurd (no_way f)
builds_first RowWith l x y z w v f (a, r, p, q, e) (a', r', p', q', e') =
    let i : put r l a ≡ put r' l a' = cc in
    p ∙ ap of_field (put_field r r' l a a' i) ∙ sym p'

pub builds_second : (h : Head) (l : ℕ) (x y z w v : Value) → has_second h ≡ true → Apt h l y → Apt h l w → Builds h l x y v → Builds h l z w v → y ≡ w
builds_second Whole l x y z w v f s t b d = absurd (no_way f)
builds_second Tenth l x y z w v f s t b d = absurd (no_way f)
builds_second Flag l x y z w v f s t b d = absurd (no_way f)
builds_second To l x y z w v f s t (a, r, p, q, e) (a', r', p', q', e') = cc
builds_second ListOf l x y z w v f s t b d = absurd (no_way f)
builds_second Record l x y z w v f s t b d = absurd (no_way f)
builds_second Absent l x y z w v f s t b d = absurd (no_way f)
builds_second Has l x y z w v f s t b d = absurd (no_way f)
builds_second Empty l x y z w v f s t b d = absurd (no_way f)
builds_second RowWith l x y z w v f s t (a, r, p, q, e) (a', r', p', q', e') =
    let i : put r l a ≡ put r' l a' = cc in
    q ∙ ap of_row (put_inj r r' l a a' (s r q) (t r' q') i) ∙ sym q'

-- the sort that it gives, by what it uses
pub gives_leaf : (h : Head) (m : Labels) (l k : ℕ) → has_first h ≡ false → gives h m l ≡ gives h m k
gives_leaf Whole m l k e = refl
gives_leaf Tenth m l k e = refl
gives_leaf Flag m l k e = refl
gives_leaf To m l k e = absurd (no_way (sym e))
gives_leaf ListOf m l k e = refl
gives_leaf Record m l k e = refl
gives_leaf Absent m l k e = refl
gives_leaf Has m l k e = refl
gives_leaf Empty m l k e = refl
gives_leaf RowWith m l k e = absurd (no_way (sym e))

pub gives_over : (h : Head) (m n : Labels) (l k : ℕ) → has_first h ≡ true → has_second h ≡ false → gives h m l ≡ gives h n k
gives_over Whole m n l k f e = refl
gives_over Tenth m n l k f e = refl
gives_over Flag m n l k f e = refl
gives_over To m n l k f e = refl
gives_over ListOf m n l k f e = refl
gives_over Record m n l k f e = refl
gives_over Absent m n l k f e = refl
gives_over Has m n l k f e = refl
gives_over Empty m n l k f e = absurd (no_way f)
gives_over RowWith m n l k f e = absurd (no_way (sym e))
