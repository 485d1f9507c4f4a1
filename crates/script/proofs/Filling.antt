-- The node of a bracketed form is filled in once its sub-forms stand behind it.
use Rattle.std.proofs.Common.{◌≡◌, ℕ, suc, ◌+◌, ◌-◌, ◌<◌, List, [], ◌∷◌, ◌++◌, length, set, Ok, Err, vec_items, vec_len, Vec, sym, refl, ap, ◌∙◌, append_assoc, append-nil, arith}
use Rattle.std.proofs.lemmas.List.{set_at, length-append}
use Rattle.ground.specs.declared.place.Place.{Place}
use Rattle.ground.specs.Names.{Name, pack}
use Rattle.ground.specs.Forms.{Form}
use Rattle.words.specs.declared.keyword.Keyword.{Keyword}
use Rattle.words.specs.declared.keyword.Keyword.TheVariants.{Fun, Call, Let, Rec, If, Record, With, Get, Drop}
use Rattle.script.specs.declared.node.Node.{Node}
use Rattle.script.specs.declared.part.Part.{Part}
use Rattle.script.specs.declared.part.Part.TheVariants.{Binder, Label, Sub, Body}
use Rattle.script.specs.Faults.{span, Out}
use Rattle.script.specs.Tokens.{Token, first, behind}
use Rattle.script.specs.Nodes.{node, nodes, all_nodes}
use Rattle.script.specs.Parts.{Pieces, parts_of, made}
use Rattle.script.specs.Items.{item_of}
use Rattle.script.specs.Reads.{Setting, Reads, then, binder_at, label_at, with_form, parts_at, keyword_at, close_at, bracketed}

-- how many of the parts are forms
abbrev pub forms_in : List Part → ℕ
forms_in [] = 0
forms_in (Binder ∷ ps) = forms_in ps
forms_in (Label ∷ ps) = forms_in ps
forms_in (Sub ∷ ps) = suc (forms_in ps)
forms_in (Body ∷ ps) = suc (forms_in ps)

clash : ◌≡◌ {A = ℕ} 0 1 → ⊥
clash z = omega (arith, z)

forms_of : Out (Pieces × List Token) → List Form
forms_of (Ok x) = x.0.forms
forms_of (Err e) = []

same_forms : (x y : Pieces × List Token) → ◌≡◌ {A = Out (Pieces × List Token)} (Ok x) (Ok y) → y.0.forms ≡ x.0.forms
unfolding forms_of
same_forms x y h = sym (ap forms_of h)

-- a step that is followed by another was taken
pub taken : {A B : Type 0} (o : Out A) (k : A → Out B) (y : B) → then o k ≡ Ok y → (x : A) × (o ≡ Ok x) × (k x ≡ Ok y)
taken (Ok x) k y h = (x, refl, h)
taken (Err e) k y h = let z : ◌≡◌ {A = ℕ} 0 1 = cc in elim (clash z) [ ]

module _ (S : Setting) (stop : ℕ) (rd : Reads) (d : ℕ) (ns : List Name) where
  pub all_forms : (ps : List Part) (n : ℕ) (b : Name) (l : ℕ) (ts : List Token) (q : Pieces) (us : List Token)
      → parts_at S stop rd d ns n ps b l ts ≡ Ok (q, us) → length q.forms ≡ forms_in ps
  all_forms [] n b l ts q us h = ap length (same_forms (record { binder = b; label = l; forms = [] }, ts) (q, us) h)
  all_forms (Binder ∷ ps) n b l ts q us h =
      let t = taken (binder_at d (first stop ts) (behind ts)) (λ x. parts_at S stop rd d ns n ps x.0 l x.1) (q, us) h in
      all_forms ps n t.0.0 l t.0.1 q us t.2
  all_forms (Label ∷ ps) n b l ts q us h =
      let t = taken (label_at S.sheet d (first stop ts) (behind ts)) (λ x. parts_at S stop rd d ns n ps b x.0 x.1) (q, us) h in
      all_forms ps n b t.0.0 t.0.1 q us t.2
  all_forms (Sub ∷ ps) n b l ts q us h =
      let t = taken (rd ns n ts) (λ x. then (parts_at S stop rd d ns (n + length (nodes x.0)) ps b l x.1) (λ y. Ok (with_form x.0 y.0, y.1))) (q, us) h in
      let u = taken (parts_at S stop rd d ns (n + length (nodes t.0.0)) ps b l t.0.1) (λ y. Ok (with_form t.0.0 y.0, y.1)) (q, us) t.2 in
      let i = all_forms ps (n + length (nodes t.0.0)) b l t.0.1 u.0.0 u.0.1 u.1 in
      ap length (same_forms (with_form t.0.0 u.0.0, u.0.1) (q, us) u.2) ∙ ap suc i
  all_forms (Body ∷ ps) n b l ts q us h =
      let t = taken (rd (b ∷ ns) n ts) (λ x. then (parts_at S stop rd d ns (n + length (nodes x.0)) ps b l x.1) (λ y. Ok (with_form x.0 y.0, y.1))) (q, us) h in
      let u = taken (parts_at S stop rd d ns (n + length (nodes t.0.0)) ps b l t.0.1) (λ y. Ok (with_form t.0.0 y.0, y.1)) (q, us) t.2 in
      let i = all_forms ps (n + length (nodes t.0.0)) b l t.0.1 u.0.0 u.0.1 u.1 in
      ap length (same_forms (with_form t.0.0 u.0.0, u.0.1) (q, us) u.2) ∙ ap suc i

-- the node of a form, and those of its sub-forms
sub_nodes : (k : Keyword) (p : Place) (b : Name) (l : ℕ) (fs : List Form) → length fs ≡ forms_in (parts_of k)
    → nodes (made k p (record { binder = b; label = l; forms = fs })) ≡ node p (item_of k (pack b) l) ∷ all_nodes fs
sub_nodes Fun p b l (f ∷ []) h = ap (λ xs. node p (item_of Fun (pack b) l) ∷ xs) (sym (append-nil (nodes f)))
sub_nodes Fun p b l [] h = cc
sub_nodes Fun p b l (f ∷ (g ∷ gs)) h = cc
sub_nodes Call p b l (f ∷ (g ∷ [])) h = ap (λ xs. node p (item_of Call (pack b) l) ∷ (nodes f ++ xs)) (sym (append-nil (nodes g)))
sub_nodes Call p b l [] h = cc
sub_nodes Call p b l (f ∷ []) h = cc
sub_nodes Call p b l (f ∷ (g ∷ (x ∷ xs))) h = cc
sub_nodes Let p b l (f ∷ (g ∷ [])) h = ap (λ xs. node p (item_of Let (pack b) l) ∷ (nodes f ++ xs)) (sym (append-nil (nodes g)))
sub_nodes Let p b l [] h = cc
sub_nodes Let p b l (f ∷ []) h = cc
sub_nodes Let p b l (f ∷ (g ∷ (x ∷ xs))) h = cc
sub_nodes Rec p b l (f ∷ []) h = ap (λ xs. node p (item_of Rec (pack b) l) ∷ xs) (sym (append-nil (nodes f)))
sub_nodes Rec p b l [] h = cc
sub_nodes Rec p b l (f ∷ (g ∷ gs)) h = cc
sub_nodes If p b l (f ∷ (g ∷ (x ∷ []))) h = ap (λ xs. node p (item_of If (pack b) l) ∷ (nodes f ++ (nodes g ++ xs))) (sym (append-nil (nodes x)))
sub_nodes If p b l [] h = cc
sub_nodes If p b l (f ∷ []) h = cc
sub_nodes If p b l (f ∷ (g ∷ [])) h = cc
sub_nodes If p b l (f ∷ (g ∷ (x ∷ (y ∷ ys)))) h = cc
sub_nodes Record p b l [] h = refl
sub_nodes Record p b l (f ∷ fs) h = cc
sub_nodes With p b l (f ∷ (g ∷ [])) h = ap (λ xs. node p (item_of With (pack b) l) ∷ (nodes f ++ xs)) (sym (append-nil (nodes g)))
sub_nodes With p b l [] h = cc
sub_nodes With p b l (f ∷ []) h = cc
sub_nodes With p b l (f ∷ (g ∷ (x ∷ xs))) h = cc
sub_nodes Get p b l (f ∷ []) h = ap (λ xs. node p (item_of Get (pack b) l) ∷ xs) (sym (append-nil (nodes f)))
sub_nodes Get p b l [] h = cc
sub_nodes Get p b l (f ∷ (g ∷ gs)) h = cc
sub_nodes Drop p b l (f ∷ []) h = ap (λ xs. node p (item_of Drop (pack b) l) ∷ xs) (sym (append-nil (nodes f)))
sub_nodes Drop p b l [] h = cc
sub_nodes Drop p b l (f ∷ (g ∷ gs)) h = cc

pub made_nodes : (k : Keyword) (p : Place) (q : Pieces) → length q.forms ≡ forms_in (parts_of k)
    → nodes (made k p q) ≡ node p (item_of k (pack q.binder) q.label) ∷ all_nodes q.forms
made_nodes k p q h = sub_nodes k p q.binder q.label q.forms h

-- keyword, parts and closing bracket, one after another
pub filled : (S : Setting) (stop : ℕ) (rd : Reads) (d : ℕ) (ns : List Name) (n i : ℕ) (ts us vs ws : List Token) (k : Keyword) (q : Pieces) (j : ℕ)
    → keyword_at S.records d (first stop ts) (behind ts) ≡ Ok (k, us)
    → parts_at S stop rd d ns (n + 1) (parts_of k) [] 0 us ≡ Ok (q, vs)
    → close_at d (first stop vs) (behind vs) ≡ Ok (j, ws)
    → bracketed S stop rd d ns n i ts ≡ Ok (made k (span i (j + 1 - i)) q, ws)
filled S stop rd d ns n i ts us vs ws k q j ek eq ec =
    ap (λ o. then o (λ k. then (parts_at S stop rd d ns (n + 1) (parts_of k.0) [] 0 k.1)
    (λ q. then (close_at d (first stop q.1) (behind q.1)) (λ c. Ok (made k.0 (span i (c.0 + 1 - i)) q.0, c.1))))) ek
    ∙ ap (λ o. then o (λ q. then (close_at d (first stop q.1) (behind q.1)) (λ c. Ok (made k (span i (c.0 + 1 - i)) q.0, c.1)))) eq
    ∙ ap (λ o. then o (λ c. Ok (made k (span i (c.0 + 1 - i)) q, c.1))) ec

-- the node is set where it was kept free
pub nodes_filled : (es ms : List Node) (x y : Node) (k : Keyword) (p : Place) (q : Pieces) (h : ℕ)
    → length es ≡ h
    → ms ≡ (es ++ (x ∷ [])) ++ all_nodes q.forms
    → y ≡ node p (item_of k (pack q.binder) q.label)
    → length q.forms ≡ forms_in (parts_of k)
    → set ms h y ≡ es ++ nodes (made k p q)
nodes_filled es ms x y k p q h eh em ey el =
    ap (λ zs. set zs h y) (em ∙ append_assoc es (x ∷ []) (all_nodes q.forms))
    ∙ set_at es x (all_nodes q.forms) y h eh
    ∙ ap (λ z. es ++ (z ∷ all_nodes q.forms)) ey
    ∙ ap (λ zs. es ++ zs) (sym (made_nodes k p q el))

pub stands : {Z : Type 0} (v u w : Vec Node Z) (x : Node) (ys : List Node) (n : ℕ) → n ≡ vec_len v → vec_items u ≡ vec_items v ++ (x ∷ []) → vec_items w ≡ vec_items u ++ ys → n < vec_len w
stands v u w x ys n e eu ew =
    let lu = ap length eu ∙ length-append (vec_items v) (x ∷ []) in
    let lw = ap length ew ∙ length-append (vec_items u) ys in
    omega (arith, lu, lw, e, v.ok.0, u.ok.0, w.ok.0)
