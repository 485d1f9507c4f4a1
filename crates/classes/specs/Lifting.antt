-- What holds of the system below, said of the layer.
use Rattle.std.specs.Prelude.{◌≡◌, ℕ, suc, ◌&&◌, List, [], ◌∷◌, length, Ok, nat_eq, nat_lt, refl}
use Rattle.std.proofs.Common.{sym, ◌∙◌, ap, subst}
use Rattle.std.proofs.Math.Option.{some}
use Rattle.ground.specs.declared.sort.Sort.{Sort}
use Rattle.ground.specs.declared.sort.Sort.TheVariants.{«Type» as OfType, Field as OfField, Row as OfRow}
use Rattle.ground.specs.declared.sort.Labels.{Labels}
use Rattle.ground.specs.declared.head.Head.{Head}
use Rattle.ground.specs.declared.head.Head.TheVariants.{Whole, Tenth, Flag, To, List as ListOf, Record, Absent, Has, Empty, Row as RowWith}
use Rattle.ground.specs.declared.classes.Classes.{Classes}
use Rattle.system.specs.Meaning.{Kind, Valuation, State, Meaning, Listed, Same, SameState, SameMarks, Sound, knows_sort}
use Rattle.system.specs.Requests.{fresh, build, keep, back, takes, fits, head_number}
use Rattle.system.specs.Follows.{Added}
use Rattle.system.specs.Replies.{kind_of, Stands, Shaped, Looks, open_code, built}
use Rattle.system.proofs.Filling.{known_not}
use Rattle.classes.specs.declared.entry.Entry.{Entry}
use Rattle.classes.specs.Entries.{classed}
use Rattle.classes.specs.Layered.{opens_with, layered_state, layered_marks, layered, Followables, InOrder, MarksInOrder}
use Rattle.classes.specs.Following.{Followed}
use Rattle.classes.specs.Sounding.{listed_down, listed_up}
use Rattle.classes.specs.Keeping.{followed_meets}

opens_lift :
    (es : List Entry) (os ps : List (ℕ × Classes)) → ((c : ℕ) (k : Classes) → Listed os c k → Listed ps c k) → (c : ℕ) (k : Classes) → Listed (opens_with es os) c k → Listed (opens_with es ps) c k
opens_lift es os ps f c k l =
    let q = listed_down es os c k l in
    subst (Listed (opens_with es ps) c) q.0 (listed_up es ps c q.1.0 (f c q.1.0 q.1.1))

pub state_lift : (s t : State) (es : List Entry) → SameState s t → SameState (layered_state s es) (layered_state t es)
state_lift s t es p = record {
  count = p.count;
  sorts = p.sorts;
  onward = λ v h. (p.onward v h.0, h.1);
  backward = λ v h. (p.backward v h.0, h.1);
  opens = λ c k. (opens_lift es s.opens t.opens (λ d j. (p.opens d j).0) c k, opens_lift es t.opens s.opens (λ d j. (p.opens d j).1) c k);
}

pub marks_lift : (ss rs : List State) (ts : List (List Entry)) → SameMarks ss rs → SameMarks (layered_marks ss ts) (layered_marks rs ts)
marks_lift [] [] ts p = tt
marks_lift [] (r ∷ rs) ts p = absurd p
marks_lift (s ∷ ss) [] ts p = absurd p
marks_lift (s ∷ ss) (r ∷ rs) [] p = tt
marks_lift (s ∷ ss) (r ∷ rs) (t ∷ ts) p = (state_lift s r t p.0, marks_lift ss rs ts p.1)

pub same_lift : (m n : Meaning) (es : List Entry) (ts : List (List Entry)) → Same m n → Same (layered m es ts) (layered n es ts)
same_lift m n es ts p = record { capacity = p.capacity; state = state_lift m.state n.state es p.state; marks = marks_lift m.marks n.marks ts p.marks }

-- entries in order stay so
pub order_same : (s t : State) (es : List Entry) → SameState s t → InOrder s es → InOrder t es
order_same s t [] p o = tt
order_same s t (e ∷ es) p o = (
  (o.0.0, (p.opens e.code.0 o.0.0).0 o.0.1),
  record { sort = sym (p.sorts e.code.0) ∙ o.1.sort; four = o.1.four; some_class = o.1.some_class; member = o.1.member },
  o.2,
  order_same s t es p o.3,
)

pub orders_same : (ss rs : List State) (ts : List (List Entry)) → SameMarks ss rs → MarksInOrder ss ts → MarksInOrder rs ts
orders_same [] [] [] p o = tt
orders_same [] [] (t ∷ ts) p o = o
orders_same [] (r ∷ rs) ts p o = absurd p
orders_same (s ∷ ss) [] ts p o = absurd p
orders_same (s ∷ ss) (r ∷ rs) [] p o = o
orders_same (s ∷ ss) (r ∷ rs) (t ∷ ts) p o = (order_same s r t p.0 o.0, orders_same ss rs ts p.1 o.1)

pub orders_length : (ss : List State) (ts : List (List Entry)) → MarksInOrder ss ts → length ss ≡ length ts
orders_length [] [] o = refl
orders_length [] (t ∷ ts) o = absurd o
orders_length (s ∷ ss) [] o = absurd o
orders_length (s ∷ ss) (t ∷ ts) o = ap suc (orders_length ss ts o.1)

pub layered_length : (ss : List State) (ts : List (List Entry)) → MarksInOrder ss ts → length (layered_marks ss ts) ≡ length ss
layered_length [] [] o = refl
layered_length [] (t ∷ ts) o = absurd o
layered_length (s ∷ ss) [] o = absurd o
layered_length (s ∷ ss) (t ∷ ts) o = ap suc (layered_length ss ts o.1)

-- entries can be followed where the codes that were known are known
pub followables_more : (s t : State) (es : List Entry) → ((c : ℕ) (o : Sort) → s.sort_of c ≡ some o → t.sort_of c ≡ some o) → InOrder s es → Followables t es
followables_more s t [] f o = tt
followables_more s t (e ∷ es) f o =
    (record { sort = f e.code.0 OfType o.1.sort; four = o.1.four; some_class = o.1.some_class; member = o.1.member }, followables_more s t es f o.3)

pub added_known : (m n : Meaning) (c : ℕ) (o : Sort) (P : Valuation → Type 0) → Added m c o P n → (d : ℕ) (k : Sort) → m.state.sort_of d ≡ some k → n.state.sort_of d ≡ some k
added_known m n c o P a d k e = a.old d (known_not m.state d c (k, e) a.unknown) ∙ e

-- which requests fit
takes_lift : (s : State) (es : List Entry) (h : Head) (x y l : ℕ) (m : Labels) → takes (layered_state s es) h x y l m ≡ takes s h x y l m
takes_lift s es Whole x y l m = refl
takes_lift s es Tenth x y l m = refl
takes_lift s es Flag x y l m = refl
takes_lift s es To x y l m = refl
takes_lift s es ListOf x y l m = refl
takes_lift s es Record x y l m = refl
takes_lift s es Absent x y l m = refl
takes_lift s es Has x y l m = refl
takes_lift s es Empty x y l m = refl
takes_lift s es RowWith x y l m = refl

sort_lift : (h : ℕ) (o : Sort) → knows_sort (kind_of h 4) o ≡ knows_sort (kind_of h 0) o
sort_lift h OfType = refl
sort_lift h OfField = refl
sort_lift h (OfRow m) = refl

module _ (h : ℕ) (m : Meaning) (es : List Entry) (ts : List (List Entry)) where
  pub fits_fresh : (o : Sort) → fits (kind_of h 4) (layered m es ts) (fresh o) ≡ fits (kind_of h 0) m (fresh o)
  fits_fresh o = sort_lift h o

  pub fits_build : (g : Head) (x y l : ℕ) (s : Labels) → fits (kind_of h 4) (layered m es ts) (build g x y l s) ≡ fits (kind_of h 0) m (build g x y l s)
  fits_build g x y l s = ap (λ b. nat_lt (head_number g) h && b) (takes_lift m.state es g x y l s)

  pub fits_keep : (d : ℕ) → MarksInOrder m.marks ts → fits (kind_of h 4) (layered m es ts) (keep d) ≡ fits (kind_of h 0) m (keep d)
  fits_keep d o = ap (λ n. nat_eq (suc d) n) (layered_length m.marks ts o)

  pub fits_back : (d : ℕ) → MarksInOrder m.marks ts → fits (kind_of h 4) (layered m es ts) (back d) ≡ fits (kind_of h 0) m (back d)
  fits_back d o = ap (λ n. nat_eq (suc d) n) (layered_length m.marks ts o)

  -- what look can show
  pub stands_lift : (c d : ℕ) (k : Classes) → Stands m c d k → Stands (layered m es ts) c d (classed es d)
  stands_lift c d k p = record {
    listed = listed_up es m.state.opens d k p.listed;
    sort = p.sort;
    equal = λ v q. p.equal v q.0;
    itself = λ j l. let q = (listed_down es m.state.opens c j l).1 in p.itself q.0 q.1;
  }

  pub shaped_lift : (rank : ℕ → ℕ) (c : ℕ) (g : Head) (x y l : ℕ) → Shaped rank m c g x y l → Shaped rank (layered m es ts) c g x y l
  shaped_lift rank c g x y l p = record {
    bound = λ j k. let q = (listed_down es m.state.opens c j k).1 in p.bound q.0 q.1;
    lacked = p.lacked;
    takes = takes_lift m.state es g x y l p.lacked ∙ p.takes;
    gives = p.gives;
    builds = λ v q. p.builds v q.0;
    counts = p.counts;
    first_falls = p.first_falls;
    second_falls = p.second_falls;
  }

  pub looks_lift : (rank : ℕ → ℕ) (c : ℕ) → Looks rank m c → Looks rank (layered m es ts) c
  looks_lift rank c (open_code d k p) = open_code d (classed es d) (stands_lift c d k p)
  looks_lift rank c (built g x y l p) = built g x y l (shaped_lift rank c g x y l p)

-- one code more, the entries followed again
pub added_lift :
    (K : Kind) (m n : Meaning) (c : ℕ) (o : Sort) (P : Valuation → Type 0) (es fs : List Entry) (ts : List (List Entry)) → Sound K n → Added m c o P n → InOrder m.state es → Followed n es [] (Ok fs)
    → Added (layered m es ts) c o P (layered n fs ts)
added_lift K m n c o P es fs ts sound a order h =
    let f = followables_more m.state n.state es (added_known m n c o P a) order in
    record {
      capacity = a.capacity;
      marks = marks_lift m.marks n.marks ts a.marks;
      count = a.count;
      unknown = a.unknown;
      known = a.known;
      old = a.old;
      onto = λ v p. let q = a.onto v p.0 in ((q.0, ((followed_meets K n sound es [] fs v f p.0 h).1 p.1).0), q.1);
      from = λ v p q. let r = a.from v p.0 q in (r, (followed_meets K n sound es [] fs v f r h).0 p.1 tt);
    }
