use Rattle.std.proofs.Common.{◌≡◌, ℕ, ◌<◌, List, ◌++◌, length, vec_items, sym, ◌∙◌, subst}
use Rattle.stack.specs.Stacks.{held}
use Rattle.ground.specs.declared.sort.Sort.{Sort}
use Rattle.cells.specs.declared.Cell.{Cell}
use Rattle.cells.specs.Cells.{Leads, Root, what_at, sort_at, Formed}
use Rattle.cells.proofs.Chains.{lead_sort}
use Rattle.unifier.specs.Fine.{Rowly}
use Rattle.unifier.specs.Turns.{Spent}
use Rattle.unifier.proofs.Paying.{spent_none}
use Rattle.unifier.proofs.Heading.{came_same, came_from, came_turn}
use Rattle.unifier.proofs.Keeping.{later_none, lasts_none}
use Rattle.unifier.proofs.store.Store.step.Goals as goal

-- a root of the cells that a slice shows
pub record Found (cs : List (Cell ℕ)) (a r : ℕ) : Type 0 where
  pub known : r < length cs
  pub leads : Leads cs a r
  pub root : Root (what_at cs r)

seen : (cs ds : List (Cell ℕ)) (a r : ℕ) → ds ≡ cs → r < length ds → Leads ds a r → Root (what_at ds r) → Found cs a r
seen cs ds a r e k l t = subst (λ (x : List (Cell ℕ)). Found x a r) e (record { known = k; leads = l; root = t })

same_sort_holds : (cs : List (Cell ℕ)) (a b x y : ℕ) → Formed cs → Leads cs a x → Leads cs b y → sort_at cs a ≡ sort_at cs b → sort_at cs x ≡ sort_at cs y
same_sort_holds cs a b x y f la lb e = sym (lead_sort cs f la) ∙ e ∙ lead_sort cs f lb

pub returns-then-x-y : goal.returns-then-x-y
returns-then-x-y c =
    let s = c.args.self.now in
    let cs = vec_items s.cells in
    let x = seen cs _ c.args.a c.find-x.result c.as_slice.ensures.value c.find-x.ensures.known c.find-x.ensures.leads c.find-x.ensures.root in
    let y = seen cs _ c.args.b c.find-y.result c.as_slice-2.ensures.value c.find-y.ensures.known c.find-y.ensures.leads c.find-y.ensures.root in
    record {
      came = came_same s.limit cs c.args.a c.args.b c.find-x.result c.find-y.result (held c.args.waiting.now.fields ++ held c.args.waiting.now.pending) c.requires.peers.left c.requires.peers.right c.requires.queued.fine c.requires.queued.alike x.leads y.leads c.if-x-y.true;
      spent = spent_none s.limit (sort_at cs c.args.a) cs (held c.args.waiting.now.fields) (held c.args.waiting.now.pending) c.requires.queued.fields;
      later = later_none s;
      lasts = lasts_none c.args.waiting.now;
    }

pub join-requires : goal.join-requires
join-requires c =
    let s = c.args.self.now in
    let cs = vec_items s.cells in
    let x = seen cs _ c.args.a c.find-x.result c.as_slice.ensures.value c.find-x.ensures.known c.find-x.ensures.leads c.find-x.ensures.root in
    let y = seen cs _ c.args.b c.find-y.result c.as_slice-2.ensures.value c.find-y.ensures.known c.find-y.ensures.leads c.find-y.ensures.root in
    record {
      queued = c.requires.queued;
      peers = record { left = x.known; right = y.known; sorts = same_sort_holds cs c.args.a c.args.b c.find-x.result c.find-y.result c.requires.queued.fine.formed x.leads y.leads c.requires.peers.sorts };
      apart = c.if-x-y.false;
      one = x.root;
      two = y.root;
      free = λ w. c.requires.free (subst Rowly (sym (lead_sort cs c.requires.queued.fine.formed x.leads)) w);
      slots = c.requires.slots;
    }

pub join-requires-else-index : goal.join-requires-else-index
join-requires-else-index c =
    let s = c.args.self.now in
    let cs = vec_items s.cells in
    let x = seen cs _ c.args.a c.find-x.result c.as_slice.ensures.value c.find-x.ensures.known c.find-x.ensures.leads c.find-x.ensures.root in
    let y = seen cs _ c.args.b c.find-y.result c.as_slice-2.ensures.value c.find-y.ensures.known c.find-y.ensures.leads c.find-y.ensures.root in
    record {
      queued = c.requires.queued;
      peers = record { left = y.known; right = x.known; sorts = sym (same_sort_holds cs c.args.a c.args.b c.find-x.result c.find-y.result c.requires.queued.fine.formed x.leads y.leads c.requires.peers.sorts) };
      apart = λ e. c.if-x-y.false (sym e);
      one = y.root;
      two = x.root;
      free = λ w. c.requires.free (subst Rowly (sym (lead_sort cs c.requires.queued.fine.formed x.leads ∙ same_sort_holds cs c.args.a c.args.b c.find-x.result c.find-y.result c.requires.queued.fine.formed x.leads y.leads c.requires.peers.sorts)) w);
      slots = c.requires.slots;
    }

pub returns-then-index : goal.returns-then-index
returns-then-index c =
    let s = c.args.self.now in
    let cs = vec_items s.cells in
    let x = seen cs _ c.args.a c.find-x.result c.as_slice.ensures.value c.find-x.ensures.known c.find-x.ensures.leads c.find-x.ensures.root in
    let y = seen cs _ c.args.b c.find-y.result c.as_slice-2.ensures.value c.find-y.ensures.known c.find-y.ensures.leads c.find-y.ensures.root in
    let j = c.join in
    record {
      came = came_from s.limit cs (held c.args.waiting.now.fields ++ held c.args.waiting.now.pending) j.result (vec_items j.new.self.cells) (held j.new.waiting.fields ++ held j.new.waiting.pending) x.leads y.leads j.ensures.came;
      spent = subst (λ (o : Sort). Spent s.limit o cs (held c.args.waiting.now.pending) j.result (vec_items j.new.self.cells) (held j.new.waiting.fields) (held j.new.waiting.pending)) (sym (lead_sort cs c.requires.queued.fine.formed x.leads)) j.ensures.spent;
      later = j.ensures.later;
      lasts = j.ensures.lasts;
    }

pub returns-else-index : goal.returns-else-index
returns-else-index c =
    let s = c.args.self.now in
    let cs = vec_items s.cells in
    let x = seen cs _ c.args.a c.find-x.result c.as_slice.ensures.value c.find-x.ensures.known c.find-x.ensures.leads c.find-x.ensures.root in
    let y = seen cs _ c.args.b c.find-y.result c.as_slice-2.ensures.value c.find-y.ensures.known c.find-y.ensures.leads c.find-y.ensures.root in
    let j = c.join-else-index in
    let hs = held c.args.waiting.now.fields ++ held c.args.waiting.now.pending in
    let ds = vec_items j.new.self.cells in
    let qs = held j.new.waiting.fields ++ held j.new.waiting.pending in
    record {
      came = came_from s.limit cs hs j.result ds qs x.leads y.leads (came_turn s.limit cs c.find-x.result c.find-y.result hs j.result ds qs j.ensures.came);
      spent = subst (λ (o : Sort). Spent s.limit o cs (held c.args.waiting.now.pending) j.result ds (held j.new.waiting.fields) (held j.new.waiting.pending)) (sym (lead_sort cs c.requires.queued.fine.formed x.leads ∙ same_sort_holds cs c.args.a c.args.b c.find-x.result c.find-y.result c.requires.queued.fine.formed x.leads y.leads c.requires.peers.sorts)) j.ensures.spent;
      later = j.ensures.later;
      lasts = j.ensures.lasts;
    }
