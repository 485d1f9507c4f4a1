use Rattle.std.proofs.Common.{ℕ, Ok, ◌≡◌, List, [], ◌∷◌, ◌++◌, length, vec_items, sym, refl, ap, ◌∙◌, subst, ap₂, arith}
use Rattle.ground.specs.declared.sort.Sort.{Sort}
use Rattle.stack.specs.Stacks.{held}
use Rattle.cells.specs.declared.Pair.{Pair}
use Rattle.cells.specs.Cells.{sort_at, Refers}
use Rattle.cells.specs.Steps.{pair}
use Rattle.unifier.specs.Turns.{price, Spent}
use Rattle.unifier.proofs.Swapping.{left_noted}
use Rattle.unifier.proofs.Paying.{spent_linked, spent_none}
use Rattle.unifier.proofs.Clashing.{clash_denied}
use Rattle.unifier.proofs.Heading.{answered, meant, met_left, met_same, met_one, met_two, came_turn}
use Rattle.unifier.proofs.Keeping.{later_none, kept_none, kept_more, lasts_none}
use Rattle.unifier.proofs.store.Store.join.Goals as goal

two_held : (hs ks qs : List (Pair ℕ)) (p q a b : Pair ℕ) → ks ≡ q ∷ hs → qs ≡ p ∷ ks → p ≡ a → q ≡ b → qs ≡ a ∷ b ∷ hs
two_held hs ks qs p q a b ek eq ea eb = eq ∙ ap₂ (λ (x : Pair ℕ) (l : List (Pair ℕ)). x ∷ l) ea (ek ∙ ap (λ (y : Pair ℕ). y ∷ hs) eb)

pub returns-in-Clash : goal.returns-in-Clash
returns-in-Clash c =
    let s = c.args.self.now in
    let cs = vec_items s.cells in
    let r = c.args.from in
    let t = c.args.to in
    let fs = held c.args.waiting.now.fields in
    let hs = held c.args.waiting.now.pending in
    record {
      came = clash_denied cs r t c.requires.peers.left c.requires.peers.right c.requires.one c.requires.two
          (answered cs r t c.index-f.result.now c.index-t.result.now c.meets-m.result _ c.requires.peers.left c.requires.peers.right c.index-f.ensures c.index-t.ensures c.meets-m.ensures c.in-Clash.is);
      spent = tt;
      later = later_none s;
      lasts = lasts_none c.args.waiting.now;
    }

pub returns-in-Under : goal.returns-in-Under
returns-in-Under c =
    let s = c.args.self.now in
    let cs = vec_items s.cells in
    let r = c.args.from in
    let t = c.args.to in
    let fs = held c.args.waiting.now.fields in
    let hs = held c.args.waiting.now.pending in
    let x = c.join_rows-in-Under in
    record {
      came = came_turn s.limit cs r t (fs ++ hs) x.result (vec_items x.new.self.cells) (held x.new.waiting.fields ++ held x.new.waiting.pending) x.ensures.came;
      spent = subst (λ (o : Sort). Spent s.limit o cs hs x.result (vec_items x.new.self.cells) (held x.new.waiting.fields) (held x.new.waiting.pending)) (sym c.requires.peers.sorts) x.ensures.spent;
      later = x.ensures.later;
      lasts = x.ensures.lasts;
    }

pub returns-in-Left : goal.returns-in-Left
returns-in-Left c =
    let s = c.args.self.now in
    let cs = vec_items s.cells in
    let r = c.args.from in
    let t = c.args.to in
    let fs = held c.args.waiting.now.fields in
    let hs = held c.args.waiting.now.pending in
    let m = meant cs r t c.index-f.result.now c.index-t.result.now c.meets-m.result _ c.requires.peers.left c.requires.peers.right c.index-f.ensures c.index-t.ensures c.meets-m.ensures c.in-Left.is in
    let x = c.link in
    record {
      came = met_left cs r t c.requires.peers.left c.requires.peers.right c.requires.apart c.requires.queued.fine c.requires.one c.requires.two c.requires.peers.sorts (fs ++ hs) c.requires.queued.alike (vec_items x.new.self.cells) (fs ++ hs) x.ensures.cells refl m;
      spent = spent_linked s.limit (sort_at cs r) cs (vec_items x.new.self.cells) (vec_items s.trail) (vec_items x.new.self.trail) fs hs hs 0 r t c.requires.peers.left c.requires.peers.right c.requires.apart c.requires.one x.ensures.cells x.ensures.later.since c.requires.queued.alike c.requires.queued.fields (omega arith) (omega arith);
      later = x.ensures.later;
      lasts = lasts_none c.args.waiting.now;
    }

pub returns-in-Right : goal.returns-in-Right
returns-in-Right c =
    let s = c.args.self.now in
    let cs = vec_items s.cells in
    let r = c.args.from in
    let t = c.args.to in
    let fs = held c.args.waiting.now.fields in
    let hs = held c.args.waiting.now.pending in
    let m = meant cs r t c.index-f.result.now c.index-t.result.now c.meets-m.result _ c.requires.peers.left c.requires.peers.right c.index-f.ensures c.index-t.ensures c.meets-m.ensures c.in-Right.is in
    let x = c.link-in-Right in
    record {
      came = came_turn s.limit cs r t (fs ++ hs) (Ok tt) (vec_items x.new.self.cells) (fs ++ hs) (met_left cs t r c.requires.peers.right c.requires.peers.left (λ e. c.requires.apart (sym e)) c.requires.queued.fine c.requires.two c.requires.one (sym c.requires.peers.sorts) (fs ++ hs) c.requires.queued.alike (vec_items x.new.self.cells) (fs ++ hs) x.ensures.cells refl m);
      spent = spent_linked s.limit (sort_at cs r) cs (vec_items x.new.self.cells) (vec_items s.trail) (vec_items x.new.self.trail) fs hs hs 0 t r c.requires.peers.right c.requires.peers.left (λ e. c.requires.apart (sym e)) c.requires.two x.ensures.cells x.ensures.later.since c.requires.queued.alike c.requires.queued.fields (omega arith) (omega arith);
      later = x.ensures.later;
      lasts = lasts_none c.args.waiting.now;
    }

pub returns-in-Same : goal.returns-in-Same
returns-in-Same c =
    let s = c.args.self.now in
    let cs = vec_items s.cells in
    let r = c.args.from in
    let t = c.args.to in
    let fs = held c.args.waiting.now.fields in
    let hs = held c.args.waiting.now.pending in
    let m = meant cs r t c.index-f.result.now c.index-t.result.now c.meets-m.result _ c.requires.peers.left c.requires.peers.right c.index-f.ensures c.index-t.ensures c.meets-m.ensures c.in-Same.is in
    record {
      came = met_same cs r t c.requires.peers.left c.requires.peers.right c.requires.apart c.requires.queued.fine c.requires.one c.requires.two c.requires.peers.sorts (fs ++ hs) c.requires.queued.alike (fs ++ hs) m.0 refl m.1 m.2;
      spent = spent_none s.limit (sort_at cs r) cs fs hs c.requires.queued.fields;
      later = later_none s;
      lasts = lasts_none c.args.waiting.now;
    }

pub returns-in-One : goal.returns-in-One
returns-in-One c =
    let s = c.args.self.now in
    let cs = vec_items s.cells in
    let r = c.args.from in
    let t = c.args.to in
    let fs = held c.args.waiting.now.fields in
    let hs = held c.args.waiting.now.pending in
    let m = meant cs r t c.index-f.result.now c.index-t.result.now c.meets-m.result _ c.requires.peers.left c.requires.peers.right c.index-f.ensures c.index-t.ensures c.meets-m.ensures c.in-One.is in
    let x = c.link-in-One in
    let y = c.note in
    record {
      came = left_noted 1 cs (pair r t ∷ (fs ++ hs)) (vec_items x.new.self.cells) (pair m.1 m.2 ∷ []) fs hs (held y.new.pending) (y.ensures.held ∙ ap (λ (p : Pair ℕ). p ∷ hs) m.5)
          (met_one cs r t c.requires.peers.left c.requires.peers.right c.requires.apart c.requires.queued.fine c.requires.one c.requires.two c.requires.peers.sorts (fs ++ hs) c.requires.queued.alike (vec_items x.new.self.cells) (pair m.1 m.2 ∷ (fs ++ hs)) m.0 m.1 m.2 x.ensures.cells refl m.3 m.4);
      spent = spent_linked s.limit (sort_at cs r) cs (vec_items x.new.self.cells) (vec_items s.trail) (vec_items x.new.self.trail) fs hs (held y.new.pending) 1 r t c.requires.peers.left c.requires.peers.right c.requires.apart c.requires.one x.ensures.cells x.ensures.later.since c.requires.queued.alike c.requires.queued.fields (omega (arith, ap length y.ensures.held)) (omega arith);
      later = x.ensures.later;
      lasts = record {
        fields = kept_none c.args.waiting.now.fields;
        pending = y.ensures.kept;
      };
    }

pub returns-in-Two : goal.returns-in-Two
returns-in-Two c =
    let s = c.args.self.now in
    let cs = vec_items s.cells in
    let r = c.args.from in
    let t = c.args.to in
    let fs = held c.args.waiting.now.fields in
    let hs = held c.args.waiting.now.pending in
    let m = meant cs r t c.index-f.result.now c.index-t.result.now c.meets-m.result _ c.requires.peers.left c.requires.peers.right c.index-f.ensures c.index-t.ensures c.meets-m.ensures c.in-Two.is in
    let x = c.link-in-Two in
    let y = c.note-in-Two in
    let z = c.note-in-Two-2 in
    record {
      came = left_noted 1 cs (pair r t ∷ (fs ++ hs)) (vec_items x.new.self.cells) (pair m.0 m.2 ∷ pair m.1 m.3 ∷ []) fs hs (held z.new.pending)
          (two_held hs (held y.new.pending) (held z.new.pending) _ _ (pair m.0 m.2) (pair m.1 m.3) y.ensures.held z.ensures.held m.6 m.7)
          (met_two cs r t c.requires.peers.left c.requires.peers.right c.requires.apart c.requires.queued.fine c.requires.one c.requires.two c.requires.peers.sorts (fs ++ hs) c.requires.queued.alike (vec_items x.new.self.cells) (pair m.0 m.2 ∷ pair m.1 m.3 ∷ (fs ++ hs)) m.0 m.1 m.2 m.3 x.ensures.cells refl m.4 m.5);
      spent = spent_linked s.limit (sort_at cs r) cs (vec_items x.new.self.cells) (vec_items s.trail) (vec_items x.new.self.trail) fs hs (held z.new.pending) 2 r t c.requires.peers.left c.requires.peers.right c.requires.apart c.requires.one x.ensures.cells x.ensures.later.since c.requires.queued.alike c.requires.queued.fields (omega (arith, ap length y.ensures.held, ap length z.ensures.held))
          (omega (arith, ap price (subst (Refers cs r) m.4 (c.requires.queued.fine.formed.refers r c.requires.peers.left)).4));
      later = x.ensures.later;
      lasts = record {
        fields = kept_none c.args.waiting.now.fields;
        pending = kept_more c.args.waiting.now.pending y.new.pending z.new.pending y.ensures.kept z.ensures.kept;
      };
    }
