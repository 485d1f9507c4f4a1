-- One entry after another.
use Rattle.std.proofs.Common.{◌≡◌, ℕ, zero, suc, ◌+◌, ◌<◌, ◌≤◌, List, [], ◌∷◌, length, get_or, drop, Ok, Err, Result, sym, ap, subst, arith}
use Rattle.std.proofs.lemmas.List.{at_drop_more}
use Rattle.system.specs.Meaning.{State, Meaning}
use Rattle.system.specs.declared.fault.ClassFault.{ClassFault}
use Rattle.classes.specs.declared.entry.Entry.{Entry}
use Rattle.classes.specs.declared.verdict.Verdict.{Verdict}
use Rattle.classes.specs.Entries.{told, left}
use Rattle.classes.specs.Layered.{Followable, Followables}
use Rattle.classes.specs.Following.{Judged, onward, Followed, taken}
use Rattle.classes.proofs.Turning.{turn_of}

followable_in : (s : State) (es : List Entry) (i : ℕ) (z : Entry) → i < length es → Followables s es → Followable s (get_or es i z)
followable_in s [] i z h f = absurd (omega arith)
followable_in s (e ∷ es) zero z h f = f.0
followable_in s (e ∷ es) (suc i) z h f = followable_in s es i z (omega arith) f.1

went : (m : Meaning) (es t : List Entry) (o r : Result (List Entry) ClassFault) → Ok tt ≡ told o → Followed m es (left t o) r → onward (Followed m es) o r
went m es t (Ok u) r e h = h
went m es t (Err f) r e h = cc

stopped : (m : Meaning) (es t : List Entry) (o : Result (List Entry) ClassFault) (f : ClassFault) → Err f ≡ told o → onward (Followed m es) o (Err f)
stopped m es t (Ok u) f e = cc
stopped m es t (Err g) f e = let p : f ≡ g = cc in ap Err p

module _ (m : Meaning) (es : List Entry) (i : ℕ) (z : Entry) (h : i < length es) where
  at : drop i es ≡ get_or es i z ∷ drop (i + 1) es
  at = at_drop_more (λ (xs : List Entry). xs) es i z h

  pub followable_at : Followables m.state es → Followable m.state (get_or es i z)
  followable_at f = followable_in m.state es i z h f

  -- the entry was taken up
  pub goes_on :
      (t : List Entry) (v : Verdict) (r : Result (List Entry) ClassFault) → length t ≤ i → length es ≤ 128 → Followables m.state es → Judged m (get_or es i z).code.0 v
      → Ok tt ≡ told (taken t v (get_or es i z).set) → Followed m (drop (i + 1) es) (left t (taken t v (get_or es i z).set)) r → Followed m (drop i es) t r
  goes_on t v r k b f j e g =
      subst (λ (xs : List Entry). Followed m xs t r) (sym at)
      (taken t v (get_or es i z).set, turn_of m (get_or es i z) t v (followable_at f) (omega arith) j, went m (drop (i + 1) es) t (taken t v (get_or es i z).set) r e g)

  -- it was refused
  pub stops_here :
      (t : List Entry) (v : Verdict) (f : ClassFault) → length t ≤ i → length es ≤ 128 → Followables m.state es → Judged m (get_or es i z).code.0 v
      → Err f ≡ told (taken t v (get_or es i z).set) → Followed m (drop i es) t (Err f)
  stops_here t v f k b g j e =
      subst (λ (xs : List Entry). Followed m xs t (Err f)) (sym at)
      (taken t v (get_or es i z).set, turn_of m (get_or es i z) t v (followable_at g) (omega arith) j, stopped m (drop (i + 1) es) t (taken t v (get_or es i z).set) f e)
