-- The marks of a bottom system, each with what was saved when it was made.
use Rattle.std.specs.Prelude.{◌≡◌, ◌≢◌, ◌+◌, ◌<◌, ◌≤◌, ℕ, List, [], ◌∷◌, ◌++◌, length, take, Ok, Err, Result, slice_index_or}
use Rattle.system.specs.declared.fault.SystemFault.{SystemFault}
use Rattle.system.specs.declared.fault.SystemFault.TheVariants.{Unknown, TooManyMarks}
use Rattle.system.specs.declared.mark.Mark.{Mark}
use Rattle.system.specs.declared.unspent.Unspent.{Unspent}

-- Where fewer than n are open, one more is, for which x is saved; else it is one too many, and all stay.
abbrev pub Opened : {T : Type 0} → ℕ → List T → T → Result (Mark T) SystemFault → List T → Type 0
Opened n ss x (Ok m) ts = (length ss < n) × (m.depth ≡ length ss) × (ts ≡ ss ++ x ∷ [])
Opened n ss x (Err f) ts = (n ≤ length ss) × (f ≡ TooManyMarks) × (ts ≡ ss)

-- The mark is the newest of those for which ss was saved, which ends with what was saved for it; another comes back, and all stay.
abbrev pub Closed : {T : Type 0} → List T → Mark T → Result T (Unspent (Mark T) SystemFault) → List T → Type 0
Closed ss m (Ok s) ts = (m.depth + 1 ≡ length ss) × (s ≡ slice_index_or ss m.depth s) × (ts ≡ take m.depth ss)
Closed ss m (Err e) ts = (m.depth + 1 ≢ length ss) × (e.mark ≡ m) × (e.fault ≡ Unknown) × (ts ≡ ss)
