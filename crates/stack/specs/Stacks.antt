-- A stack by the list that it holds.
use Rattle.std.specs.Prelude.{ℕ, cond, List, [], ◌∷◌, reverse, length, take, Some, None, Ok, Err, Option, Result, nat_lt}
use Rattle.stack.specs.declared.store.Stack.{Stack}

-- what it holds, the newest first
abbrev pub held : {T : Type 0} → Stack T → List T
held s = reverse (take s.len s.slots.now)

-- how many entries it can hold
abbrev pub room : {T : Type 0} → Stack T → ℕ
room s = length s.slots.now

-- an entry comes back exactly where no slot is left
abbrev pub pushed : {T : Type 0} → Stack T → T → Result (Unit {0}) T
pushed s x = cond (nat_lt (length (held s)) (room s)) (Ok tt) (Err x)

-- and is the newest otherwise
abbrev pub pushed_on : {T : Type 0} → Stack T → T → List T
pushed_on s x = cond (nat_lt (length (held s)) (room s)) (x ∷ held s) (held s)

abbrev pub top : {T : Type 0} → List T → Option T
top [] = None
top (x ∷ xs) = Some x

abbrev pub under : {T : Type 0} → List T → List T
under [] = []
under (x ∷ xs) = xs
