-- The numbers of the classes.
use Rattle.std.specs.Prelude.{◌≡◌, ℕ, ◌<◌, Ok, Err, Result}
use Rattle.ground.specs.declared.class.Class.{Class}
use Rattle.ground.specs.declared.class.Class.TheVariants.{Num, Ord, Eq, Steady}
use Rattle.ground.specs.declared.class.NoClass.{NoClass}

abbrev pub number : Class → ℕ
number Num = 0
number Ord = 1
number Eq = 2
number Steady = 3

-- A number is that of the class which it is read as, and of none where it is above 3.
abbrev pub Numbered : ℕ → Result Class NoClass → Type 0
Numbered n (Ok k) = number k ≡ n
Numbered n (Err e) = 3 < n
