-- An example of a fault that carries one from below.
use Rattle.std.specs.Prelude.{◌≡◌, ℕ, ◌<◌, ◌≤◌, Ok, Err, Result}
use Rattle.system.specs.Requests.{demand, done, fault}
use Rattle.system.specs.Faults.{system_number, system_layer, class_number}
use Rattle.system.specs.Meaning.{Same}
use Rattle.system.specs.declared.fault.SystemFault.{SystemFault}
use Rattle.system.specs.declared.layer_fault.LayerFault.{LayerFault}
use Rattle.system.specs.declared.layer_fault.LayerFault.TheVariants.{Below, Own}
use Rattle.model.specs.declared.model.Model.{Model}
use Rattle.model.specs.Models.{asks, means}

-- The layer answers a bad class itself; what the model answered to the demand it passes on.
abbrev pub Carried : Model → ℕ → ℕ → Result (Unit {0}) (LayerFault SystemFault) → Model → Type 0
Carried s k c (Ok u) t = (k ≤ 3) × asks s (demand k c) done t
Carried s k c (Err (Below f)) t = (k ≤ 3) × asks s (demand k c) (fault (system_number f) (system_layer f)) t
Carried s k c (Err (Own f)) t = (3 < k) × (class_number f ≡ 21) × Same (means s) (means t)
