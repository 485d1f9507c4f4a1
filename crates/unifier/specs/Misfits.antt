-- What is answered where pairs cannot be made equal.
use Rattle.system.specs.declared.fault.SystemFault.{SystemFault}
use Rattle.system.specs.declared.fault.SystemFault.TheVariants.{Clash as TwoHeads, NoCells}
use Rattle.unifier.specs.declared.misfit.Misfit.{Misfit}
use Rattle.unifier.specs.declared.misfit.Misfit.TheVariants.{Clash, Full}

abbrev pub misfit_fault : Misfit → SystemFault
misfit_fault Clash = TwoHeads
misfit_fault Full = NoCells
