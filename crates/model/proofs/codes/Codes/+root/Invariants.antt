use Rattle.model.proofs.codes.Codes.+root.Given as goal

abbrev pub decreases-root : goal.decreases-root
decreases-root l = l.fuel
