use Rattle.model.proofs.codes.Codes.+occurs.Given as goal

abbrev pub decreases-occurs : goal.decreases-occurs
decreases-occurs l = l.fuel
