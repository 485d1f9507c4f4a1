use Rattle.classes.proofs.judge.+judge.Given as goal

-- heads that can follow one another
abbrev pub decreases-judge : goal.decreases-judge
decreases-judge g l = g.S.System.rank l.below.now l.code.0
