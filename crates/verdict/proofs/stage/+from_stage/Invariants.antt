use Rattle.verdict.proofs.stage.+from_stage.Given as goal

abbrev pub decreases-from_stage : goal.decreases-from_stage
decreases-from_stage l = l.k
