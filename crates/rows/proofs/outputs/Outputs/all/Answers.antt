use Rattle.std.proofs.Common.{sym, ◌∙◌, arith}
use Rattle.std.proofs.lemmas.Result.{err_from_is_err_and}
use Rattle.rows.specs.Outputs.{outputs_fail}
use Rattle.rows.proofs.outputs.Outputs.all.Goals as goal

pub returns-in_err-one-clause-answer : goal.returns-in_err-one-clause-answer
returns-in_err-one-clause-answer g c =
    let p = err_from_is_err_and c.from_residual.result c.from_residual.ensures.1 in
    let refused = sym c.one.ensures ∙ c.in_err-one.was in
    rw (p.1, p.2) (sym (outputs_fail _ 0 c.loop-o.o _ c.loop-o.o c.loop-o.made.items _ (omega arith) (omega arith) c.loop-o.invariant.1 refused))
