use Rattle.std.proofs.Common.{sym, rules}
use Rattle.std.proofs.Output.{has_written_append, has_written_of_eq}
use Rattle.inspect.proofs.Lines.{inputs_more}
use Rattle.inspect.proofs.inputs.InputLinesDisplay.fmt.Goals as goal

pub loop-index-preserved : goal.loop-index-preserved
loop-index-preserved g c = λ plain.
    let more = inputs_more c.args.self.now.format.fraction c.loop-index.index c.args.self.now.rows.now c.loop-index-test.true in
    has_written_of_eq _ _ _ _ _ (sym more) (has_written_append _ _ _ _ _ _ (c.loop-index.invariant plain) (search rules))
