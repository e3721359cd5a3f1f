use Rattle.std.proofs.Common.{arith}
use Rattle.std.proofs.lemmas.Slice.Zip.{either_empty_from_Zip}
use Rattle.rows.proofs.Walks.{spread_end}
use Rattle.rows.proofs.row.error.Row+WireRow.spread.Goals as goal

pub returns-clause-value : goal.returns-clause-value
returns-clause-value c =
    let ended = either_empty_from_Zip c.loop-weight.weight-iterator c.next.new.self c.next.result c.in-None.is c.next.ensures.steps in
    omega (arith, c.loop-weight.invariant.1, spread_end c.args.self.now.format.scales _ _ ended)
