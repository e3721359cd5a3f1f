use Rattle.std.proofs.Common.{◌≡◌, ◌+◌, ◌*◌, ◌^◌, ◌≤◌, length}
use Rattle.std.specs.Slice.Iter.{iter_rest}
use Rattle.std.specs.Iterator.Adapters.{zip_first, zip_second}
use Rattle.rows.specs.Row.{spread}
use Rattle.rows.proofs.row.error.Row+WireRow.spread.Given as goal

abbrev pub invariant-loop-weight : goal.invariant-loop-weight
invariant-loop-weight l =
    (l.total + length (iter_rest (zip_first l.weight-iterator)) * 2 ^ 80 ≤ 64 * 2 ^ 80)
    × (spread l.self.format.scales l.self.weights.now l.self.inputs.now
    ≡ l.total + spread l.self.format.scales (iter_rest (zip_first l.weight-iterator)) (iter_rest (zip_second l.weight-iterator)))
