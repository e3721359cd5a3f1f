use Rattle.std.proofs.Common.{◌≡◌}
use Rattle.std.specs.Slice.Iter.{iter_rest}
use Rattle.std.specs.Iterator.Adapters.{zip_first, zip_second}
use Rattle.rows.specs.Row.{weight_codes, bias_code}
use Rattle.rows.specs.Walk.{walked}
use Rattle.rows.proofs.row.Row.sum.Given as goal

abbrev pub invariant-loop-weight : goal.invariant-loop-weight
invariant-loop-weight g l =
    let m = g.Q.Quantity in
    let s = l.self.format.scales in
    walked (m.fitting s.bits) m.plus m.times (m.biased (bias_code s l.self.bias)) (weight_codes s l.self.weights.now) l.self.inputs.now
    ≡ walked (m.fitting s.bits) m.plus m.times l.sum (weight_codes s (iter_rest (zip_first l.weight-iterator))) (iter_rest (zip_second l.weight-iterator))
