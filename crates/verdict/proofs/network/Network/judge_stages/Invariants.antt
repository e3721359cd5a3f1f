use Rattle.std.proofs.Common.{◌≡◌, ◌-◌}
use Rattle.stages.specs.Wires.{wires_in}
use Rattle.verdict.specs.Stages.{wires_from}
use Rattle.verdict.proofs.network.Network.judge_stages.Given as goal

abbrev pub invariant-loop-k : goal.invariant-loop-k
invariant-loop-k g l =
    let m = g.K.KindSet.meaning l.self.kinds.now in
    let a = l.self.header.fields.accumulator in
    let xs = l.self.records.now in
    wires_from m a xs 0 l.stages (wires_in l.fn.inputs) ≡ wires_from m a xs l.k (l.stages - l.k) (wires_in l.wires)
