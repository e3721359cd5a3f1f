use Rattle.std.proofs.Common.{◌≡◌, ◌-◌, length}
use Rattle.stages.specs.Wires.{wires_in}
use Rattle.verdict.specs.Frames.{frame_in}
use Rattle.verdict.specs.Running.{frame, frame_from}
use Rattle.verdict.proofs.network.Network.run_stages.Given as goal

abbrev pub invariant-loop-k : goal.invariant-loop-k
invariant-loop-k g l =
    let m = g.K.KindSet.meaning l.self.kinds.now in
    let a = l.self.header.fields.accumulator in
    let xs = l.self.records.now in
    (length l.codes.items ≡ l.wires.shape.count)
    × (frame_from m a xs 0 l.stages (frame_in l.fn.inputs) ≡ frame_from m a xs l.k (l.stages - l.k) (frame (wires_in l.wires) l.codes.items))
