use Rattle.std.proofs.Common.{Ok, Err, ◌∙◌, arith, rules}
use Rattle.stages.specs.Wires.{wires_in}
use Rattle.verdict.specs.Running.{frame}
use Rattle.verdict.proofs.Steps.{frame-step}
use Rattle.verdict.proofs.network.Network.run_stages.Goals as goal

pub returns-in_err-run_stage : goal.returns-in_err-run_stage
returns-in_err-run_stage g c =
    let told = c.loop-k.invariant.1
    ∙ frame-step (g.K.KindSet.meaning c.args.self.now.kinds.now) c.args.self.now.header.fields.accumulator c.args.self.now.records.now c.loop-k.k c.args.stages
    (frame (wires_in c.loop-k.wires) c.loop-k.codes.items) (Err c.in_err-run_stage.field-0.0) (omega arith) c.in_err-run_stage.ensures.value in
    search rules

pub loop-k-preserved : goal.loop-k-preserved
loop-k-preserved g c = (
  c.in_ok-run_stage.ensures.many,
  c.loop-k.invariant.1
      ∙ frame-step (g.K.KindSet.meaning c.args.self.now.kinds.now) c.args.self.now.header.fields.accumulator c.args.self.now.records.now c.loop-k.k c.args.stages
      (frame (wires_in c.loop-k.wires) c.loop-k.codes.items) (Ok (frame (wires_in c.run_stage.new.wires) c.run_stage.new.codes.items)) (omega arith) c.in_ok-run_stage.ensures.value,
)
