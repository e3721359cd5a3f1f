use Rattle.std.proofs.Common.{Ok, Err, ◌∙◌, arith, rules}
use Rattle.stages.specs.Wires.{wires_in}
use Rattle.verdict.proofs.Steps.{wires-step}
use Rattle.verdict.proofs.network.Network.judge_stages.Goals as goal

pub returns-in_err-judge_stage : goal.returns-in_err-judge_stage
returns-in_err-judge_stage g c =
    let told = c.loop-k.invariant
    ∙ wires-step (g.K.KindSet.meaning c.args.self.now.kinds.now) c.args.self.now.header.fields.accumulator c.args.self.now.records.now c.loop-k.k c.args.stages
    (wires_in c.loop-k.wires) (Err c.in_err-judge_stage.field-0.0) (omega arith) c.in_err-judge_stage.ensures.answer in
    search rules

pub loop-k-preserved : goal.loop-k-preserved
loop-k-preserved g c =
    c.loop-k.invariant
    ∙ wires-step (g.K.KindSet.meaning c.args.self.now.kinds.now) c.args.self.now.header.fields.accumulator c.args.self.now.records.now c.loop-k.k c.args.stages
    (wires_in c.loop-k.wires) (Ok (wires_in c.judge_stage.new.wires)) (omega arith) c.in_ok-judge_stage.ensures.answer
