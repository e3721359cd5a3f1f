use Rattle.std.proofs.Common.{◌+◌, length, ap, ◌∙◌}
use Rattle.stages.specs.Wires.{wires_in}
use Rattle.verdict.proofs.Judged.{codes-many}
use Rattle.verdict.proofs.network.Network.run_stage.Goals as goal

pub returns-clause-many : goal.returns-clause-many
returns-clause-many g c =
    let before = c.args.wires.now in
    let words = c.args.self.now.header.words in
    codes-many _ (g.met.K.KindSet.lawful c.args.self.now.kinds.now) c.args.self.now.header.fields.accumulator
    (c.args.k + 1) c.in_ok-split.split.front.now (wires_in before) (wires_in c.judge_record.new.wires) c.as_slice.result.now c.run_record.new.after.items
    words.1 words.2 before.stands c.in_ok-judge_record.ensures.answer (ap length c.as_slice.ensures.value ∙ c.requires.many) c.in_ok-run_record.ensures.answer
