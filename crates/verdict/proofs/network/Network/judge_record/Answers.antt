use Rattle.std.proofs.Common.{◌≡◌, Ok, Result, rules}
use Rattle.stages.specs.declared.shape.KindRefusal.{KindRefusal}
use Rattle.stages.specs.Network.{Stand, stand, wires_after}
use Rattle.stages.specs.Wires.{wires_in}
use Rattle.verdict.proofs.Judged.{judged-in}
use Rattle.verdict.proofs.network.Network.judge_record.Goals as goal

pub invariant_of-wires : goal.invariant_of-wires
invariant_of-wires g c =
    let m = g.K.KindSet.meaning c.args.self.now.kinds.now in
    let a = c.args.self.now.header.fields.accumulator in
    let words = c.args.self.now.header.words in
    let st = wires_in c.args.wires.now in
    let told : ◌≡◌ {A = Result Stand KindRefusal} (Ok (stand c.in_ok-shape.shape c.judge.new.after.items)) (wires_after m a c.args.bytes.now st) = search rules in
    record { stands = judged-in m (g.met.K.KindSet.lawful c.args.self.now.kinds.now) a c.args.bytes.now st _ _ words.1 words.2 c.args.wires.now.stands told }
