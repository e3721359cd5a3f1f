use Rattle.std.proofs.Common.{◌≡◌, ◌+◌, ◌≤◌, length, Ok, ap, arith, rules}
use Rattle.std.proofs.lemmas.Bool.{le-leb, cond-true}
use Rattle.stages.specs.Wires.{wires_in}
use Rattle.verdict.specs.Front.{fitting}
use Rattle.verdict.proofs.Judged.{codes-many}
use Rattle.verdict.proofs.bench.try_stage.Goals as goal

pub returns : goal.returns
returns g c =
    let before = c.args.before in
    let words = c.args.network.now.header.words in
    let made = c.as_slice.result.now in
    let many = codes-many _ (g.met.K.KindSet.lawful c.args.network.now.kinds.now) c.args.network.now.header.fields.accumulator (c.args.k + 1) c.in_ok-split.split.front.now
    (wires_in before) (wires_in c.judge_record.new.wires) c.args.codes.now c.run_record.new.after.items
    words.1 words.2 before.stands c.in-Ok.ensures.answer (omega arith) c.in_ok-run_record.ensures.answer in
    let room : length made ≤ length c.args.out.now = omega (arith, many, ap length c.as_slice.ensures.value) in
    let fit : fitting (length c.args.out.now) made ≡ Ok made = cond-true _ _ _ (le-leb _ _ room) in
    record { answer = search rules; buffer = search rules }
