use Rattle.std.proofs.Common.{◌-◌, length, sym, ap, ◌∙◌, arith}
use Rattle.stages.specs.declared.shape.Shape.{Shape}
use Rattle.stages.specs.Kind.{map_ok, over}
use Rattle.stages.specs.Network.{stand}
use Rattle.stages.specs.Wires.{wires_in}
use Rattle.settings.specs.declared.fields.Fields.{Fields}
use Rattle.verdict.specs.Bench.{bench_in}
use Rattle.verdict.specs.Loaded.{loaded_in}
use Rattle.verdict.specs.Opened.{head_in}
use Rattle.verdict.specs.Stages.{wires_from}
use Rattle.verdict.specs.Verdict.{verdict_of}
use Rattle.verdict.proofs.Accepted.{none-refused}
use Rattle.verdict.proofs.Benches.{bench-file}
use Rattle.verdict.proofs.bench.bench_of.Goals as goal

pub returns-in_default-judge_stages : goal.returns-in_default-judge_stages
returns-in_default-judge_stages g c =
    let mean = g.K.KindSet.meaning in
    let m = mean c.in-Ok.network.kinds.now in
    let h = head_in c.in-Ok.network c.in-Ok.inputs in
    let k = c.args.stage - 1 in
    let count = ap (λ (f : Fields). f.stages) c.fields.ensures in
    let judged = ap (λ s. verdict_of (mean s) c.args.file.now) c.in-Ok.ensures.kinds ∙ sym c.in-Ok-judge_file.ensures in
    let at = ap (λ (s : Shape). wires_from m h.header.accumulator h.rest 0 k (stand s h.inputs)) (sym c.in-Ok.ensures.shape) in
    absurd (none-refused m c.args.file.now h c.in-Ok-judge_file.field-0 k c.in_default-judge_stages.field-0
    (sym c.in-Ok.ensures.head) judged (omega (arith, count)) (at ∙ sym c.in_default-judge_stages.ensures))

pub returns : goal.returns
returns g c =
    let mean = g.K.KindSet.meaning in
    let m = mean c.in-Ok.network.kinds.now in
    let h = head_in c.in-Ok.network c.in-Ok.inputs in
    let k = c.args.stage - 1 in
    let count = ap (λ (f : Fields). f.stages) c.fields.ensures in
    let judged = ap (λ s. verdict_of (mean s) c.args.file.now) c.in-Ok.ensures.kinds ∙ sym c.in-Ok-judge_file.ensures in
    let at = ap (λ (s : Shape). wires_from m h.header.accumulator h.rest 0 k (stand s h.inputs)) (sym c.in-Ok.ensures.shape) in
    let there = bench-file m c.args.file.now h c.in-Ok-judge_file.field-0 k c.args.stage (wires_in c.in-Ok-judge_stages.before) c.args.codes.now (length c.args.out.now)
    (sym c.in-Ok.ensures.head) judged (omega arith) (omega (arith, count)) (at ∙ sym c.in-Ok-judge_stages.ensures)
    ∙ ap (λ s. bench_in (mean s) (loaded_in (mean s) c.args.file.now) c.args.stage c.args.codes.now (length c.args.out.now)) c.in-Ok.ensures.kinds in
    record { answer = c.try_stage.ensures.answer ∙ ap (map_ok length) there; buffer = c.try_stage.ensures.buffer ∙ ap (λ r. over r c.args.out.now) there }
