use Rattle.std.proofs.Common.{sym, rules}
use Rattle.std.proofs.lemmas.List.{take_rest, drop_all}
use Rattle.settings.specs.Head.{input_rows}
use Rattle.settings.specs.Records.{Split}
use Rattle.settings.proofs.Heads.{head-read, head-err}
use Rattle.settings.proofs.HeadLaws.{head_law}
use Rattle.settings.proofs.head.reads.read_head.Goals as goal

pub returns-in_err-checked_inputs-clause-answer : goal.returns-in_err-checked_inputs-clause-answer
returns-in_err-checked_inputs-clause-answer c =
    let s : Split = record { front = c.in_ok-front.field-0.front.now; rest = c.in_ok-front.field-0.rest.now } in
    let e = head-err c.args.file.now c.in_ok-records.field-0.now s c.in_ok-header.header.fields c.in_err-checked_inputs.field-0.0
    (sym c.in_ok-records.ensures) (sym c.in_ok-front.ensures) (sym c.in_ok-header.ensures) (sym c.in_err-checked_inputs.ensures) in
    search rules

pub returns : goal.returns
returns c =
    let s : Split = record { front = c.in_ok-front.field-0.front.now; rest = c.in_ok-front.field-0.rest.now } in
    let t = head-read c.args.file.now c.in_ok-records.field-0.now s c.in_ok-header.header.fields (input_rows c.in_ok-front.field-0.front.now c.in_ok-header.header.fields.inputs)
    (sym c.in_ok-records.ensures) (sym c.in_ok-front.ensures) (sym c.in_ok-header.ensures) (sym c.in_ok-checked_inputs.ensures) in
    let a = t.0 in
    let b = t.1 in
    record { answer = search (rules, take_rest, drop_all); start = search (rules, take_rest, drop_all); law = head_law c.args.file.now }
