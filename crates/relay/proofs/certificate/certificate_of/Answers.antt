use Rattle.std.proofs.Common.{rules, ◌≡◌, ℕ, length, Some, Ok, Err, Result, sym, ap, ◌∙◌, arith}
use Rattle.stages.specs.Kind.{map_ok, over}
use Rattle.stages.specs.Network.{Stand}
use Rattle.settings.specs.declared.refusal.Refusal.{Refusal}
use Rattle.verdict.specs.Front.{fitting}
use Rattle.verdict.specs.Loaded.{fields_in, loaded_in}
use Rattle.verdict.specs.Table.{wires_in}
use Rattle.relay.specs.Certificate.{rows_for}
use Rattle.relay.proofs.Accepted.{certifies, same-wires}
use Rattle.relay.proofs.certificate.certificate_of.Goals as goal

pub returns-in_default : goal.returns-in_default
returns-in_default g c =
    let m = g.K.KindSet.meaning c.args.kinds.now in
    let told : Some c.in_ok-fields.fields ≡ fields_in (loaded_in m c.args.file.now) = search rules in
    let t = certifies m c.args.file.now c.in_ok-fields.fields c.args.stage (length c.args.out.now) told (omega arith) in
    let e : ◌≡◌ {A = Result Stand Refusal} (Err c.in_default.field-0) (Ok t.wires) = c.in_default.ensures ∙ t.found in
    let z : ◌≡◌ {A = ℕ} 0 1 = cc in
    absurd (omega arith)

pub returns : goal.returns
returns g c =
    let m = g.K.KindSet.meaning c.args.kinds.now in
    let out = c.args.out.now in
    let told : Some c.in_ok-fields.fields ≡ fields_in (loaded_in m c.args.file.now) = search rules in
    let t = certifies m c.args.file.now c.in_ok-fields.fields c.args.stage (length out) told (omega arith) in
    let same = same-wires (wires_in c.in-Ok.wires) t.wires (c.in-Ok.ensures ∙ t.found) in
    let made = c.as_slice.ensures.value ∙ c.certified_rows.ensures in
    let e = ap (fitting (length out)) made ∙ ap (rows_for (length out)) same ∙ sym t.rows in
    record { answer = c.write_front.ensures.answer ∙ ap (map_ok length) e; buffer = c.write_front.ensures.buffer ∙ ap (λ r. over r out) e }
