use Rattle.std.proofs.Common.{sym, ap, ◌∙◌, subst}
use Rattle.stages.specs.declared.shape.Shape.{Shape}
use Rattle.stages.specs.Containment.{Stands}
use Rattle.settings.specs.Answer.{head_in}
use Rattle.verdict.specs.Verdict.{shape_in}
use Rattle.verdict.proofs.Heads.{opened-stand}
use Rattle.verdict.proofs.network.opens.open.Goals as goal

pub invariant_of-inputs : goal.invariant_of-inputs
invariant_of-inputs g c =
    let told = c.in_ok-head.ensures in
    let head = head_in c.in_ok-head.head in
    let stands = opened-stand c.args.file.now head told.law told.answer in
    let shape = c.input_shape.ensures ∙ ap shape_in c.fields.ensures in
    record { stands = subst (λ (s : Shape). Stands s c.inputs.result.items) (sym shape) (subst (Stands (shape_in head.header)) (sym c.inputs.ensures) stands) }
