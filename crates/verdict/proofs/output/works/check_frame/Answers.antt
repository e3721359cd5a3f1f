use Rattle.std.proofs.Common.{pos, sym, ap, ◌∙◌, arith, Ok, zip}
use Rattle.verdict.specs.Output.{range_fault, frame_fault, unless_fault}
use Rattle.fixed.specs.Wire.{no_row}
use Rattle.verdict.proofs.Places.{length-zipped, fault-at}
use Rattle.std.proofs.lemmas.List.Quantifiers.{position-Some}
use Rattle.verdict.proofs.output.works.check_frame.Goals as goal

pub overflow_cast-result : goal.overflow_cast-result
overflow_cast-result c =
    let found = position-Some _ (zip c.as_slice-inputs.result.now c.args.codes.now) c.in-Some.input (no_row, pos 0) (sym c.first_outside.ensures ∙ c.in-Some.is) in
    omega (arith, found.0, c.as_slice-inputs.ensures.fits, length-zipped c.as_slice-inputs.result.now c.args.codes.now (omega arith))

pub returns-in-Some : goal.returns-in-Some
returns-in-Some c =
    ap (λ o. unless_fault (range_fault o) (Ok tt)) (sym c.in-Some.is ∙ c.first_outside.ensures) ∙ fault-at c.as_slice-inputs.result.now c.args.codes.now (Ok tt) (omega arith)
    ∙ ap (λ xs. unless_fault (frame_fault xs c.args.codes.now) (Ok tt)) c.as_slice-inputs.ensures.value

pub returns-in-None : goal.returns-in-None
returns-in-None c =
    ap (λ o. unless_fault (range_fault o) (Ok tt)) (sym c.in-None.is ∙ c.first_outside.ensures) ∙ fault-at c.as_slice-inputs.result.now c.args.codes.now (Ok tt) (omega arith)
    ∙ ap (λ xs. unless_fault (frame_fault xs c.args.codes.now) (Ok tt)) c.as_slice-inputs.ensures.value
