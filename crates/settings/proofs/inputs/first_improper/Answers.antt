use Rattle.std.proofs.Common.{rules, tests, ◌≡◌, ℕ, Bool, true, false}
use Rattle.std.proofs.lemmas.Iterator.{first_from_Range}
use Rattle.fixed.specs.Wire.{is_proper}
use Rattle.settings.specs.Head.{input_row}
use Rattle.settings.proofs.Steps.{found-first}
use Rattle.settings.proofs.inputs.first_improper.Goals as goal

pub returns : goal.returns
returns c =
    let test : ℕ → Bool = λ i. is_proper c.args.format.word (input_row c.args.bytes.now i) in
    found-first test c.args.count c.find.result
    (first_from_Range _ _ _ c.find.result (λ i. test i ≡ false) (λ i. test i ≡ true) c.find.ensures.ran (λ x q k. search (rules, tests)) (λ x q k. search (rules, tests)))
