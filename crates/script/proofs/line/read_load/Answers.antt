use Rattle.std.proofs.Common.{◌∷◌, None, sym, refl, ap, ◌∙◌}
use Rattle.script.specs.Lines.{load_of}
use Rattle.script.specs.Parts.{parts_behind}
use Rattle.script.proofs.Parts.{part-behind}
use Rattle.script.proofs.line.read_load.Goals as goal

pub returns-in-Some-behind : goal.returns-in-Some-behind
returns-in-Some-behind c =
    let digits = c.first_part-digits.result in
    sym (ap (λ b. load_of (parts_behind b)) c.in-Some.is ∙ ap load_of c.first_part-digits.ensures.parts
    ∙ part-behind (λ ps. load_of (digits.part.now ∷ ps)) None (λ p ps. refl) digits.behind c.in-Some-behind.field-0 c.in-Some-behind.is)
