use Rattle.std.proofs.Common.{◌+◌, ◌∷◌, length, take, ap, ◌∙◌, sym, arith}
use Rattle.std.proofs.lemmas.List.{take_rest, length-drop}
use Rattle.script.specs.Parts.{split}
use Rattle.script.proofs.Parts.{cut-none, cut-some}
use Rattle.script.proofs.part.first_part.Goals as goal

pub returns-in-Some : goal.returns-in-Some
returns-in-Some c =
    let at = c.in-Some.at in
    let text = c.args.text.now in
    let cut = cut-some 32 at text (sym c.in-Some.is ∙ c.first_space.ensures) in
    let rest = take_rest text (at + 1) in
    record {
      parts = cut.1 ∙ ap (λ t. take at text ∷ split 32 t) (sym rest);
      shorter = omega (arith, ap length rest, length-drop (at + 1) text, cut.0);
    }

pub returns-in-None : goal.returns-in-None
returns-in-None c =
    record { parts = cut-none 32 c.args.text.now (sym c.in-None.is ∙ c.first_space.ensures); shorter = tt }
