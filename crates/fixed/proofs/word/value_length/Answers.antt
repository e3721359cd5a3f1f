use Rattle.std.proofs.lemmas.Int.{to_z-of_z}
use Rattle.fixed.proofs.Words.{fits-by-least}
use Rattle.fixed.proofs.word.value_length.Goals as goal

pub returns : goal.returns
returns c =
    let f = c.ranges.value in
    let l = simp to_z-of_z at c.length.ensures.least in
    record { words = fits-by-least c.args.value c.length.result l; least = l; bound = c.length.ensures.bound }
