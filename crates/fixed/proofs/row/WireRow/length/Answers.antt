use Rattle.std.proofs.Common.{◌+◌, sym, w32, SFits, rules}
use Rattle.std.proofs.lemmas.Int.{to_z-of_z}
use Rattle.fixed.specs.Word.{Least}
use Rattle.fixed.proofs.Words.{bits-needed}
use Rattle.fixed.proofs.row.WireRow.length.Goals as goal

pub returns : goal.returns
returns c =
    let row = c.args.self.now in
    let f : SFits w32 row.low = search rules in
    let g : SFits w32 row.high = search rules in
    let l : Least row.low row.high (c.length.result + 1) = search (rules, to_z-of_z, c.length.ensures.least) in
    record { value = sym (bits-needed row.low row.high (c.length.result + 1) f.sfits g.sfits l); least = l; bound = c.length.ensures.bound }
