use Rattle.std.proofs.Common.{rules, arith, w32, SFits}
use Rattle.std.proofs.lemmas.Grind.{common_steps}
use Rattle.std.proofs.lemmas.Int.{to_z-of_z}
use Rattle.rows.proofs.Codes.{all_fit_is}
use Rattle.rows.proofs.row.wire.WireRowEvaluated.output.Goals as goal

pub returns : goal.returns
returns c =
    let low : SFits w32 c.in_ok-low.low = search rules in
    let high : SFits w32 c.in_ok-low.high = search rules in
    simp to_z-of_z (grind (arith, common_steps, all_fit_is))
