use Rattle.std.proofs.Common.{ap, sym, ◌∙◌}
use Rattle.std.specs.Bool.{then_some}
use Rattle.std.proofs.lemmas.Slice.Zip.{either_empty_from_Zip}
use Rattle.rows.specs.Row.{weight_code}
use Rattle.rows.proofs.Walks.{walked_end}
use Rattle.rows.proofs.row.Row.sum.Goals as goal

pub returns : goal.returns
returns g c =
    let m = g.Q.Quantity in
    let s = c.args.self.now.format.scales in
    let ended = either_empty_from_Zip c.loop-weight.weight-iterator c.next.new.self c.next.result c.in-None.is c.next.ensures.steps in
    let last = walked_end (m.fitting s.bits) m.plus m.times c.loop-weight.sum (weight_code s) _ _ ended in
    c.then_some.ensures ∙ ap (λ b. then_some b c.loop-weight.sum) c.fits-2.ensures ∙ sym (c.loop-weight.invariant ∙ last)
