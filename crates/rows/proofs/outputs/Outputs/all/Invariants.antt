use Rattle.std.proofs.Common.{◌≡◌, length, Ok}
use Rattle.rows.specs.Layout.{row_at, outputs_from}
use Rattle.rows.proofs.outputs.Outputs.all.Given as goal

abbrev pub invariant-loop-o : goal.invariant-loop-o
invariant-loop-o g l =
    let f = row_at (g.V.Evaluated.row_of l.self.format.scales) l.self.coefficients.layout l.self.coefficients.bytes.now l.self.inputs.now in
    (length l.made.items ≡ l.o) × (outputs_from f 0 l.o ≡ Ok l.made.items)
