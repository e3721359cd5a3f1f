use Rattle.std.proofs.Common.{◌≡◌, ◌+◌, ◌*◌, map, length}
use Rattle.std.specs.List.{range_with_len}
use Rattle.rows.specs.Layout.{number_at}
use Rattle.rows.proofs.coefficients.Coefficients.weights.Given as goal

abbrev pub invariant-loop-j : goal.invariant-loop-j
invariant-loop-j l =
    (length l.weights.items ≡ l.j)
    × (l.weights.items ≡ map (λ j. number_at l.self.bytes.now (l.output * l.self.layout.stride + j)) (range_with_len 0 l.j))
