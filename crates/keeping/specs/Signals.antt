-- The larger of two signals, and a signal without its negative part: codes and exact values, and wires. Assumes nothing.
use Rattle.std.specs.Prelude.{max, ℤ, pos}
use Rattle.std.specs.Int.{int_max}
use Rattle.fixed.specs.declared.row.WireRow.{WireRow}

-- a negative number becomes 0, any other stays
abbrev pub rectified : ℤ → ℤ
rectified z = int_max z (pos 0)

-- the larger low, the larger high and the larger error, each found separately
abbrev pub larger_row : WireRow → WireRow → WireRow
larger_row x y = record { low = int_max x.low y.low; high = int_max x.high y.high; error = max x.error y.error }

-- both ends go the way of codes, the error is kept
abbrev pub rectified_row : WireRow → WireRow
rectified_row x = record { low = rectified x.low; high = rectified x.high; error = x.error }
