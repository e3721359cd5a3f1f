-- Ranges of sums. Assumes nothing.
use Rattle.std.specs.Prelude.{ℕ, Bool, cond, ◌&&◌, ℤ, pos, ◌+ℤ◌, ◌*ℤ◌, int_lt}
use Rattle.fixed.specs.Word.{fits_word}
use Rattle.fixed.specs.Floor.{floor_shift}
use Rattle.fixed.specs.declared.row.WireRow.{WireRow}
use Rattle.rows.specs.declared.range.SumRange.{SumRange}

abbrev pub range_plus : SumRange → SumRange → SumRange
range_plus a b = record { low = a.low +ℤ b.low; high = a.high +ℤ b.high }

-- a negative weight code swaps the ends
abbrev pub range_times : ℤ → WireRow → SumRange
range_times q x = record {
  low = cond (int_lt q (pos 0)) (q *ℤ x.high) (q *ℤ x.low);
  high = cond (int_lt q (pos 0)) (q *ℤ x.low) (q *ℤ x.high);
}

abbrev pub range_fits : ℕ → SumRange → Bool
range_fits w r = fits_word w r.low && fits_word w r.high

abbrev pub range_shift : SumRange → ℕ → SumRange
range_shift r k = record { low = floor_shift r.low k; high = floor_shift r.high k }
