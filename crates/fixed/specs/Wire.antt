-- Wires. Assumes nothing.
use Rattle.std.specs.Prelude.{◌≡◌, ℕ, ◌≤◌, Bool, true, ◌&&◌, pos, ◌≤ℤ◌, int_le, nat_le}
use Rattle.fixed.specs.declared.row.WireRow.{WireRow}
use Rattle.fixed.specs.Word.{fits_word}

-- the largest error of a wire: one, in grains
abbrev pub most_error : ℕ
most_error = 16777216

-- A proper wire in a word of w bits: its ends in order and inside the word, its error at most one.
abbrev pub Proper : ℕ → WireRow → Type 0
Proper w row =
    (row.low ≤ℤ row.high) × (row.error ≤ most_error) × (fits_word w row.low ≡ true) × (fits_word w row.high ≡ true)

-- the same as a test
abbrev pub is_proper : ℕ → WireRow → Bool
is_proper w row = int_le row.low row.high && nat_le row.error most_error && fits_word w row.low && fits_word w row.high

-- what a list of rows is read as past its end
abbrev pub no_row : WireRow
no_row = record { low = pos 0; high = pos 0; error = 0 }
