-- The test of a proper wire, and what it says.
use Rattle.std.proofs.Common.{◌≡◌, ℕ, true, arith}
use borrow.Author.Differences.{ints}
use Rattle.std.proofs.lemmas.Bool.Decides.{nat_tests}
use Rattle.fixed.specs.declared.row.WireRow.{WireRow}
use Rattle.fixed.specs.Wire.{Proper, is_proper}

pub proper-out : (w : ℕ) (row : WireRow) → is_proper w row ≡ true → Proper w row
proper-out w row e = grind (arith, ints, nat_tests)

pub proper-in : (w : ℕ) (row : WireRow) → Proper w row → is_proper w row ≡ true
proper-in w row p = grind (arith, ints, nat_tests)
