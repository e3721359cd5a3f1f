-- Wider words.
use Rattle.std.specs.Prelude.{◌≡◌, ℕ, zero, suc, ◌≤◌, true, ℤ}
use Rattle.std.proofs.Common.{arith, pow_mono}
use borrow.Author.Differences.{ints}
use borrow.Author.Tests.{clash}
use Rattle.std.proofs.lemmas.Bool.Decides.{nat_tests}
use Rattle.std.proofs.lemmas.Bool.{and_parts, and_from}
use Rattle.fixed.specs.Word.{fits_word}
use Rattle.rows.specs.declared.range.SumRange.{SumRange}
use Rattle.rows.specs.Range.{range_fits}

-- a wider word holds what a narrower one does
pub fits_wider : (v w : ℕ) (z : ℤ) → v ≤ w → fits_word v z ≡ true → fits_word w z ≡ true
fits_wider zero w z h e = absurd (clash e)
fits_wider (suc j) zero z h e = absurd (omega arith)
fits_wider (suc j) (suc k) z h e = let i : j ≤ k = omega arith in let m = pow_mono i in grind (arith, ints, nat_tests)

pub range-wider : (v w : ℕ) (r : SumRange) → v ≤ w → range_fits v r ≡ true → range_fits w r ≡ true
range-wider v w r h e =
    let p = and_parts (fits_word v r.low) (fits_word v r.high) e in
    and_from _ _ (fits_wider v w r.low h p.0) (fits_wider v w r.high h p.1)
