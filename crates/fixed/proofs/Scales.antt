-- Codes in grains: nothing is lost on the way to 64 bits.
use Rattle.std.proofs.Common.{◌≡◌, ℕ, suc, ◌*◌, ◌%◌, ◌^◌, ◌<◌, ◌≤◌, ℤ, pos, negsuc, ◌*ℤ◌, ap, ◌∙◌, mul-le-mul, arith, pow_mono, w64, SFits, to_z}
use lib.Signed.{mag}
use borrow.Author.Differences.{mag_is, product_is}
use Rattle.std.proofs.lemmas.Nat.{one_shl, pow_below}
use Rattle.std.proofs.lemmas.Int.{to_z_pos}

-- the unit of a code with 24 - k fraction bits, as the machine shifts it
pub unit-is : (k : ℕ) → k < 63 → to_z w64 ((1 * 2 ^ k) % 2 ^ 64) ≡ pos (2 ^ k)
unit-is k h = ap (to_z w64) (one_shl k 64 (omega arith)) ∙ to_z_pos w64 (2 ^ k) (pow_below k 63 h)

pub scaled_fits : (c : ℤ) (k : ℕ) → mag c < 2 ^ 31 → k ≤ 24 → SFits w64 (c *ℤ pos (2 ^ k))
scaled_fits (pos a) k h i =
    let l : a ≤ 2 ^ 31 = omega arith in record { sfits = omega (arith, mul-le-mul l (pow_mono i), mag_is, product_is) }
scaled_fits (negsuc a) k h i =
    let l : suc a ≤ 2 ^ 31 = omega arith in record { sfits = omega (arith, mul-le-mul l (pow_mono i), mag_is, product_is) }
