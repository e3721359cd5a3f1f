-- Division that rounds toward minus infinity. Assumes nothing.
use Rattle.std.specs.Prelude.{ℕ, ◌^◌, ℤ, pos, ◌+ℤ◌, ◌*ℤ◌, ◌≤ℤ◌, ◌<ℤ◌}
use Rattle.std.specs.Int.Signed.{shr_z}

-- the quotient of z by 2 ^ k, rounded toward minus infinity
abbrev pub floor_shift : ℤ → ℕ → ℤ
floor_shift z k = shr_z z (2 ^ k)

-- q is the greatest integer that is at most z / d
pub record Floors (z : ℤ) (d : ℕ) (q : ℤ) : Type 0 where
  pub at_most : (q *ℤ pos d) ≤ℤ z
  pub next_above : z <ℤ ((q +ℤ pos 1) *ℤ pos d)
