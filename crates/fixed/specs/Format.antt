-- Fixed-point formats. Assumes nothing.
use Rattle.std.specs.Prelude.{ℕ, ◌+◌, ◌-◌, ◌^◌, ◌≤◌, Bool, ◌&&◌, ℤ, pos, ◌*ℤ◌, nat_le}

-- A format is a two's complement word of w bits, f of them fraction bits: 2 to 24 bits, at most 20 of them fraction, 1 to 10 of them not.
abbrev pub IsFormat : ℕ → ℕ → Type 0
IsFormat w f = (2 ≤ w) × (w ≤ 24) × (f ≤ 20) × (f + 1 ≤ w) × (w ≤ f + 10)

-- the same as a test
abbrev pub is_format : ℕ → ℕ → Bool
is_format w f = nat_le 2 w && nat_le w 24 && nat_le f 20 && nat_le (f + 1) w && nat_le w (f + 10)

-- A grain is 2^-24, the unit of errors, levels and weights. Code c with f fraction bits stands for c * 2^(24-f) grains.
abbrev pub grains_of : ℕ → ℤ → ℤ
grains_of f c = c *ℤ pos (2 ^ (24 - f))
