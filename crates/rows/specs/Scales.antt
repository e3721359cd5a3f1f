-- The limits of the formats that meet in a row. Assumes nothing.
use Rattle.std.specs.Prelude.{ℕ, ◌+◌, ◌-◌, ◌≤◌, Bool, ◌&&◌, nat_le}
use Rattle.fixed.specs.Format.{is_format}
use Rattle.rows.specs.declared.scales.Scales.{Scales}

-- weights have limits of their own, and need not be in a format
abbrev pub WeightLimits : Scales → Type 0
WeightLimits s = (4 ≤ s.fw) × (s.fw ≤ 20) × (2 ≤ s.ww) × (s.ww ≤ 24)

-- products have at most 24 fraction bits, of which the output keeps some
abbrev pub ShiftLimits : Scales → Type 0
ShiftLimits s = (s.fw + s.fx ≤ 24) × (s.fy ≤ s.fw + s.fx)

abbrev pub SumLimits : Scales → Type 0
SumLimits s = (16 ≤ s.bits) × (s.bits ≤ 56)

-- what a stage's record has to keep, as a test
abbrev pub scales_fit : Scales → Bool
scales_fit s =
    nat_le 4 s.fw && nat_le s.fw 20 && nat_le 2 s.ww && nat_le s.ww 24 && is_format s.wy s.fy && nat_le (s.fw + s.fx) 24
    && nat_le s.fy (s.fw + s.fx)

-- the bits that the output drops from a sum
abbrev pub dropped : Scales → ℕ
dropped s = s.fw + s.fx - s.fy
