-- Numbers of several bytes, high byte first. Assumes nothing.
use Rattle.std.specs.Prelude.{ℕ, ◌+◌, ◌*◌, ◌^◌, cond, List, ℤ, pos, ◌-ℤ◌, nat_lt, slice_index}

-- bytes past the end are 0
abbrev pub u16_at : List ℕ → ℕ → ℕ
u16_at xs i = slice_index xs i * 256 + slice_index xs (i + 1)

abbrev pub u32_at : List ℕ → ℕ → ℕ
u32_at xs i = slice_index xs i * 16777216 + slice_index xs (i + 1) * 65536 + slice_index xs (i + 2) * 256 + slice_index xs (i + 3)

-- the same in two's complement
abbrev pub i32_at : List ℕ → ℕ → ℤ
i32_at xs i = cond (nat_lt (u32_at xs i) (2 ^ 31)) (pos (u32_at xs i)) (pos (u32_at xs i) -ℤ pos (2 ^ 32))
