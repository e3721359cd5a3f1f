-- A file in hexadecimal digits. Assumes nothing.
use Rattle.std.specs.Prelude.{ℕ, ◌+◌, ◌-◌, ◌*◌, cond, ◌&&◌, List, map, nat_le, slice_index}
use Rattle.std.specs.List.{range_with_len}

-- 0 to 9 and a to f, by their character codes; any other character counts as 0
abbrev pub hex_digit_value : ℕ → ℕ
hex_digit_value c = cond (nat_le 48 c && nat_le c 57) (c - 48) (cond (nat_le 97 c && nat_le c 102) (c - 87) 0)

-- byte i by its two digits
abbrev pub byte_in : List ℕ → ℕ → ℕ
byte_in line i = 16 * hex_digit_value (slice_index line (2 * i)) + hex_digit_value (slice_index line (2 * i + 1))

-- n bytes
abbrev pub bytes_in : List ℕ → ℕ → List ℕ
bytes_in line n = map (byte_in line) (range_with_len 0 n)
