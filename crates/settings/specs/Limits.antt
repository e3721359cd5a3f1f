-- The fields of a header record and their limits. Assumes nothing.
use Rattle.std.specs.Prelude.{ℕ, ◌≤◌, Bool, ◌&&◌, List, nat_le, slice_index}
use Rattle.fixed.specs.Format.{IsFormat, is_format}
use Rattle.fixed.specs.Wire.{most_error}
use Rattle.fixed.specs.Bytes.{u16_at, u32_at, i32_at}
use Rattle.settings.specs.declared.fields.Fields.{Fields}

-- the first 21 bytes of a header record
abbrev pub fields_of : List ℕ → Fields
fields_of b = record {
  inputs = slice_index b 0;
  word = slice_index b 1;
  fraction = slice_index b 2;
  accumulator = slice_index b 3;
  stages = slice_index b 4;
  allowed_error = u32_at b 5;
  level = i32_at b 9;
  rise = u16_at b 13;
  fall = u16_at b 15;
  delay = u32_at b 17;
}

-- 1 to 64 inputs and 1 to 16 stages
abbrev pub Counts : Fields → Type 0
Counts h = (1 ≤ h.inputs) × (h.inputs ≤ 64) × (1 ≤ h.stages) × (h.stages ≤ 16)

abbrev pub counts_fit : Fields → Bool
counts_fit h = nat_le 1 h.inputs && nat_le h.inputs 64 && nat_le 1 h.stages && nat_le h.stages 16

-- the inputs in a format, an accumulator of 16 to 56 bits, an allowed error of at most one
abbrev pub Words : Fields → Type 0
Words h = IsFormat h.word h.fraction × (16 ≤ h.accumulator) × (h.accumulator ≤ 56) × (h.allowed_error ≤ most_error)

abbrev pub words_fit : Fields → Bool
words_fit h =
    is_format h.word h.fraction && nat_le 16 h.accumulator && nat_le h.accumulator 56 && nat_le h.allowed_error most_error

-- a rise of at least 1 and a delay of 1 to 1,000,000
abbrev pub Times : Fields → Type 0
Times h = (1 ≤ h.rise) × (1 ≤ h.delay) × (h.delay ≤ 1000000)

abbrev pub times_fit : Fields → Bool
times_fit h = nat_le 1 h.rise && nat_le 1 h.delay && nat_le h.delay 1000000

-- every field inside its limits; level and fall have none
abbrev pub in_limits : Fields → Bool
in_limits h = counts_fit h && words_fit h && times_fit h
