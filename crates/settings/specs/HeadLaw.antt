-- What a reader may rely on in a head. Assumes nothing.
use Rattle.std.specs.Prelude.{◌≡◌, ℕ, ◌<◌, List, length, take, drop, Ok, Err, slice_index_or}
use Rattle.fixed.specs.Wire.{Proper, no_row}
use Rattle.settings.specs.declared.refusal.Refusal.TheVariants.{InputWire}
use Rattle.fixed.specs.Bytes.{u16_at}
use Rattle.settings.specs.Limits.{fields_of, Counts, Words, Times}
use Rattle.settings.specs.Head.{Head, head_of, input_row}

-- fields inside their limits, and as many inputs as the header says, each a proper wire
pub record Sound (h : Head) : Type 0 where
  pub counts : Counts h.header
  pub words : Words h.header
  pub times : Times h.header
  pub many : length h.inputs ≡ h.header.inputs
  pub proper : (i : ℕ) → i < h.header.inputs → Proper h.header.word (slice_index_or h.inputs i no_row)

-- the bytes of the header's record
abbrev pub header_bytes : List ℕ → List ℕ
header_bytes file = take (u16_at (drop 1 file) 0) (drop 2 (drop 1 file))

-- input i is no proper wire, and every input before it is
pub record FirstFault (b : List ℕ) (i : ℕ) : Type 0 where
  pub counted : i < (fields_of b).inputs
  pub improper : Proper (fields_of b).word (input_row b i) → ⊥
  pub before : (j : ℕ) → j < i → Proper (fields_of b).word (input_row b j)

-- an accepted head is sound, and a refused input is the first at fault
pub record HeadLaw (file : List ℕ) : Type 0 where
  pub accepted : (h : Head) → head_of file ≡ Ok h → Sound h
  pub refused : (i : ℕ) → head_of file ≡ Err (InputWire i) → FirstFault (header_bytes file) i
