-- The head of a settings file: version, header and inputs. Assumes nothing.
use Rattle.std.specs.Prelude.{ℕ, ◌+◌, ◌*◌, Bool, cond, ◌&&◌, List, map, length, drop, Some, None, Ok, Err, Option, Result, ◌==◌, nat_le, slice_index}
use Rattle.std.specs.List.{range_with_len}
use Rattle.fixed.specs.Steps.{and_then}
use Rattle.fixed.specs.declared.row.WireRow.{WireRow}
use Rattle.fixed.specs.Wire.{is_proper}
use Rattle.settings.specs.declared.fields.Fields.{Fields}
use Rattle.settings.specs.declared.refusal.Refusal.{Refusal}
use Rattle.settings.specs.declared.refusal.Refusal.TheVariants.{FileSize, Version, HeaderLength, HeaderField, InputWire}
use Rattle.fixed.specs.Bytes.{u32_at, i32_at}
use Rattle.settings.specs.Records.{Split, split_record}
use Rattle.settings.specs.Firsts.{first_failing}
use Rattle.settings.specs.Limits.{fields_of, in_limits}

-- input i of a header record: low and high code and error, four bytes each
abbrev pub input_row : List ℕ → ℕ → WireRow
input_row b i = record { low = i32_at b (21 + 12 * i); high = i32_at b (25 + 12 * i); error = u32_at b (29 + 12 * i) }

abbrev pub input_rows : List ℕ → ℕ → List WireRow
input_rows b n = map (input_row b) (range_with_len 0 n)

-- a header record has 21 bytes of fields and 12 for each of its inputs, of which there is one at least
abbrev pub is_header : List ℕ → Bool
is_header b = nat_le 33 (length b) && length b == 21 + 12 * slice_index b 0

-- the records of a file of version 1
abbrev pub records_of : List ℕ → Result (List ℕ) Refusal
records_of file =
    cond (nat_le 1 (length file) && nat_le (length file) 65536)
    (cond (slice_index file 0 == 1) (Ok (drop 1 file)) (Err Version))
    (Err FileSize)

abbrev pub header_record : Option Split → Result Split Refusal
header_record None = Err HeaderLength
header_record (Some s) = cond (is_header s.front) (Ok s) (Err HeaderLength)

-- input i is a proper wire of the header's word
abbrev pub proper_input : List ℕ → ℕ → Bool
proper_input b i = is_proper (fields_of b).word (input_row b i)

abbrev pub first_improper : List ℕ → Option ℕ
first_improper b = first_failing (proper_input b) 0 (fields_of b).inputs

abbrev pub unless_improper : {A : Type 0} → Option ℕ → A → Result A Refusal
unless_improper None x = Ok x
unless_improper (Some i) x = Err (InputWire i)

-- the fields of a header record whose fields are inside their limits
abbrev pub limited_fields : List ℕ → Result Fields Refusal
limited_fields b = cond (in_limits (fields_of b)) (Ok (fields_of b)) (Err HeaderField)

-- the rows that a header with these fields counts in its record, if each is a proper wire
abbrev pub checked_inputs : List ℕ → Fields → Result (List WireRow) Refusal
checked_inputs b h = unless_improper (first_failing (λ i. is_proper h.word (input_row b i)) 0 h.inputs) (input_rows b h.inputs)

-- the fields of a header record that passes
abbrev pub checked_fields : List ℕ → Result Fields Refusal
checked_fields b = cond (in_limits (fields_of b)) (unless_improper (first_improper b) (fields_of b)) (Err HeaderField)

-- What the head of a file says, and the bytes that follow it.
pub record Head : Type 0 where
  pub header : Fields
  pub inputs : List WireRow
  pub rest : List ℕ

abbrev pub head_with : Split → Fields → Head
head_with s h = record { header = h; inputs = input_rows s.front h.inputs; rest = s.rest }

abbrev pub head_from : Split → Result Head Refusal
head_from s = and_then (checked_fields s.front) (λ h. Ok (head_with s h))

-- The head of a file, or the first refusal: size, version, header length, header field, input.
abbrev pub head_of : List ℕ → Result Head Refusal
head_of file = and_then (records_of file) (λ xs. and_then (header_record (split_record xs)) head_from)
