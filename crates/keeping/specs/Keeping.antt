-- The kinds that keep the format: largest, rectifier and repeat. Assumes nothing.
use Rattle.std.specs.Prelude.{ℕ, ◌+◌, ◌-◌, ◌*◌, ◌/◌, Bool, cond, ◌&&◌, List, map, length, ℤ, Ok, Err, Result, ◌==◌, nat_eq, nat_le}
use Rattle.std.specs.Int.{int_max}
use Rattle.fixed.specs.declared.row.WireRow.{WireRow}
use Rattle.stages.specs.declared.shape.Shape.{Shape}
use Rattle.stages.specs.declared.shape.KindRefusal.{KindRefusal}
use Rattle.stages.specs.declared.shape.KindRefusal.TheVariants.{Size, Length}
use Rattle.stages.specs.Kind.{size_of, exactly, Kind, Kinds, only}
use Rattle.keeping.specs.Lists.{pooled, repeated}
use Rattle.keeping.specs.Signals.{rectified, larger_row, rectified_row}

-- an answer to a record: first its size and its outputs have to be within limits, then its length has to be 2
abbrev pub judged : {X : Type 0} → Bool → List ℕ → X → Result X KindRefusal
judged within bytes x = cond within (cond (length bytes == 2) (Ok x) (Err Length)) (Err Size)

-- n wires in the format of another shape
abbrev pub shaped : ℕ → Shape → Shape
shaped n s = record { count = n; word = s.word; fraction = s.fraction }

-- A kind that keeps the format and the depth. Of the size and the count of inputs: whether they are within limits, and how
-- many outputs there are. Of the size: what is done to wires, and to codes. Exact values go the way of codes, and no codes
-- are refused.
abbrev pub keeping : (ℕ → ℕ → Bool) → (ℕ → ℕ → ℕ) → (ℕ → List WireRow → List WireRow) → (ℕ → List ℤ → List ℤ) → Kind
keeping within outputs wires codes = record {
  exact = λ s x. exactly x.depth (codes (size_of s.bytes) x.values);
  code = λ s cs. Ok (codes (size_of s.bytes) cs);
  after = λ s. shaped (outputs (size_of s.bytes) s.before.count) s.before;
  wires = λ s xs. judged (within (size_of s.bytes) s.before.count) s.bytes (wires (size_of s.bytes) xs);
}

-- Largest: blocks of 2 to 64 inputs. At most 64 outputs come of at most 64 inputs.
abbrev pub largest_within : ℕ → Bool
largest_within p = nat_le 2 p && nat_le p 64

-- n / p outputs, rounded up
abbrev pub largest_outputs : ℕ → ℕ → ℕ
largest_outputs p n = (n + (p - 1)) / p

-- the largest of each block
abbrev pub largest : Kind
largest = keeping (λ p n. largest_within p) largest_outputs (pooled larger_row) (pooled int_max)

-- Rectifier: size 0, and an output for each input, 0 for a negative one.
abbrev pub rectifier : Kind
rectifier = keeping (λ p n. nat_eq p 0) (λ p n. n) (λ p. map rectified_row) (λ p. map rectified)

-- Repeat: 2 to 8 times, and at most 64 outputs.
abbrev pub repeat_within : ℕ → ℕ → Bool
repeat_within s n = nat_le 2 s && nat_le s 8 && nat_le (n * s) 64

-- each input s times in a row
abbrev pub repeat : Kind
repeat = keeping repeat_within (λ s n. n * s) repeated repeated

-- the three as sets, by their numbers
abbrev pub largest_set : Kinds
largest_set = only 3 largest

abbrev pub rectifier_set : Kinds
rectifier_set = only 4 rectifier

abbrev pub repeat_set : Kinds
repeat_set = only 5 repeat
