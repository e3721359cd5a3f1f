-- The output of a frame. Assumes nothing.
use Rattle.std.specs.Prelude.{ℕ, Bool, cond, ◌&&◌, List, length, ℤ, pos, Some, None, Ok, Err, Option, Result, ◌==◌, int_le, slice_index_or}
use Rattle.fixed.specs.Format.{grains_of}
use Rattle.fixed.specs.Steps.{and_then}
use Rattle.fixed.specs.Wire.{no_row}
use Rattle.fixed.specs.declared.row.WireRow.{WireRow}
use Rattle.stages.specs.declared.shape.Shape.{Shape}
use Rattle.stages.specs.Kind.{Kinds}
use Rattle.settings.specs.declared.fields.Fields.{Fields}
use Rattle.settings.specs.declared.refusal.Refusal.{Refusal}
use Rattle.settings.specs.declared.refusal.Refusal.TheVariants.{NoFile, CodeCount, CodeRange}
use Rattle.settings.specs.Firsts.{first_failing}
use Rattle.settings.specs.Head.{Head}
use Rattle.verdict.specs.declared.output.Output.{Output}
use Rattle.verdict.specs.Certificate.{output_shape, output_codes}
use Rattle.verdict.specs.Loaded.{Loaded}
use Rattle.verdict.specs.Running.{ran}

-- the code lies in the wire's range
abbrev pub in_row : WireRow → ℤ → Bool
in_row x c = int_le x.low c && int_le c x.high

-- the first code outside its input's range
abbrev pub first_outside : List WireRow → List ℤ → Option ℕ
first_outside xs cs = first_failing (λ i. in_row (slice_index_or xs i no_row) (slice_index_or cs i (pos 0))) 0 (length cs)

abbrev pub range_fault : Option ℕ → Option Refusal
range_fault None = None
range_fault (Some i) = Some (CodeRange i)

-- why a frame's codes are refused at these inputs: another count, or a code out of range
abbrev pub frame_fault : List WireRow → List ℤ → Option Refusal
frame_fault xs cs = cond (length cs == length xs) (range_fault (first_outside xs cs)) (Some CodeCount)

-- the one output code, and what it stands for in grains
abbrev pub output_with : Fields → Shape → List ℤ → Output
output_with h s ds = record { fields = h; code = slice_index_or ds 0 (pos 0); grains = grains_of s.fraction (slice_index_or ds 0 (pos 0)) }

abbrev pub unless_fault : {A : Type 0} → Option Refusal → Result A Refusal → Result A Refusal
unless_fault None r = r
unless_fault (Some e) r = Err e

-- what the network makes of a frame
abbrev pub output_of : Kinds → Head → List ℤ → Result Output Refusal
output_of m h cs =
    unless_fault (frame_fault h.inputs cs) (and_then (ran (output_codes m h cs)) (λ ds. Ok (output_with h.header (output_shape m h) ds)))

-- with no file there is none
abbrev pub output_in : Kinds → Option Loaded → List ℤ → Result Output Refusal
output_in m None cs = Err NoFile
output_in m (Some l) cs = output_of m l.head cs
