-- The verdict on a settings file. Assumes nothing.
use Rattle.std.specs.Prelude.{ℕ, Bool, false, cond, List, length, Some, None, Ok, Err, Option, Result, ◌==◌, nat_le, nat_lt, slice_index_or}
use Rattle.fixed.specs.Wire.{no_row}
use Rattle.stages.specs.declared.shape.Shape.{Shape}
use Rattle.stages.specs.Kind.{Kinds}
use Rattle.fixed.specs.Steps.{and_then}
use Rattle.stages.specs.Network.{Stand, stand}
use Rattle.settings.specs.declared.fields.Fields.{Fields}
use Rattle.settings.specs.declared.refusal.Refusal.{Refusal}
use Rattle.settings.specs.declared.refusal.Refusal.TheVariants.{TrailingBytes, OutputCount, AllowedError}
use Rattle.settings.specs.Head.{Head, head_of}
use Rattle.verdict.specs.Stages.{from_stage, wires_from}

-- the inputs' shape
abbrev pub shape_in : Fields → Shape
shape_in h = record { count = h.inputs; word = h.word; fraction = h.fraction }

-- the wires of the inputs
abbrev pub inputs_in : Head → Stand
inputs_in h = stand (shape_in h.header) h.inputs

-- nothing follows
abbrev pub ended : Option (List ℕ) → Bool
ended None = false
ended (Some xs) = length xs == 0

-- the error of the one output
abbrev pub bound_in : Stand → ℕ
bound_in en = (slice_index_or en.wires 0 no_row).error

-- the last three checks name the last stage
abbrev pub closed : Fields → List ℕ → Stand → Result ℕ Refusal
closed h xs en =
    cond (ended (from_stage xs h.stages))
    (cond (en.shape.count == 1) (cond (nat_le (bound_in en) h.allowed_error) (Ok (bound_in en)) (Err (AllowedError h.stages))) (Err (OutputCount h.stages)))
    (Err (TrailingBytes h.stages))

-- The wires after stage k of a file, or after its last stage where there are fewer; k = 0 means the inputs.
abbrev pub wires_up_to : Kinds → List ℕ → ℕ → Result Stand Refusal
wires_up_to m file k =
    and_then (head_of file) (λ h. wires_from m h.header.accumulator h.rest 0 (cond (nat_lt k h.header.stages) k h.header.stages) (inputs_in h))

abbrev pub verdict_from : Kinds → Head → Result ℕ Refusal
verdict_from m h =
    and_then (wires_from m h.header.accumulator h.rest 0 h.header.stages (inputs_in h)) (closed h.header h.rest)

-- The certified bound of a file, or its first refusal.
abbrev pub verdict_of : Kinds → List ℕ → Result ℕ Refusal
verdict_of m file = and_then (head_of file) (verdict_from m)
