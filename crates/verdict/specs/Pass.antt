-- A frame in one pass over the stages, each judged and then run. Assumes nothing.
use Rattle.std.specs.Prelude.{ℕ, List, Ok, Result}
use Rattle.fixed.specs.Steps.{and_then}
use Rattle.stages.specs.Kind.{Kinds}
use Rattle.settings.specs.declared.fields.Fields.{Fields}
use Rattle.settings.specs.declared.refusal.Refusal.{Refusal}
use Rattle.verdict.specs.declared.output.Output.{Output}
use Rattle.verdict.specs.Verdict.{closed}
use Rattle.verdict.specs.Running.{Frame, frame_from}
use Rattle.verdict.specs.Output.{output_with}

-- the last checks of a file, and the output of the codes that came through
abbrev pub closed_frame : Fields → List ℕ → Frame → Result Output Refusal
closed_frame h xs fr = and_then (closed h xs fr.at) (λ b. Ok (output_with h fr.at.shape fr.codes))

abbrev pub frame_pass : Kinds → Fields → List ℕ → Frame → Result Output Refusal
frame_pass m h xs fr = and_then (frame_from m h.accumulator xs 0 h.stages fr) (closed_frame h xs)
