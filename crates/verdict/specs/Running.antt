-- Codes along the stages of a file. Assumes nothing.
use Rattle.std.specs.Prelude.{ℕ, zero, suc, ◌+◌, List, ℤ, Ok, Err, Option, Result}
use Rattle.fixed.specs.Steps.{and_then}
use Rattle.stages.specs.declared.shape.Shape.{Shape}
use Rattle.stages.specs.declared.shape.RunRefusal.{RunRefusal}
use Rattle.stages.specs.declared.shape.RunRefusal.TheVariants.{Sum, Output}
use Rattle.stages.specs.Kind.{setting, Kinds}
use Rattle.stages.specs.Network.{kind_in, Stand}
use Rattle.settings.specs.declared.refusal.Refusal.{Refusal}
use Rattle.settings.specs.declared.refusal.Refusal.TheVariants.{RunSum, RunOutput}
use Rattle.settings.specs.Records.{Split}
use Rattle.verdict.specs.Stages.{stage_at, wires_past}
use Rattle.verdict.specs.Certificate.{record_in}

-- the refusal of a run, as a call tells it
abbrev pub run_refusal : RunRefusal → Refusal
run_refusal (Sum o) = RunSum o
run_refusal (Output o) = RunOutput o

abbrev pub ran : {A : Type 0} → Result A RunRefusal → Result A Refusal
ran (Ok x) = Ok x
ran (Err e) = Err (run_refusal e)

-- what a stage's code map makes of codes, by its record and what stands before it
abbrev pub codes_by : Kinds → ℕ → List ℕ → Shape → List ℤ → Result (List ℤ) RunRefusal
codes_by m a b s cs = (kind_in m b).code (setting b a s) cs

-- codes, and the wires that they run along
pub record Frame : Type 0 where
  pub at : Stand
  pub codes : List ℤ

abbrev pub frame : Stand → List ℤ → Frame
frame st cs = record { at = st; codes = cs }

-- wires and codes after stage number k, by its record
abbrev pub frame_past : Kinds → ℕ → ℕ → Frame → Option Split → Result Frame Refusal
frame_past m a k fr o =
    and_then (wires_past m a k fr.at o) (λ en. and_then (ran (codes_by m a (record_in o) fr.at.shape fr.codes)) (λ ds. Ok (frame en ds)))

-- after n stages from stage i on
abbrev pub frame_from : Kinds → ℕ → List ℕ → ℕ → ℕ → Frame → Result Frame Refusal
frame_from m a xs i zero fr = Ok fr
frame_from m a xs i (suc n) fr = and_then (frame_past m a (i + 1) fr (stage_at xs i)) (frame_from m a xs (i + 1) n)
