-- Calls on a relay, and what they answer. Assumes nothing.
use Rattle.std.specs.Prelude.{ℕ, List, ℤ, Some, None, Option}
use Rattle.fixed.specs.Wire.{no_row}
use Rattle.settings.specs.declared.refusal.Refusal.{Refusal}
use Rattle.calls.specs.declared.certificate_row.CertificateRow.{CertificateRow}
use Rattle.calls.specs.declared.status.Status.{Status}
use Rattle.calls.specs.declared.status.Report.{Report}

-- A call with all its arguments. A buffer that is lent stands by what it holds.
pub data Call : Type 0 where
  load : List ℕ → Call  -- the bytes of a file
  frame : List ℤ → Call  -- codes
  reset : Call
  state : Call
  certificate : ℕ → List CertificateRow → Call  -- stage, and a buffer
  bench : ℕ → List ℤ → List ℤ → Call  -- stage, codes, and a buffer

-- the stage that a call asks about, if it asks about one
abbrev pub asked_stage : Call → Option ℕ
asked_stage (load file) = None
asked_stage (frame zs) = None
asked_stage reset = None
asked_stage state = None
asked_stage (certificate k buffer) = Some k
asked_stage (bench k zs buffer) = Some k

-- what a call answers
pub data Answer : Type 0 where
  refused : Refusal → Answer
  loaded : ℕ → Answer  -- the certified bound
  framed : Status → Answer
  cleared : Answer  -- a reset was taken
  shown : Report → Answer
  written : ℕ → Answer  -- places of the buffer

-- what stands in the buffer afterwards, if one was lent
pub data Left : Type 0 where
  nothing : Left
  rows : List CertificateRow → Left
  codes : List ℤ → Left

-- a call, its answer, and what it left in the buffer
pub record Event : Type 0 where
  pub call : Call
  pub answer : Answer
  pub left : Left

-- what a call told: its answer, and the buffer
pub record Told : Type 0 where
  pub answer : Answer
  pub left : Left

abbrev pub told_by : Event → Told
told_by e = record { answer = e.answer; left = e.left }

-- what a list of certificate rows is read as past its end, and a fresh buffer is filled with
abbrev pub no_certificate : CertificateRow
no_certificate = record { wire = no_row; bits = 0 }
