-- The wires after a stage, as a certificate tells them. Assumes nothing.
use Rattle.std.specs.Prelude.{ℕ, cond, List, map, Some, None, Err, Option, Result, nat_le}
use Rattle.fixed.specs.Steps.{and_then}
use Rattle.stages.specs.Kind.{Kinds}
use Rattle.stages.specs.Network.{Stand}
use Rattle.settings.specs.declared.refusal.Refusal.{Refusal}
use Rattle.settings.specs.declared.refusal.Refusal.TheVariants.{NoFile, NoStage}
use Rattle.settings.specs.Head.{Head}
use Rattle.verdict.specs.Front.{fitting}
use Rattle.verdict.specs.Loaded.{Loaded}
use Rattle.verdict.specs.Stages.{wires_from}
use Rattle.verdict.specs.Verdict.{inputs_in}
use Rattle.calls.specs.declared.certificate_row.CertificateRow.{CertificateRow}
use Rattle.calls.specs.Certified.{certified_row}

-- the rows of these wires, where there are places for them
abbrev pub rows_for : ℕ → Stand → Result (List CertificateRow) Refusal
rows_for places st = fitting places (map certified_row st.wires)

-- The rows that go into a caller's buffer, for the wires after stage k; 0 means the inputs.
abbrev pub certificate_of : Kinds → Head → ℕ → ℕ → Result (List CertificateRow) Refusal
certificate_of m h k places =
    cond (nat_le k h.header.stages) (and_then (wires_from m h.header.accumulator h.rest 0 k (inputs_in h)) (rows_for places)) (Err NoStage)

-- with no file there are none
abbrev pub certificate_in : Kinds → Option Loaded → ℕ → ℕ → Result (List CertificateRow) Refusal
certificate_in m None k places = Err NoFile
certificate_in m (Some l) k places = certificate_of m l.head k places
