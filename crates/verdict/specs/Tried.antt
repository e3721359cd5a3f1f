-- One stage, judged and then run, by its record. Assumes nothing.
use Rattle.std.specs.Prelude.{ℕ, cond, List, length, ℤ, Ok, Err, Option, Result, ◌==◌}
use Rattle.stages.specs.Kind.{Kinds}
use Rattle.stages.specs.Network.{Stand}
use Rattle.settings.specs.declared.refusal.Refusal.{Refusal}
use Rattle.settings.specs.declared.refusal.Refusal.TheVariants.{NoFile, CodeCount}
use Rattle.settings.specs.Records.{Split}
use Rattle.verdict.specs.Stages.{wires_past}
use Rattle.verdict.specs.Certificate.{record_in}
use Rattle.verdict.specs.Running.{ran, codes_by}
use Rattle.verdict.specs.Bench.{room_for}

-- where the stage does not pass, the file is none that was accepted
abbrev pub unless_refused : Result Stand Refusal → (Stand → Result (List ℤ) Refusal) → Result (List ℤ) Refusal
unless_refused (Ok en) f = f en
unless_refused (Err e) f = Err NoFile

abbrev pub tried : Kinds → ℕ → ℕ → Stand → List ℤ → ℕ → Option Split → Result (List ℤ) Refusal
tried m a k st cs places o =
    cond (length cs == st.shape.count)
    (unless_refused (wires_past m a k st o) (λ en. room_for st.shape.count en.shape.count cs places (ran (codes_by m a (record_in o) st.shape cs))))
    (Err CodeCount)
