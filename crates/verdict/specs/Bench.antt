-- One stage of a file on a caller's codes. Assumes nothing.
use Rattle.std.specs.Prelude.{ℕ, ◌-◌, Bool, cond, ◌&&◌, List, length, ℤ, Some, None, Err, Option, Result, ◌==◌, nat_le}
use Rattle.stages.specs.declared.shape.Shape.{Shape}
use Rattle.stages.specs.declared.shape.RunRefusal.{RunRefusal}
use Rattle.stages.specs.Kind.{Kinds}
use Rattle.settings.specs.declared.refusal.Refusal.{Refusal}
use Rattle.settings.specs.declared.refusal.Refusal.TheVariants.{NoFile, NoStage, CodeCount, ShortBuffer}
use Rattle.settings.specs.Head.{Head}
use Rattle.verdict.specs.Stages.{stage_at}
use Rattle.verdict.specs.Verdict.{shape_in}
use Rattle.verdict.specs.Certificate.{record_in, records_from, shape_through}
use Rattle.verdict.specs.Loaded.{Loaded}
use Rattle.verdict.specs.Running.{ran, codes_by}

-- what stands after the first k stages
abbrev pub shape_at : Kinds → Head → ℕ → Shape
shape_at m h k = shape_through m h.header.accumulator (records_from h.rest 0 k) (shape_in h.header)

-- what stage number k makes of them; stages count from 1
abbrev pub stage_codes : Kinds → Head → ℕ → List ℤ → Result (List ℤ) RunRefusal
stage_codes m h k cs = codes_by m h.header.accumulator (record_in (stage_at h.rest (k - 1))) (shape_at m h (k - 1)) cs

abbrev pub is_stage : Head → ℕ → Bool
is_stage h k = nat_le 1 k && nat_le k h.header.stages

-- as many codes as wires before the stage, and places for its outputs
abbrev pub room_for : ℕ → ℕ → List ℤ → ℕ → Result (List ℤ) Refusal → Result (List ℤ) Refusal
room_for before after cs places r = cond (length cs == before) (cond (nat_le after places) r (Err ShortBuffer)) (Err CodeCount)

-- The codes that go into a caller's buffer.
abbrev pub bench_of : Kinds → Head → ℕ → List ℤ → ℕ → Result (List ℤ) Refusal
bench_of m h k cs places =
    cond (is_stage h k) (room_for (shape_at m h (k - 1)).count (shape_at m h k).count cs places (ran (stage_codes m h k cs))) (Err NoStage)

-- with no file there are none
abbrev pub bench_in : Kinds → Option Loaded → ℕ → List ℤ → ℕ → Result (List ℤ) Refusal
bench_in m None k cs places = Err NoFile
bench_in m (Some l) k cs places = bench_of m l.head k cs places
