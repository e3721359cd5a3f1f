-- The stages of a file, one after another. Assumes nothing.
use Rattle.std.specs.Prelude.{ℕ, zero, suc, ◌+◌, cond, List, length, Some, None, Ok, Err, Option, Result, nat_le}
use Rattle.stages.specs.declared.shape.KindRefusal.{KindRefusal}
use Rattle.stages.specs.declared.shape.KindRefusal.TheVariants as why
use Rattle.stages.specs.Kind.{Kinds}
use Rattle.fixed.specs.Steps.{and_then}
use Rattle.stages.specs.Network.{Stand, wires_after}
use Rattle.settings.specs.declared.refusal.Refusal.{Refusal}
use Rattle.settings.specs.declared.refusal.Refusal.TheVariants.{RecordLength, UnknownKind, StageSize, StageLength, StageFormat, WeightCode, RangeSum, RangeOutput, WireError}
use Rattle.settings.specs.Records.{Split, split_record}

-- a stage's record holds its kind and its size at least
abbrev pub long_enough : Option Split → Option Split
long_enough None = None
long_enough (Some s) = cond (nat_le 2 (length s.front)) (Some s) None

-- the record in front and what follows it; nothing where it runs past the end or is too short
abbrev pub stage_in : Option (List ℕ) → Option Split
stage_in None = None
stage_in (Some xs) = long_enough (split_record xs)

abbrev pub rest_of : Option Split → Option (List ℕ)
rest_of None = None
rest_of (Some s) = Some s.rest

-- The bytes from the start of a stage on, by the start of the stage before it. Here stages count from 0.
abbrev pub from_stage : List ℕ → ℕ → Option (List ℕ)
from_stage xs zero = Some xs
from_stage xs (suc k) = rest_of (stage_in (from_stage xs k))

-- the record of a stage
abbrev pub stage_at : List ℕ → ℕ → Option Split
stage_at xs k = stage_in (from_stage xs k)

-- the refusal of a kind, at a stage
abbrev pub refused_at : ℕ → KindRefusal → Refusal
refused_at k why.Unknown = UnknownKind k
refused_at k why.Size = StageSize k
refused_at k why.Length = StageLength k
refused_at k why.Format = StageFormat k
refused_at k (why.WeightCode o) = WeightCode k o
refused_at k (why.RangeSum o) = RangeSum k o
refused_at k (why.RangeOutput o) = RangeOutput k o
refused_at k (why.WireError o) = WireError k o

abbrev pub at_stage : {A : Type 0} → ℕ → Result A KindRefusal → Result A Refusal
at_stage k (Ok x) = Ok x
at_stage k (Err e) = Err (refused_at k e)

-- the wires after stage number k, by its record
abbrev pub wires_past : Kinds → ℕ → ℕ → Stand → Option Split → Result Stand Refusal
wires_past m a k st None = Err (RecordLength k)
wires_past m a k st (Some s) = at_stage k (wires_after m a s.front st)

-- the wires after n stages from stage i on; refusals count stages from 1
abbrev pub wires_from : Kinds → ℕ → List ℕ → ℕ → ℕ → Stand → Result Stand Refusal
wires_from m a xs i zero st = Ok st
wires_from m a xs i (suc n) st = and_then (wires_past m a (i + 1) st (stage_at xs i)) (wires_from m a xs (i + 1) n)
