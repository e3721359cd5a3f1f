-- The counter of a relay. Assumes nothing.
use Rattle.std.specs.Prelude.{ℕ, ◌+◌, ◌-◌, min, Bool, false, cond, ◌||◌, pos, ◌==◌, int_le}
use Rattle.settings.specs.declared.fields.Fields.{Fields}
use Rattle.verdict.specs.declared.output.Output.{Output}
use Rattle.calls.specs.declared.status.Status.{Status}

-- nothing counted yet
abbrev pub idle : Status
idle = record { code = pos 0; picked = false; count = 0; trip = false }

-- an output is picked when its value is at least the pickup level
abbrev pub picks : Output → Bool
picks o = int_le o.fields.level o.grains

-- the count after a frame: up by the rise as far as the delay, or down by the fall as far as 0
abbrev pub counted : Fields → Bool → ℕ → ℕ
counted f picked n = cond picked (min f.delay (n + f.rise)) (n - f.fall)

-- The status after a frame with this output. Once the count equals the delay, the trip stands.
abbrev pub stepped : Output → Status → Status
stepped o s = record {
  code = o.code;
  picked = picks o;
  count = counted o.fields (picks o) s.count;
  trip = s.trip || (counted o.fields (picks o) s.count == o.fields.delay);
}

-- the status after a reset
abbrev pub cleared : Status → Status
cleared s = record { code = s.code; picked = s.picked; count = 0; trip = false }
