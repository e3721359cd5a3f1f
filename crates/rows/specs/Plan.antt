-- Stages of rows. Assumes nothing.
use Rattle.std.specs.Prelude.{◌≡◌, ℕ, ◌+◌, ◌-◌, ◌*◌, ◌<◌, ◌≤◌, cond, ◌&&◌, List, length, ℤ, Some, None, Err, Option, Result, ◌==◌, nat_le, slice_index}
use Rattle.fixed.specs.declared.row.WireRow.{WireRow}
use Rattle.stages.specs.declared.shape.Shape.{Shape}
use Rattle.stages.specs.declared.shape.KindRefusal.{KindRefusal}
use Rattle.stages.specs.declared.shape.KindRefusal.TheVariants.{Size, Length, Format}
use Rattle.stages.specs.declared.shape.RunRefusal.{RunRefusal}
use Rattle.stages.specs.declared.shape.RunRefusal.TheVariants.{Sum}
use Rattle.stages.specs.Kind.{Setting, size_of, Exact, exactly, Kind}
use Rattle.rows.specs.declared.layout.Layout.{Layout}
use Rattle.rows.specs.declared.scales.Scales.{Scales}
use Rattle.rows.specs.Scales.{scales_fit}
use Rattle.rows.specs.Layout.{wires_by, codes_by, exact_by}

-- a full stage of size k over n inputs: k rows of n weights, then k biases
abbrev pub full_plan : ℕ → ℕ → Option Layout
full_plan k n =
    cond (nat_le 1 k && nat_le k 64)
    (Some (record { outputs = k; length = n; numbers = k * n + k; stride = n; slide = 0; biases = k * n; spacing = 1 }))
    None

-- taps of size k over n inputs: k weights and one bias, over each window of k inputs
abbrev pub taps_plan : ℕ → ℕ → Option Layout
taps_plan k n =
    cond (nat_le 1 k && nat_le k 31 && nat_le k n)
    (Some (record { outputs = n - k + 1; length = k; numbers = k + 1; stride = 0; slide = 1; biases = k; spacing = 0 }))
    None

-- the formats that a record names
abbrev pub scales_in : Setting → Scales
scales_in s = record {
  fw = slice_index s.bytes 2;
  ww = slice_index s.bytes 3;
  fx = s.before.fraction;
  fy = slice_index s.bytes 4;
  wy = slice_index s.bytes 5;
  bits = s.accumulator;
}

-- the four maps, by the layout of the stage or that its size is outside limits
abbrev pub wires_in : Setting → List WireRow → Option Layout → Result (List WireRow) KindRefusal
wires_in s xs None = Err Size
wires_in s xs (Some l) =
    cond (length s.bytes == 6 + 4 * l.numbers)
    (cond (scales_fit (scales_in s)) (wires_by (scales_in s) l s.bytes xs) (Err Format))
    (Err Length)

abbrev pub codes_in : Setting → List ℤ → Option Layout → Result (List ℤ) RunRefusal
codes_in s cs None = Err (Sum 0)
codes_in s cs (Some l) = codes_by (scales_in s) l s.bytes cs

abbrev pub after_in : Setting → Option Layout → Shape
after_in s None = s.before
after_in s (Some l) = record { count = l.outputs; word = (scales_in s).wy; fraction = (scales_in s).fy }

abbrev pub exact_in : Setting → Exact → Option Layout → Exact
exact_in s x None = x
exact_in s x (Some l) = exactly (x.depth + 1) (exact_by l s.bytes x.depth x.values)

abbrev pub plan_in : (ℕ → ℕ → Option Layout) → Setting → Option Layout
plan_in plan s = plan (size_of s.bytes) s.before.count

-- the kind of stages with a plan
abbrev pub rows_kind : (ℕ → ℕ → Option Layout) → Kind
rows_kind plan = record {
  exact = λ s x. exact_in s x (plan_in plan s);
  code = λ s cs. codes_in s cs (plan_in plan s);
  after = λ s. after_in s (plan_in plan s);
  wires = λ s xs. wires_in s xs (plan_in plan s);
}

-- 1 to 64 outputs over windows of the n inputs
pub record Windows (l : Layout) (n : ℕ) : Type 0 where
  pub least : 1 ≤ l.outputs
  pub most : l.outputs ≤ 64
  pub short : l.length ≤ 64
  pub inside : (o : ℕ) → o < l.outputs → o * l.slide + l.length ≤ n

abbrev pub GoodPlan : (ℕ → ℕ → Option Layout) → Type 0
GoodPlan plan = (k n : ℕ) (l : Layout) → 1 ≤ n → n ≤ 64 → plan k n ≡ Some l → Windows l n
