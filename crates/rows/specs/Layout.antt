-- The rows of a stage. Assumes nothing.
use Rattle.std.specs.Prelude.{ℕ, zero, suc, ◌+◌, ◌*◌, List, [], ◌∷◌, map, take, drop, ℤ, Ok, Result}
use Rattle.std.specs.List.{range_with_len}
use Rattle.fixed.specs.Bytes.{i32_at}
use Rattle.fixed.specs.declared.row.WireRow.{WireRow}
use Rattle.fixed.specs.Steps.{and_then}
use Rattle.stages.specs.declared.shape.KindRefusal.{KindRefusal}
use Rattle.stages.specs.declared.shape.RunRefusal.{RunRefusal}
use Rattle.rows.specs.declared.layout.Layout.{Layout}
use Rattle.rows.specs.declared.scales.Scales.{Scales}
use Rattle.rows.specs.Row.{row_code, row_wire, row_exact}

-- number j of a record: after kind, size and four format bytes, four bytes each
abbrev pub number_at : List ℕ → ℕ → ℤ
number_at bytes j = i32_at bytes (6 + 4 * j)

-- the weights of output o, its bias, and the inputs that it is over
abbrev pub weights_at : Layout → List ℕ → ℕ → List ℤ
weights_at l bytes o = map (λ j. number_at bytes (o * l.stride + j)) (range_with_len 0 l.length)

abbrev pub bias_at : Layout → List ℕ → ℕ → ℤ
bias_at l bytes o = number_at bytes (l.biases + o * l.spacing)

abbrev pub window : {X : Type 0} → Layout → ℕ → List X → List X
window l o xs = take l.length (drop (o * l.slide) xs)

-- the n outputs from output i on, or the first refusal
abbrev pub outputs_from : {Y E : Type 0} → (ℕ → Result Y E) → ℕ → ℕ → Result (List Y) E
outputs_from f i zero = Ok []
outputs_from f i (suc n) = and_then (f i) (λ y. and_then (outputs_from f (i + 1) n) (λ ys. Ok (y ∷ ys)))

-- output o by the rule of one row
abbrev pub row_at : {X Y : Type 0} → (ℕ → List ℤ → ℤ → List X → Y) → Layout → List ℕ → List X → ℕ → Y
row_at rule l bytes xs o = rule o (weights_at l bytes o) (bias_at l bytes o) (window l o xs)

abbrev pub wires_by : Scales → Layout → List ℕ → List WireRow → Result (List WireRow) KindRefusal
wires_by s l bytes xs = outputs_from (row_at (row_wire s) l bytes xs) 0 l.outputs

abbrev pub codes_by : Scales → Layout → List ℕ → List ℤ → Result (List ℤ) RunRefusal
codes_by s l bytes cs = outputs_from (row_at (row_code s) l bytes cs) 0 l.outputs

abbrev pub exact_by : Layout → List ℕ → ℕ → List ℤ → List ℤ
exact_by l bytes d Xs = map (row_at (λ o ws b zs. row_exact ws b d zs) l bytes Xs) (range_with_len 0 l.outputs)
