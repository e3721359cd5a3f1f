-- A row: its codes, its range and its error. Assumes nothing.
use Rattle.std.specs.Prelude.{ℕ, ◌+◌, ◌-◌, ◌*◌, ◌/◌, ◌^◌, max, Bool, true, cond, ◌&&◌, List, [], ◌∷◌, map, ℤ, pos, ◌+ℤ◌, ◌-ℤ◌, ◌*ℤ◌, Some, None, Ok, Err, Option, Result, nat_le, unsigned_abs}
use Rattle.fixed.specs.Floor.{floor_shift}
use Rattle.fixed.specs.Word.{fits_word}
use Rattle.fixed.specs.Wire.{most_error}
use Rattle.fixed.specs.declared.row.WireRow.{WireRow}
use Rattle.stages.specs.declared.shape.KindRefusal.{KindRefusal}
use Rattle.stages.specs.declared.shape.KindRefusal.TheVariants.{WeightCode, RangeSum, RangeOutput, WireError}
use Rattle.stages.specs.declared.shape.RunRefusal.{RunRefusal}
use Rattle.stages.specs.declared.shape.RunRefusal.TheVariants.{Sum, Output}
use Rattle.rows.specs.declared.range.SumRange.{SumRange}
use Rattle.rows.specs.declared.scales.Scales.{Scales}
use Rattle.rows.specs.Scales.{dropped}
use Rattle.rows.specs.Walk.{walked}
use Rattle.rows.specs.Range.{range_plus, range_times, range_fits, range_shift}

-- weights and biases are in grains; their codes round toward minus infinity
abbrev pub weight_code : Scales → ℤ → ℤ
weight_code s w = floor_shift w (24 - s.fw)

abbrev pub weight_codes : Scales → List ℤ → List ℤ
weight_codes s ws = map (weight_code s) ws

abbrev pub bias_code : Scales → ℤ → ℤ
bias_code s b = floor_shift b (24 - s.fw - s.fx)

abbrev pub all_fit : ℕ → List ℤ → Bool
all_fit w [] = true
all_fit w (q ∷ qs) = fits_word w q && all_fit w qs

-- the sum of codes, and of ranges, where every partial sum fits the accumulator
abbrev pub code_sum : Scales → List ℤ → ℤ → List ℤ → Option ℤ
code_sum s ws b xs = walked (fits_word s.bits) ◌+ℤ◌ ◌*ℤ◌ (bias_code s b) (weight_codes s ws) xs

abbrev pub range_sum : Scales → List ℤ → ℤ → List WireRow → Option SumRange
range_sum s ws b xs =
    walked (range_fits s.bits) range_plus range_times (record { low = bias_code s b; high = bias_code s b }) (weight_codes s ws) xs

-- what rounding z to a multiple of 2^k drops
abbrev pub remainder : ℤ → ℕ → ℕ
remainder z k = unsigned_abs (z -ℤ floor_shift z k *ℤ pos (2 ^ k))

-- the largest magnitude of a wire with f fraction bits, in grains
abbrev pub reach : ℕ → WireRow → ℕ
reach f x = max (unsigned_abs x.low) (unsigned_abs x.high) * 2 ^ (24 - f)

-- what one input adds to the error, in units of 2^-48: its own error, weighted, and what the weight's code drops
abbrev pub spread_of : Scales → ℤ → WireRow → ℕ
spread_of s w x = unsigned_abs w * x.error + remainder w (24 - s.fw) * reach s.fx x

abbrev pub spread : Scales → List ℤ → List WireRow → ℕ
spread s [] xs = 0
spread s (w ∷ ws) [] = 0
spread s (w ∷ ws) (x ∷ xs) = spread_of s w x + spread s ws xs

-- The error of a row in grains: the inputs' share rounded up, what the bias code drops, and the most that the output drops.
abbrev pub row_error : Scales → List ℤ → ℤ → List WireRow → ℕ
row_error s ws b xs =
    (spread s ws xs + 16777215) / 16777216 + remainder b (24 - s.fw - s.fx) + (2 ^ (24 - s.fy) - 2 ^ (24 - s.fw - s.fx))

-- the output code of row o
abbrev pub shifted : Scales → ℕ → Option ℤ → Result ℤ RunRefusal
shifted s o None = Err (Sum o)
shifted s o (Some z) = cond (fits_word s.wy (floor_shift z (dropped s))) (Ok (floor_shift z (dropped s))) (Err (Output o))

abbrev pub row_code : Scales → ℕ → List ℤ → ℤ → List ℤ → Result ℤ RunRefusal
row_code s o ws b xs = shifted s o (code_sum s ws b xs)

-- the ends of a range that fits the output word
abbrev pub ends_of : Scales → SumRange → Option (ℤ × ℤ)
ends_of s r = cond (range_fits s.wy (range_shift r (dropped s))) (Some ((range_shift r (dropped s)).low, (range_shift r (dropped s)).high)) None

-- the wire of row o by the range of its sum: output word, then error
abbrev pub wired : Scales → ℕ → ℕ → Option SumRange → Result WireRow KindRefusal
wired s o e None = Err (RangeSum o)
wired s o e (Some r) =
    cond (range_fits s.wy (range_shift r (dropped s)))
    (cond (nat_le e most_error) (Ok (record { low = (range_shift r (dropped s)).low; high = (range_shift r (dropped s)).high; error = e })) (Err (WireError o)))
    (Err (RangeOutput o))

-- the wire of row o: weight codes, partial sums, output word and error are checked in this order
abbrev pub row_wire : Scales → ℕ → List ℤ → ℤ → List WireRow → Result WireRow KindRefusal
row_wire s o ws b xs = cond (all_fit s.ww (weight_codes s ws)) (wired s o (row_error s ws b xs) (range_sum s ws b xs)) (Err (WeightCode o))

-- the sum of products, as far as both lists go
abbrev pub dot : List ℤ → List ℤ → ℤ
dot [] Xs = pos 0
dot (w ∷ ws) [] = pos 0
dot (w ∷ ws) (X ∷ Xs) = w *ℤ X +ℤ dot ws Xs

-- the exact row at depth d + 1
abbrev pub row_exact : List ℤ → ℤ → ℕ → List ℤ → ℤ
row_exact ws b d Xs = dot ws Xs +ℤ b *ℤ pos (2 ^ (24 * (d + 1)))
