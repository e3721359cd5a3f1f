-- Full and taps in the words of their field. Assumes nothing.
use Rattle.std.specs.Prelude.{◌≡◌, ℕ, zero, suc, ◌+◌, ◌-◌, ◌*◌, ◌^◌, List, map, length, take, drop, ℤ, pos, ◌+ℤ◌, ◌*ℤ◌, Some, slice_index_or}
use Rattle.std.specs.List.{range_with_len}
use Rattle.fixed.specs.declared.row.WireRow.{WireRow}
use Rattle.stages.specs.Kind.{Setting, Exact}
use Rattle.rows.specs.declared.layout.Layout.{Layout}
use Rattle.rows.specs.Row.{row_exact}
use Rattle.rows.specs.Layout.{number_at, exact_by}
use Rattle.rows.specs.Plan.{full_plan, taps_plan, wires_in, codes_in, after_in, exact_in}

-- the sum of f j over j from i on, n of them
abbrev pub sum_from : (ℕ → ℤ) → ℕ → ℕ → ℤ
sum_from f i zero = pos 0
sum_from f i (suc n) = f i +ℤ sum_from f (i + 1) n

-- A full stage's exact map is the matrix product plus bias: output o is the sum of W(o, j) X(j) and of the bias, where
-- W(o, j) is number o n + j of the record, and bias o is number k n + o.
abbrev pub FullIsProduct : Type 0
FullIsProduct = (k n d : ℕ) (l : Layout) (bytes : List ℕ) (Xs : List ℤ) → full_plan k n ≡ Some l → length Xs ≡ n
    → exact_by l bytes d Xs
    ≡ map (λ o. sum_from (λ j. number_at bytes (o * n + j) *ℤ slice_index_or Xs j (pos 0)) 0 n +ℤ number_at bytes (k * n + o) *ℤ pos (2 ^ (24 * (d + 1)))) (range_with_len 0 k)

-- Taps is one row over a moving window: output o, of n - k + 1, is the row of numbers 0 to k - 1 as weights and number k
-- as bias, over inputs o to o + k - 1.
abbrev pub TapsIsWindow : Type 0
TapsIsWindow = (k n d : ℕ) (l : Layout) (bytes : List ℕ) (Xs : List ℤ) → taps_plan k n ≡ Some l
    → exact_by l bytes d Xs ≡ map (λ o. row_exact (map (number_at bytes) (range_with_len 0 k)) (number_at bytes k) d (take k (drop o Xs))) (range_with_len 0 (n - k + 1))

-- So taps over all inputs is a full stage of one output: the same wires and refusals, codes, shape after and exact values.
abbrev pub TapsIsFull : Type 0
TapsIsFull = (n : ℕ) (t f : Layout) → taps_plan n n ≡ Some t → full_plan 1 n ≡ Some f → (s : Setting)
    → ((xs : List WireRow) → wires_in s xs (Some t) ≡ wires_in s xs (Some f))
    × ((cs : List ℤ) → codes_in s cs (Some t) ≡ codes_in s cs (Some f))
    × (after_in s (Some t) ≡ after_in s (Some f))
    × ((x : Exact) → exact_in s x (Some t) ≡ exact_in s x (Some f))
