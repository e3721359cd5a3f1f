-- The lines of the inputs, one after another.
use Rattle.std.proofs.Common.{◌≡◌, ℕ, ◌+◌, ◌<◌, List, [], ◌∷◌, ◌++◌, length, get_or, take, ap, ◌∙◌, append_assoc, append-nil, arith}
use Rattle.std.proofs.lemmas.List.{take_more, length-take}
use Rattle.fixed.specs.declared.row.WireRow.{WireRow}
use Rattle.fixed.specs.Wire.{no_row}
use Rattle.inspect.specs.Account.{input_text, inputs_text}

inputs_push : (f i n : ℕ) (rows : List WireRow) (row : WireRow) → n ≡ i + length rows
    → inputs_text f i (rows ++ (row ∷ [])) ≡ inputs_text f i rows ++ input_text f n row
inputs_push f i n [] row e = grind (arith, append-nil)
inputs_push f i n (r ∷ rows) row e = grind (arith, append_assoc, inputs_push f (i + 1) n rows row (omega arith))

-- one row more is one line more
pub inputs_more : (f i : ℕ) (rows : List WireRow) → i < length rows
    → inputs_text f 0 (take (i + 1) rows) ≡ inputs_text f 0 (take i rows) ++ input_text f i (get_or rows i no_row)
inputs_more f i rows h =
    ap (inputs_text f 0) (take_more rows i no_row h) ∙ inputs_push f 0 i (take i rows) (get_or rows i no_row) (omega (arith, length-take i rows))
