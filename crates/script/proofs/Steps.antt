-- What was read so far, and what is left.
use Rattle.std.proofs.Common.{◌≡◌, ℕ, ◌+◌, length, Bor, List, ◌∷◌, ◌++◌, [], Some, None, Option, sym, refl, ap, append_assoc}
use Rattle.std.specs.Option.{option_map}
use Rattle.script.specs.Parts.{onto}

abbrev pub prepended : {X : Type 0} → List X → Option (List X) → Option (List X)
prepended xs o = option_map (λ ys. xs ++ ys) o

pub prepended-more : {X : Type 0} (xs : List X) (y : X) (o : Option (List X)) → prepended xs (onto (Some y) o) ≡ prepended (xs ++ y ∷ []) o
prepended-more xs y None = refl
prepended-more xs y (Some ys) = ap (λ t. Some t) (sym (append_assoc xs (y ∷ []) ys))

-- how much there is left to be cut, at most
abbrev pub left_most : Option (Bor (List ℕ)) → ℕ
left_most None = 0
left_most (Some text) = length text.now + 1
