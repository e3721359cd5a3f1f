-- A text in parts, and lists that are read part by part. Assumes nothing.
use Rattle.std.specs.Prelude.{ℕ, cond, List, [], ◌∷◌, ◌++◌, Some, None, Option, ◌==◌}
use Rattle.std.specs.Borrow.{Bor}

-- the parts of a text, where `part` was read before it
abbrev pub split_from : ℕ → List ℕ → List ℕ → List (List ℕ)
split_from separator part [] = part ∷ []
split_from separator part (c ∷ cs) =
    cond (c == separator) (part ∷ split_from separator [] cs) (split_from separator (part ++ c ∷ []) cs)

-- what stands between separators, and before the first and after the last
abbrev pub split : ℕ → List ℕ → List (List ℕ)
split separator text = split_from separator [] text

-- the parts of what stands behind a separator: none, where there is none
abbrev pub parts_behind : Option (Bor (List ℕ)) → List (List ℕ)
parts_behind None = []
parts_behind (Some text) = split 32 text.now

-- an element in front of others, if all can be read
abbrev pub onto : {X : Type 0} → Option X → Option (List X) → Option (List X)
onto None rest = None
onto (Some x) None = None
onto (Some x) (Some xs) = Some (x ∷ xs)
