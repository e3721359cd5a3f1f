-- What the kinds do to a list, for elements of any type. Assumes nothing.
use Rattle.std.specs.Prelude.{ℕ, zero, suc, ◌-◌, List, [], ◌∷◌, ◌++◌, replicate}

-- The largest of each block of p elements, from within a block: b is the largest of it so far, and k more may follow.
-- The last block has what remains.
abbrev pub pooled_from : {X : Type 0} → (X → X → X) → ℕ → ℕ → X → List X → List X
pooled_from larger p k b [] = b ∷ []
pooled_from larger p zero b (x ∷ xs) = b ∷ pooled_from larger p (p - 1) x xs
pooled_from larger p (suc k) b (x ∷ xs) = pooled_from larger p k (larger b x) xs

-- the largest of each block of p elements
unfoldable pub pooled : {X : Type 0} → (X → X → X) → ℕ → List X → List X
pooled larger p [] = []
pooled larger p (x ∷ xs) = pooled_from larger p (p - 1) x xs

-- each element s times in a row
abbrev pub repeated : {X : Type 0} → ℕ → List X → List X
repeated s [] = []
repeated s (x ∷ xs) = replicate s x ++ repeated s xs
