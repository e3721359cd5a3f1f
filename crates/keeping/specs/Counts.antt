-- How many outputs the operations make.
use Rattle.std.specs.Prelude.{◌≡◌, ℕ, zero, suc, ◌+◌, ◌-◌, ◌*◌, ◌/◌, ◌≤◌, List, [], ◌∷◌, length}
use Rattle.std.proofs.Common.{arith, div-le_self}
use Rattle.std.proofs.Math.Nat.{div-eq_of_lt, add-div_right}
use Rattle.std.proofs.lemmas.Grind.{common_steps}
use Rattle.keeping.specs.Lists.{pooled_from, pooled, repeated}
use Rattle.keeping.specs.Keeping.{largest_outputs}

-- how many blocks there are
blocks : (n p : ℕ) → 1 ≤ p → (n - (p - 1) + (p - 1)) / p ≡ n / p
blocks n p h = grind (arith, div-eq_of_lt)

next-block : (n p : ℕ) → 1 ≤ p → (suc n + (p - 1)) / p ≡ n / p + 1
next-block n p h = grind (arith, add-div_right n h)

length_from : {X : Type 0} (larger : X → X → X) (p k : ℕ) (b : X) (xs : List X) → 1 ≤ p
    → length (pooled_from larger p k b xs) ≡ 1 + (length xs - k + (p - 1)) / p
length_from larger p k b [] h = grind (arith, div-eq_of_lt)
length_from larger p zero b (x ∷ xs) h =
    grind (arith, length_from larger p (p - 1) x xs h, blocks (length xs) p h, next-block (length xs) p h)
length_from larger p (suc k) b (x ∷ xs) h = grind (arith, length_from larger p k (larger b x) xs h)

pub length-pooled : {X : Type 0} (larger : X → X → X) (p : ℕ) (xs : List X) → 1 ≤ p
    → length (pooled larger p xs) ≡ largest_outputs p (length xs)
unfolding pooled
length-pooled larger p [] h = grind (arith, div-eq_of_lt)
length-pooled larger p (x ∷ xs) h =
    grind (arith, length_from larger p (p - 1) x xs h, blocks (length xs) p h, next-block (length xs) p h)

pub outputs-sized : (p n : ℕ) → 1 ≤ p → 1 ≤ n → (1 ≤ largest_outputs p n) × (largest_outputs p n ≤ n)
outputs-sized p zero h k = absurd (omega arith)
outputs-sized p (suc n) h k = grind (arith, next-block n p h, div-le_self n p)

pub length-repeated : {X : Type 0} (s : ℕ) (xs : List X) → length (repeated s xs) ≡ length xs * s
length-repeated s [] = grind (arith, common_steps)
length-repeated s (x ∷ xs) = grind (arith, common_steps, length-repeated s xs)
