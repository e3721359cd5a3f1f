-- The multiply-accumulate walk of a row, for any quantity. Assumes nothing.
use Rattle.std.specs.Prelude.{Bool, cond, List, [], ◌∷◌, ℤ, Some, None, Option}

-- the quantity, if it passes the test
abbrev pub tested : {Q : Type 0} → (Q → Bool) → Q → Option Q
tested test a = cond (test a) (Some a) None

-- The start, and to it each product of a weight code and an input, in input order. Nothing if a sum on the way fails the
-- test, the start and the last sum included.
abbrev pub walked : {Q I : Type 0} → (Q → Bool) → (Q → Q → Q) → (ℤ → I → Q) → Q → List ℤ → List I → Option Q
walked test plus times a [] xs = tested test a
walked test plus times a (w ∷ ws) [] = tested test a
walked test plus times a (w ∷ ws) (x ∷ xs) = cond (test a) (walked test plus times (plus a (times w x)) ws xs) None
