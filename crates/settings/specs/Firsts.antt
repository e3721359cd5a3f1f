-- The first place where a test fails. Assumes nothing.
use Rattle.std.specs.Prelude.{ℕ, zero, suc, ◌+◌, Bool, cond, Some, None, Option}

-- the first of the n places from i on where the test fails
abbrev pub first_failing : (ℕ → Bool) → ℕ → ℕ → Option ℕ
first_failing test i zero = None
first_failing test i (suc n) = cond (test i) (first_failing test (i + 1) n) (Some i)
