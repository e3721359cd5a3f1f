-- Laws of the kinds on codes. Assumes nothing.
use Rattle.std.specs.Prelude.{◌≡◌, ℕ, ◌*◌, ◌<◌, ◌≤◌, List, map, length, take, drop, ℤ, pos, ◌≤ℤ◌, slice_index_or}
use Rattle.std.specs.Int.{int_max}
use Rattle.std.specs.List.{ContainsAt, AllByRecursion}
use Rattle.keeping.specs.Lists.{pooled, repeated}
use Rattle.keeping.specs.Signals.{rectified}

-- each output of largest is an element of its block, and none of the block exceeds it
abbrev pub LargestPicks : Type 0
LargestPicks = (p : ℕ) (cs : List ℤ) (i : ℕ) → 1 ≤ p → i < length (pooled int_max p cs)
    → ContainsAt (take p (drop (i * p) cs)) (slice_index_or (pooled int_max p cs) i (pos 0))
    × AllByRecursion (λ c. c ≤ℤ slice_index_or (pooled int_max p cs) i (pos 0)) (take p (drop (i * p) cs))

-- repeating and then taking the largest of as many gives the codes back
abbrev pub RepeatThenLargest : Type 0
RepeatThenLargest = (s : ℕ) (cs : List ℤ) → 1 ≤ s → pooled int_max s (repeated s cs) ≡ cs

-- rectifying twice is rectifying once
abbrev pub RectifierIdempotent : Type 0
RectifierIdempotent = (cs : List ℤ) → map rectified (map rectified cs) ≡ map rectified cs
