-- The kinds of this relay, by their numbers. Assumes nothing.
use Rattle.stages.specs.Kind.{Kinds, only, or_else}
use Rattle.rows.specs.Plan.{rows_kind, full_plan, taps_plan}
use Rattle.keeping.specs.Keeping.{largest_set, rectifier_set, repeat_set}

-- 1 full and 2 taps
abbrev pub multiplying_set : Kinds
multiplying_set n = or_else (only 1 (rows_kind full_plan) n) (only 2 (rows_kind taps_plan) n)

-- 3 largest, 4 rectifier and 5 repeat
abbrev pub keeping_set : Kinds
keeping_set n = or_else (largest_set n) (or_else (rectifier_set n) (repeat_set n))

abbrev pub base_kinds : Kinds
base_kinds n = or_else (multiplying_set n) (keeping_set n)
