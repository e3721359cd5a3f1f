-- Steps that may refuse, one after another. Assumes nothing.
use Rattle.std.specs.Prelude.{Ok, Err, Result}

-- the second step on what the first gives, or the first's refusal
abbrev pub and_then : {A B E : Type 0} → Result A E → (A → Result B E) → Result B E
and_then (Ok x) f = f x
and_then (Err e) f = Err e
