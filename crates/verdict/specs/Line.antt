-- The verdict as a line of text. Assumes nothing.
use Rattle.std.specs.Prelude.{ℕ, List, ◌++◌, Ok, Err, codes, decimal, Result}
use Rattle.settings.specs.declared.refusal.Refusal.{Refusal}
use Rattle.settings.specs.Refusals.{refusal_text}

-- `accepted` and the bound, or `refused` and three numbers; one space between, a line feed last
abbrev pub verdict_line : Result ℕ Refusal → List ℕ
verdict_line (Ok bound) = codes "accepted " ++ (decimal bound ++ codes "\n")
verdict_line (Err refusal) = refusal_text refusal ++ codes "\n"
