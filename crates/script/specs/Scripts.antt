-- A script as a text of lines. Assumes nothing.
use Rattle.std.specs.Prelude.{ℕ, Bool, cond, List, [], ◌∷◌, ◌++◌, length, is_some, ◌==◌}
use Rattle.std.specs.Option.{option_to_list}
use Rattle.calls.specs.Call.{Call}
use Rattle.script.specs.Parts.{split}
use Rattle.script.specs.Lines.{call_of}

-- without an empty last part
abbrev pub until_last : List (List ℕ) → List (List ℕ)
until_last [] = []
until_last (p ∷ []) = cond (length p == 0) [] (p ∷ [])
until_last (p ∷ (q ∷ ps)) = p ∷ until_last (q ∷ ps)

-- the lines of a text: behind a last line feed there is none
abbrev pub lines_of : List ℕ → List (List ℕ)
lines_of text = until_last (split 10 text)

-- whether each line is well formed
abbrev pub flags_of : List (List ℕ) → List Bool
flags_of [] = []
flags_of (l ∷ ls) = is_some (call_of l) ∷ flags_of ls

-- the calls of those that are
abbrev pub calls_of : List (List ℕ) → List Call
calls_of [] = []
calls_of (l ∷ ls) = option_to_list (call_of l) ++ calls_of ls
