-- What is printed of a script. Assumes nothing.
use Rattle.std.specs.Prelude.{ℕ, Bool, true, false, List, [], ◌∷◌, ◌++◌, drop, codes}
use Rattle.calls.specs.Call.{Call, Told}
use Rattle.script.specs.Block.{block_text}

-- the first call with its answer, if there are both
abbrev pub first_text : List Call → List Told → List ℕ
first_text [] ts = []
first_text (c ∷ cs) [] = []
first_text (c ∷ cs) (t ∷ ts) = block_text c t.answer t.left

-- a line that is malformed takes no call
abbrev pub line_text : Bool → List Call → List Told → List ℕ
line_text true cs ts = first_text cs ts
line_text false cs ts = codes "malformed\n"

abbrev pub past : {X : Type 0} → Bool → List X → List X
past true xs = drop 1 xs
past false xs = xs

-- line by line
abbrev pub account_text : List Bool → List Call → List Told → List ℕ
account_text [] cs ts = []
account_text (f ∷ fs) cs ts = line_text f cs ts ++ account_text fs (past f cs) (past f ts)
