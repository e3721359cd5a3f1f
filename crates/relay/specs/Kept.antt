-- The file that is kept. Assumes nothing.
use Rattle.std.specs.Prelude.{ℕ, cond, List, length, take, Some, None, Option, ◌==◌}
use Rattle.relay.specs.declared.kept.Kept.{Kept}

-- the bytes in use
abbrev pub bytes_in : Kept → List ℕ
bytes_in k = take k.len k.bytes

-- the bytes that are kept, if any are
abbrev pub file_in : List ℕ → Option (List ℕ)
file_in xs = cond (length xs == 0) None (Some xs)
