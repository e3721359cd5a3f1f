use Rattle.std.proofs.Common.{◌≡◌, ◌++◌, drop, string_bytes}
use Rattle.script.specs.Block.{rows_text}
use Rattle.script.proofs.block.rows_text.Given as goal

abbrev pub invariant-loop-i : goal.invariant-loop-i
invariant-loop-i l = string_bytes l.text ++ rows_text l.i-counter (drop l.i-counter l.rows) ≡ rows_text 0 l.rows
