use Rattle.std.proofs.Common.{◌≡◌, ◌++◌, drop, string_bytes}
use Rattle.script.specs.Block.{codes_text}
use Rattle.script.proofs.block.codes_text.Given as goal

abbrev pub invariant-loop-code : goal.invariant-loop-code
invariant-loop-code l = string_bytes l.text ++ codes_text (drop l.code-index l.codes) ≡ codes_text l.codes
