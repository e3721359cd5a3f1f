use Rattle.std.proofs.Common.{◌≡◌}
use Rattle.settings.specs.Head.{input_rows}
use Rattle.settings.proofs.inputs.inputs_in.Given as goal

abbrev pub invariant-loop-i : goal.invariant-loop-i
invariant-loop-i l = l.inputs.items ≡ input_rows l.bytes l.i
