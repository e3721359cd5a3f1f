use Rattle.std.proofs.Common.{take}
use Rattle.std.specs.Fmt.{HasWritten, IsPlainFormatter}
use Rattle.inspect.specs.Account.{inputs_text}
use Rattle.inspect.proofs.inputs.InputLinesDisplay.fmt.Given as goal

abbrev pub invariant-loop-index : goal.invariant-loop-index
invariant-loop-index g l =
    IsPlainFormatter l.initial.f → HasWritten g.W.Write.write_str_gives l.initial.f (inputs_text l.format.fraction 0 (take l.index l.self.rows.now)) l.f
