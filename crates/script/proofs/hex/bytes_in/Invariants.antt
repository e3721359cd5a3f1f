use Rattle.std.proofs.Common.{◌≡◌, length, vec_items}
use Rattle.script.specs.Numbers.{bytes_in}
use Rattle.script.proofs.Steps.{prepended}
use Rattle.script.proofs.hex.bytes_in.Given as goal

abbrev pub invariant-loop-left : goal.invariant-loop-left
invariant-loop-left l = prepended (vec_items l.bytes) (bytes_in l.left) ≡ bytes_in l.digits

abbrev pub decreases-loop-left : goal.decreases-loop-left
decreases-loop-left l = length l.left
