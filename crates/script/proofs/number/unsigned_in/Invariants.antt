use Rattle.std.proofs.Common.{◌≡◌, ◌<◌, drop}
use Rattle.script.specs.Numbers.{read_on, unsigned_in, up_to}
use Rattle.script.proofs.number.unsigned_in.Given as goal

abbrev pub invariant-loop-c : goal.invariant-loop-c
invariant-loop-c l =
    (l.value < 4294967296) × (up_to 4294967295 (read_on l.value (drop l.c-index l.digits)) ≡ unsigned_in l.digits)
