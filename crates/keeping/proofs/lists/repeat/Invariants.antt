use Rattle.std.proofs.Common.{◌≡◌, ◌++◌, take, replicate}
use Rattle.keeping.specs.Lists.{repeated}
use Rattle.keeping.proofs.lists.repeat.Given as goal

abbrev pub invariant-loop : goal.invariant-loop
invariant-loop g l = l.out.items ≡ repeated l.times (take l.x-index l.from) ++ replicate l.counter l.x

abbrev pub invariant-loop-x : goal.invariant-loop-x
invariant-loop-x g l = l.out.items ≡ repeated l.times (take l.x-index l.from)
