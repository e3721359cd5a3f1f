use Rattle.std.proofs.Common.{◌≡◌, map, take}
use Rattle.keeping.proofs.lists.rectify.Given as goal

abbrev pub invariant-loop-x : goal.invariant-loop-x
invariant-loop-x g l = l.out.items ≡ map g.T.Signal.rectified (take l.x-index l.from)
