use Rattle.std.proofs.Common.{◌≡◌, ◌++◌, ◌+◌, ◌≤◌, length}
use Rattle.std.specs.Slice.Iter.{chunks_rest, chunks_size}
use Rattle.keeping.specs.Lists.{pooled}
use Rattle.keeping.proofs.lists.pool.Given as goal

-- what is left of the elements goes on from what is made of the outputs
abbrev pub invariant-loop-block : goal.invariant-loop-block
invariant-loop-block g l = record {
  size : chunks_size l.block-iterator ≡ l.size;
  few : length l.out.items + length (chunks_rest l.block-iterator) ≤ length l.from;
  goes_on : l.out.items ++ pooled g.T.Signal.larger l.size (chunks_rest l.block-iterator) ≡ pooled g.T.Signal.larger l.size l.from;
}
