use Rattle.std.proofs.Common.{arith}
use Rattle.std.specs.Slice.Iter.{chunks_rest}
use Rattle.std.proofs.lemmas.Grind.{common_steps}
use Rattle.keeping.proofs.Loops.{pooled_block, pooled_none}
use Rattle.keeping.proofs.lists.pool.Goals as goal

pub loop-block-preserved-in-Some-largest_of : goal.loop-block-preserved-in-Some-largest_of
loop-block-preserved-in-Some-largest_of g c =
    grind (arith, common_steps, pooled_block g.T.Signal.larger c.args.size c.in-Some.block.now (chunks_rest c.next.new.self) c.requires.size)

pub returns : goal.returns
returns g c = grind (arith, common_steps, pooled_none)
