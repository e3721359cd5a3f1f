use Rattle.keeping.proofs.Picks.{repeat-then-largest}
use Rattle.keeping.proofs.laws.repeat_then_largest.Goals as goal

pub returns : goal.returns
returns c = repeat-then-largest
