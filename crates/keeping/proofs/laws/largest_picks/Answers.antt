use Rattle.keeping.proofs.Picks.{largest-picks}
use Rattle.keeping.proofs.laws.largest_picks.Goals as goal

pub returns : goal.returns
returns c = largest-picks
