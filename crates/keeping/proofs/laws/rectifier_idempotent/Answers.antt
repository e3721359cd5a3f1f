use Rattle.keeping.proofs.Picks.{rectifier-idempotent}
use Rattle.keeping.proofs.laws.rectifier_idempotent.Goals as goal

pub returns : goal.returns
returns c = rectifier-idempotent
