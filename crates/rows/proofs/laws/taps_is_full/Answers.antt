use Rattle.rows.proofs.Fields.{taps-is-full}
use Rattle.rows.proofs.laws.taps_is_full.Goals as goal

pub returns : goal.returns
returns c = taps-is-full
