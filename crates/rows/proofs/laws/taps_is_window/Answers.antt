use Rattle.rows.proofs.Fields.{taps-is-window}
use Rattle.rows.proofs.laws.taps_is_window.Goals as goal

pub returns : goal.returns
returns c = taps-is-window
