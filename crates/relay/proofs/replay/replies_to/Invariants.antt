use Rattle.std.proofs.Common.{◌≡◌, map, reverse, take, vec_items}
use Rattle.calls.specs.Call.{told_by}
use Rattle.calls.specs.Written.{call_in, told_in}
use Rattle.relay.specs.Held.{held}
use Rattle.relay.specs.Ways.{begun, run_on}
use Rattle.relay.proofs.replay.replies_to.Given as goal

abbrev pub invariant-loop-request : goal.invariant-loop-request
invariant-loop-request g l =
    let run = run_on (g.K.KindSet.meaning l.initial.relay.kinds) begun (map call_in (take l.request-index l.requests)) in
    (l.relay.kinds ≡ l.initial.relay.kinds) × (held l.relay ≡ run.state) × (map told_in (vec_items l.replies) ≡ map told_by (reverse run.events))
