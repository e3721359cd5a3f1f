use Rattle.std.proofs.Common.{map, take}
use Rattle.calls.specs.Written.{call_in}
use Rattle.relay.specs.Ways.{new, begun}
use Rattle.relay.proofs.Stand.{claims-stand, run-way}
use Rattle.relay.proofs.replay.replay.Goals as goal

pub returns : goal.returns
returns g c =
    let m = g.K.KindSet.meaning c.args.kinds in
    record {
      answers = c.replies_to.ensures;
      claims = λ n. claims-stand m (g.met.K.KindSet.lawful c.args.kinds) _ _ (run-way m begun (map call_in (take n c.args.requests.now)) new);
    }
