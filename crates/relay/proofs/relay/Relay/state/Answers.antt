use Rattle.relay.specs.Held.{held}
use Rattle.relay.proofs.Stand.{claims-stand}
use Rattle.relay.proofs.relay.Relay.state.Goals as goal

pub returns : goal.returns
returns g c = record {
  answer = c.report.ensures;
  claims = λ events w. claims-stand _ (g.met.K.KindSet.lawful c.args.self.now.kinds) events (held c.args.self.now) w;
}
