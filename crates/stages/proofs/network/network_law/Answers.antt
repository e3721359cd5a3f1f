use Rattle.stages.proofs.Networks.{network-law}
use Rattle.stages.proofs.network.network_law.Goals as goal

pub returns : goal.returns
returns g c = network-law _ (g.met.K.KindSet.lawful c.args.kinds.now)
