use Rattle.std.proofs.Common.{rules}
use Rattle.verdict.specs.Opened.{head_in}
use Rattle.verdict.proofs.Outputs.{pass-settles}
use Rattle.verdict.proofs.output.works.output_of.Goals as goal

pub returns : goal.returns
returns g c =
    let m = g.K.KindSet.meaning c.args.kinds.now in
    let h = head_in c.in-Ok.network c.in-Ok.inputs in
    let told = pass-settles m c.args.file.now h c.args.codes.now c.in-Ok.ensures.head in
    search rules
