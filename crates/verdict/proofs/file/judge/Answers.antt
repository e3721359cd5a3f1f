use Rattle.verdict.proofs.Certificates as certificates
use Rattle.verdict.proofs.file.judge.Goals as goal

pub returns : goal.returns
returns g c = record {
  answer = c.judge_file.ensures;
  certificate = certificates.certificate _ (g.met.K.KindSet.lawful c.args.kinds.now) c.args.file.now _ c.judge_file.ensures;
}
