use Rattle.cases.proofs.Courses.{met}
use Rattle.cases.proofs.premises_met.Goals as goal

pub returns : goal.returns
returns c = met
