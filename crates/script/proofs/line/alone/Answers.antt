use Rattle.std.proofs.Common.{None, sym, refl}
use Rattle.calls.specs.Written.{call_in}
use Rattle.script.specs.Lines.{alone}
use Rattle.script.proofs.Parts.{part-behind}
use Rattle.script.proofs.line.alone.Goals as goal

pub returns-in-Some : goal.returns-in-Some
returns-in-Some c = sym (part-behind (alone (call_in c.args.request)) None (λ p ps. refl) _ _ c.in-Some.is)
