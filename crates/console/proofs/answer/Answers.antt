use Rattle.std.proofs.Common.{rules}
use Rattle.std.proofs.lemmas.Result.{on_ok_weaker}
use Rattle.console.proofs.answer.Goals as goal

pub returns : goal.returns
returns g c = on_ok_weaker c.write_all.result
    (λ wrote. (c.in_ok-bytes.bytes.items, c.in_ok-text.text, search rules, search rules, search rules, search rules))
    c.write_all.ensures.bytes
