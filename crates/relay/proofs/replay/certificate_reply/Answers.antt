use Rattle.std.proofs.Common.{rules, ◌≡◌, replicate, ap₂, ◌∙◌, arith}
use Rattle.calls.specs.Call.{rows, no_certificate}
use Rattle.relay.specs.Held.{held}
use Rattle.relay.specs.Rules.{certificate_rows}
use Rattle.relay.proofs.Tellings.{buffered-told}
use Rattle.relay.proofs.replay.certificate_reply.Goals as goal

pub returns : goal.returns
returns g c =
    let m = g.K.KindSet.meaning c.args.relay.now.kinds in
    let s = held c.args.relay.now in
    let none : c.default.result ≡ no_certificate = search rules in
    let filled = c.as_mut_slice.ensures.value ∙ c.in_ok-buffer.ensures.items_if_clones_equal (λ y e. e) ∙ ap₂ replicate c.from.ensures none in
    buffered-told c.in_ok-buffer.buffer (certificate_rows m s c.args.stage) rows c.certificate-answer.result c.certificate-answer.new.out c.as_mut_slice.result.now
    (replicate c.args.places no_certificate) (omega arith) filled c.certificate-answer.ensures.answer c.certificate-answer.ensures.buffer
