use Rattle.std.proofs.Common.{replicate, pos, ap, ◌∙◌, arith}
use Rattle.calls.specs.Call.{codes}
use Rattle.relay.specs.Held.{held}
use Rattle.relay.specs.Rules.{bench_codes}
use Rattle.relay.proofs.Tellings.{buffered-told}
use Rattle.relay.proofs.replay.bench_reply.Goals as goal

pub returns : goal.returns
returns g c =
    let m = g.K.KindSet.meaning c.args.relay.now.kinds in
    let s = held c.args.relay.now in
    let filled = c.as_mut_slice.ensures.value ∙ c.in_ok-buffer.ensures.items_if_clones_equal (λ y e. e) ∙ ap (λ n. replicate n (pos 0)) c.from.ensures in
    buffered-told c.in_ok-buffer.buffer (bench_codes m s c.args.stage c.args.codes.now) codes c.bench-answer.result c.bench-answer.new.out c.as_mut_slice.result.now
    (replicate c.args.places (pos 0)) (omega arith) filled c.bench-answer.ensures.answer c.bench-answer.ensures.buffer
