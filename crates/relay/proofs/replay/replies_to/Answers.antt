use Rattle.std.proofs.Common.{◌≡◌, [], ◌∷◌, ◌++◌, map, reverse, take, vec_items, sym, ap, ◌∙◌, ap₂, arith, rules}
use Rattle.calls.specs.Call.{told_by}
use Rattle.calls.specs.Written.{call_in}
use Rattle.relay.specs.Rules.{State, called}
use Rattle.relay.specs.Ways.{event, Run, begun, run_on}
use Rattle.relay.proofs.Tellings.{run-more, told_more}
use Rattle.relay.proofs.replay.replies_to.Goals as goal

pub loop-request-preserved : goal.loop-request-preserved
loop-request-preserved g c =
    let mean = g.K.KindSet.meaning in
    let m = mean c.new-relay.result.kinds in
    let i = c.loop-request.request-index in
    let xs = c.args.requests.now in
    let x = c.request-item.result in
    let run = run_on m begun (map call_in (take i xs)) in
    let more = run-more m xs i x (omega arith) c.request-item.is in
    let set = c.loop-request.invariant.0 in
    let at = c.loop-request.invariant.1 in
    let told = c.in_ok-reply.ensures in
    let pushed : vec_items c.push.new.self ≡ vec_items c.loop-request.replies ++ c.in_ok-reply.reply ∷ [] = search rules in
    let said = told.told ∙ ap₂ (λ k (s : State). told_by (event (call_in x) (called (mean k) s (call_in x)))) set at in (
      told.set ∙ set,
      told.state ∙ ap₂ (λ k (s : State). (called (mean k) s (call_in x)).after) set at ∙ sym (ap (λ (r : Run). r.state) more),
      told_more (vec_items c.loop-request.replies) (vec_items c.push.new.self) c.in_ok-reply.reply run.events (event (call_in x) (called m run.state (call_in x)))
          c.loop-request.invariant.2 said pushed ∙ sym (ap (λ (r : Run). map told_by (reverse r.events)) more),
    )
