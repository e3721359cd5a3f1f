-- One turn of a loop over stages, for the definitions that it works out.
use Rattle.std.proofs.Common.{◌≡◌, ℕ, suc, ◌+◌, ◌-◌, ◌<◌, List, Result, ap, sym, ◌∙◌, arith}
use Rattle.stages.specs.Kind.{Kinds}
use Rattle.fixed.specs.Steps.{and_then}
use Rattle.stages.specs.Network.{Stand}
use Rattle.settings.specs.declared.refusal.Refusal.{Refusal}
use Rattle.verdict.specs.Running.{Frame, frame_past, frame_from}
use Rattle.verdict.specs.Stages.{stage_at, wires_past, wires_from}

-- one stage more of those that are left, by what it answers
pub wires-step : (m : Kinds) (a : ℕ) (xs : List ℕ) (k n : ℕ) (st : Stand) (r : Result Stand Refusal) → k < n → r ≡ wires_past m a (k + 1) st (stage_at xs k)
    → wires_from m a xs k (n - k) st ≡ and_then r (wires_from m a xs (k + 1) (n - (k + 1)))
wires-step m a xs k n st r h e =
    let left : n - k ≡ suc (n - (k + 1)) = omega arith in
    ap (λ j. wires_from m a xs k j st) left ∙ ap (λ o. and_then o (wires_from m a xs (k + 1) (n - (k + 1)))) (sym e)

pub frame-step : (m : Kinds) (a : ℕ) (xs : List ℕ) (k n : ℕ) (fr : Frame) (r : Result Frame Refusal) → k < n → r ≡ frame_past m a (k + 1) fr (stage_at xs k)
    → frame_from m a xs k (n - k) fr ≡ and_then r (frame_from m a xs (k + 1) (n - (k + 1)))
frame-step m a xs k n fr r h e =
    let left : n - k ≡ suc (n - (k + 1)) = omega arith in
    ap (λ j. frame_from m a xs k j fr) left ∙ ap (λ o. and_then o (frame_from m a xs (k + 1) (n - (k + 1)))) (sym e)
