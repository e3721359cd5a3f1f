use Rattle.std.proofs.Common.{◌≡◌, ℕ, Bool, List, map, take, IfOk, Ok, Err, string_bytes, Result, sym, ap, ◌∙◌, subst, ap₂}
use Rattle.std.proofs.lemmas.List.{take-map}
use Rattle.calls.specs.Call.{Call}
use Rattle.calls.specs.Written.{call_in, told_in}
use Rattle.kinds.specs.Base.{base_kinds}
use Rattle.relay.specs.Claims.{Claims}
use Rattle.relay.specs.Ways.{begun, run_on}
use Rattle.script.specs.Account.{account_text}
use Rattle.script.specs.Scripts.{lines_of, flags_of}
use Rattle.session.specs.Session.{calls_in, told_for, session_text}
use Rattle.session.proofs.session_text.Goals as goal

-- what holds anyway holds of what is made
made-since : {A E : Type 0} (r : Result A E) (P : Type 0) → P → IfOk r (λ _. P)
made-since (Ok x) P p = p
made-since (Err e) P p = tt

-- the claims after each call
abbrev Claimed : List Call → Type 0
Claimed calls = (n : ℕ) → Claims base_kinds (run_on base_kinds begun (take n calls)).events (run_on base_kinds begun (take n calls)).state

pub returns : goal.returns
returns c =
    let text = c.args.text.now in
    let script = c.in_ok-script.ensures in
    let calls : map call_in c.as_slice-requests.result.now ≡ calls_in text = ap (map call_in) c.as_slice-requests.ensures.value ∙ script.calls in
    let flags : c.as_slice.result.now ≡ flags_of (lines_of text) = c.as_slice.ensures.value ∙ script.flags in
    let told : map told_in c.as_slice-2.result.now ≡ told_for (calls_in text) =
    ap (map told_in) c.as_slice-2.ensures.value ∙ c.in_ok-replies.ensures.answers ∙ ap told_for calls in
    let shown : account_text c.as_slice.result.now (map call_in c.as_slice-requests.result.now) (map told_in c.as_slice-2.result.now) ≡ session_text text =
    ap (λ (fs : List Bool). account_text fs (map call_in c.as_slice-requests.result.now) (map told_in c.as_slice-2.result.now)) flags
    ∙ ap₂ (account_text (flags_of (lines_of text))) calls told in
    let claimed : Claimed (map call_in c.as_slice-requests.result.now) =
    λ n. subst (λ (cs : List Call). Claims base_kinds (run_on base_kinds begun cs).events (run_on base_kinds begun cs).state) (sym (take-map call_in n c.as_slice-requests.result.now)) (c.in_ok-replies.ensures.claims n) in
    record {
      text = subst (λ t. IfOk c.account.result (λ s. string_bytes s ≡ t)) shown c.account.ensures;
      claims = made-since c.account.result (Claimed (calls_in text)) (subst Claimed calls claimed);
    }
