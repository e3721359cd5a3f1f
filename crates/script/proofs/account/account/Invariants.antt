use Rattle.std.proofs.Common.{◌≡◌, ◌++◌, map, drop, string_bytes}
use Rattle.std.specs.Slice.Iter.{iter_rest}
use Rattle.calls.specs.Written.{call_in, told_in}
use Rattle.script.specs.Account.{account_text}
use Rattle.script.proofs.account.account.Given as goal

abbrev pub invariant-loop-well_formed : goal.invariant-loop-well_formed
invariant-loop-well_formed l =
    string_bytes l.text ++ account_text (drop l.well_formed-index l.well_formed) (map call_in (iter_rest l.asked)) (map told_in (iter_rest l.told))
    ≡ account_text l.well_formed (map call_in l.requests) (map told_in l.replies)
