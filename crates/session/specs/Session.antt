-- A script, run on one new relay with the kinds of this relay. Assumes nothing.
use Rattle.std.specs.Prelude.{ℕ, List, map, reverse}
use Rattle.calls.specs.Call.{Call, Told, told_by}
use Rattle.kinds.specs.Base.{base_kinds}
use Rattle.relay.specs.Ways.{begun, run_on}
use Rattle.script.specs.Account.{account_text}
use Rattle.script.specs.Scripts.{lines_of, flags_of, calls_of}

-- the calls of its well-formed lines
abbrev pub calls_in : List ℕ → List Call
calls_in text = calls_of (lines_of text)

-- what calls on a new relay tell, the oldest first
abbrev pub told_for : List Call → List Told
told_for calls = map told_by (reverse (run_on base_kinds begun calls).events)

-- a block for each line: what its call told, or that it is malformed
abbrev pub session_text : List ℕ → List ℕ
session_text text = account_text (flags_of (lines_of text)) (calls_in text) (told_for (calls_in text))
