use Rattle.std.proofs.Common.{◌≡◌, ◌++◌, map, vec_items}
use Rattle.calls.specs.Written.{call_in}
use Rattle.script.specs.Scripts.{lines_of, flags_of, calls_of}
use Rattle.script.proofs.script_text.read_script.Given as goal

abbrev pub invariant-loop-line : goal.invariant-loop-line
invariant-loop-line l =
    (vec_items l.script.well_formed ++ flags_of (lines_of l.line-iterator.rest.now) ≡ flags_of (lines_of l.text))
    × (map call_in (vec_items l.script.requests) ++ calls_of (lines_of l.line-iterator.rest.now) ≡ calls_of (lines_of l.text))
