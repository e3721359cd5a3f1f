use Rattle.std.proofs.Common.{◌≡◌, vec_items}
use Rattle.script.specs.Numbers.{codes_in}
use Rattle.script.specs.Parts.{parts_behind}
use Rattle.script.proofs.Steps.{prepended, left_most}
use Rattle.script.proofs.line.codes_in.Given as goal

abbrev pub invariant-loop-left : goal.invariant-loop-left
invariant-loop-left l =
    prepended (vec_items l.codes) (codes_in (parts_behind l.left)) ≡ codes_in (parts_behind l.behind)

abbrev pub decreases-loop-left : goal.decreases-loop-left
decreases-loop-left l = left_most l.left
