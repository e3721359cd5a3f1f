-- That wires stand in a shape is a fact: it has one proof at most.
use Rattle.std.specs.Prelude.{ℕ, List, [], ◌∷◌}
use Rattle.std.specs.Coded.{×_prop, Unit-prop}
use Rattle.std.proofs.Props.{props}
use Rattle.fixed.specs.declared.row.WireRow.{WireRow}
use Rattle.fixed.specs.Wire.{Proper}
use Rattle.stages.specs.declared.shape.Shape.{Shape}
use Rattle.stages.specs.Containment.{AllProper, Stands}

all-proper-prop : (w : ℕ) (xs : List WireRow) → IsProp (AllProper w xs)
all-proper-prop w [] = Unit-prop
all-proper-prop w (x ∷ xs) =
    let one : IsProp (Proper w x) = hlevel props in ×_prop one (all-proper-prop w xs)

pub stands-prop : (s : Shape) (xs : List WireRow) → IsProp (Stands s xs)
stands-prop s xs = let all = all-proper-prop s.word xs in hlevel (props, all)
