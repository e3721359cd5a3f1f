-- Wires in front of a table. Assumes nothing.
use Rattle.std.specs.Prelude.{take}
use Rattle.stages.specs.Network.{Stand, stand}
use Rattle.verdict.specs.declared.wires.Wires.{Wires}

-- the wires, in their shape
abbrev pub wires_in : Wires → Stand
wires_in w = stand w.shape (take w.shape.count w.rows)
