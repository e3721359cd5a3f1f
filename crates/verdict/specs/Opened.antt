-- A file that was opened. Assumes nothing.
use Rattle.stages.specs.declared.wires.Wires.{Wires}
use Rattle.settings.specs.Head.{Head}
use Rattle.verdict.specs.declared.network.Network.{Network}

-- its head, by its network and the wires of its inputs
abbrev pub head_in : {K : Type 0} → Network K → Wires → Head
head_in n inputs = record { header = n.header.fields; inputs = inputs.rows.items; rest = n.records.now }
