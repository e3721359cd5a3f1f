-- What a stage is given and gives, as the definitions speak of it. Assumes nothing.
use Rattle.stages.specs.declared.stage.Stage.{Stage}
use Rattle.stages.specs.declared.wires.Wires.{Wires}
use Rattle.stages.specs.Kind.{Setting, setting}
use Rattle.stages.specs.Network.{Stand, stand}

abbrev pub setting_in : Stage → Setting
setting_in s = setting s.bytes.now s.accumulator s.before

abbrev pub wires_in : Wires → Stand
wires_in w = stand w.shape w.rows.items
