-- A frame on its way, as the definitions speak of it. Assumes nothing.
use Rattle.verdict.specs.declared.frame.Frame.{Frame as Running}
use Rattle.verdict.specs.Running.{Frame, frame}
use Rattle.stages.specs.Wires.{wires_in}

abbrev pub frame_in : Running → Frame
frame_in f = frame (wires_in f.wires) f.codes.items
