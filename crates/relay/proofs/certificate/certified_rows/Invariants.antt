use Rattle.std.proofs.Common.{◌≡◌, map, take}
use Rattle.calls.specs.Certified.{certified_row}
use Rattle.relay.proofs.certificate.certified_rows.Given as goal

abbrev pub invariant-loop-wire : goal.invariant-loop-wire
invariant-loop-wire l = l.rows.items ≡ map certified_row (take l.wire-index l.wires)
