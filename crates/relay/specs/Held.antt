-- What a relay holds, as the rules speak of it. Assumes nothing.
use Rattle.relay.specs.declared.relay.Relay.{Relay}
use Rattle.relay.specs.Kept.{bytes_in, file_in}
use Rattle.relay.specs.Rules.{State}

abbrev pub held : {K : Type 0} → Relay K → State
held r = record { kept = file_in (bytes_in r.kept); bound = r.bound; status = r.status }
