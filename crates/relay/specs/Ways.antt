-- Every list of calls on a new relay. Assumes nothing.
use Rattle.std.specs.Prelude.{List, [], ◌∷◌}
use Rattle.stages.specs.Kind.{Kinds}
use Rattle.calls.specs.Call.{Call, Event, Told, told_by}
use Rattle.relay.specs.Rules.{State, fresh, Outcome, called}

-- a call with what came of it
abbrev pub event : Call → Outcome → Event
event c o = record { call = c; answer = o.answer; left = o.left }

-- what a call on a relay in this state tells
abbrev pub told_of : Kinds → State → Call → Told
told_of m s c = told_by (event c (called m s c))

-- A way: the events so far, the newest first, and the state that they left. Any call may follow, taken or refused.
pub data Way (m : Kinds) : List Event → State → Type 0 where
  new : Way m [] fresh
  then : {past : List Event} {s : State} → Way m past s → (c : Call) → Way m (event c (called m s c) ∷ past) (called m s c).after

-- what calls left
pub record Run : Type 0 where
  pub events : List Event
  pub state : State

abbrev pub begun : Run
begun = record { events = []; state = fresh }

abbrev pub run_more : Kinds → Run → Call → Run
run_more m r c = record { events = event c (called m r.state c) ∷ r.events; state = (called m r.state c).after }

-- a list of calls, the oldest first, after a run
abbrev pub run_on : Kinds → Run → List Call → Run
run_on m r [] = r
run_on m r (c ∷ cs) = run_on m (run_more m r c) cs
