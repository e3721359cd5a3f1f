-- What holds of every list of calls on a new relay, told by its events and the true inputs. Assumes nothing.
use Rattle.std.specs.Prelude.{◌≡◌, ℕ, true, false, List, [], ◌∷◌, ◌++◌, map, ℤ, Some, None, Ok, Option}
use Rattle.stages.specs.Kind.{Kinds}
use Rattle.stages.specs.Containment.{Inside}
use Rattle.verdict.specs.Certificate.{output_codes}
use Rattle.verdict.specs.Loaded.{Loaded, loaded_in}
use Rattle.calls.specs.Call.{frame, Answer, refused, loaded, framed, cleared, shown, written, Left, Event}
use Rattle.relay.specs.Rules.{State, called}
use Rattle.relay.specs.Ways.{event, Way}
use Rattle.relay.specs.Past.{file_after, loaded_after, frames_since}
use Rattle.relay.specs.Truth.{TrueInputs, own_values, Truths, sure, possible, Bounded}
use Rattle.counter.specs.Stretch.{Stretch, Weighs}

-- the code that a frame answered
abbrev pub code_in : Answer → Option ℤ
code_in (refused e) = None
code_in (loaded b) = None
code_in (framed s) = Some s.code
code_in cleared = None
code_in (shown r) = None
code_in (written n) = None

-- A frame answered rightly: its codes run through all stages, without overflow, to the code that it answered, and whatever
-- its true inputs were within their stated errors, that code lies within the certified bound of the exact output. There are
-- such true inputs: what the codes themselves stand for.
pub record Right (m : Kinds) (l : Loaded) (codes : List ℤ) (answer : Answer) : Type 0 where
  pub code : ℤ
  pub runs : output_codes m l.head codes ≡ Ok (code ∷ [])
  pub answered : code_in answer ≡ Some code
  pub bounded : (truth : List ℤ) → TrueInputs l codes truth → Bounded m l code truth
  pub inputs_exist : TrueInputs l codes (own_values l codes)

-- an event is what the rules make of its call, on a relay that the events before it led to, and leaves what they say
pub record Ruled (m : Kinds) (past : List Event) (e : Event) : Type 0 where
  pub before : State
  pub way : Way m past before
  pub outcome : e ≡ event e.call (called m before e.call)
  pub after : Way m (e ∷ past) (called m before e.call).after

-- After these events, which led to this state:
pub record Claims (m : Kinds) (events : List Event) (s : State) : Type 0 where
  -- every call answered, and left in the buffer and in the relay, what the rules say
  pub rules_kept : (later past : List Event) (e : Event) → later ++ (e ∷ past) ≡ events → Ruled m past e
  -- the file that is loaded is the one kept, and it is accepted
  pub file_kept : file_after events ≡ s.kept
  pub file_accepted : (file : List ℕ) → file_after events ≡ Some file → (l : Loaded) × (loaded_in m file ≡ Some l) × (l.bound ≡ s.bound)
  -- every frame inside the input ranges of the file loaded then was taken, and answered rightly
  pub frames_right : (later past : List Event) (codes : List ℤ) (answer : Answer) (left : Left) (file : List ℕ)
      → later ++ (record { call = frame codes; answer = answer; left = left } ∷ past) ≡ events → file_after past ≡ Some file
      → (l : Loaded) × (loaded_in m file ≡ Some l) × (Inside l.head.inputs codes → Right m l codes answer)
  -- with no file loaded there is no trip
  pub idle : file_after events ≡ None → s.status.trip ≡ false
  -- for every choice of true inputs: if some stretch weighs at least the delay by its sure frames, the trip stands
  pub must_trip : (l : Loaded) → loaded_after m events ≡ Some l → (truths : List (List ℤ)) → Truths l (frames_since events) truths
      → (stretch : Stretch truths) → Weighs l.head.header l.head.header.delay (sure m l) stretch.run → s.status.trip ≡ true
  -- for every choice of true inputs: if the trip stands, some stretch weighs at least the delay by its possible frames
  pub may_trip : (l : Loaded) → loaded_after m events ≡ Some l → (truths : List (List ℤ)) → Truths l (frames_since events) truths
      → s.status.trip ≡ true → (stretch : Stretch truths) × Weighs l.head.header l.head.header.delay (possible m l) stretch.run
  -- there always is such a choice: what the codes themselves stand for
  pub truths_exist : (l : Loaded) → loaded_after m events ≡ Some l → Truths l (frames_since events) (map (own_values l) (frames_since events))
