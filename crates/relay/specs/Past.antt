-- What events tell of the past: the file that is loaded, and the frames that count. Assumes nothing.
use Rattle.std.specs.Prelude.{ℕ, Bool, true, false, cond, List, [], ◌∷◌, ℤ, Some, None, Option}
use Rattle.stages.specs.Kind.{Kinds}
use Rattle.verdict.specs.Loaded.{Loaded}
use Rattle.calls.specs.Call.{Call, load, frame, reset, state, certificate, bench, Answer, refused, loaded, framed, cleared, shown, written, Event}
use Rattle.relay.specs.Rules.{loaded_by}

-- a call is taken when it answers no refusal
abbrev pub taken : Answer → Bool
taken (refused e) = false
taken (loaded b) = true
taken (framed s) = true
taken cleared = true
taken (shown r) = true
taken (written n) = true

-- the file of the last taken load
abbrev pub file_by : Call → Option (List ℕ) → Option (List ℕ)
file_by (load file) earlier = Some file
file_by (frame cs) earlier = earlier
file_by reset earlier = earlier
file_by state earlier = earlier
file_by (certificate k b) earlier = earlier
file_by (bench k cs b) earlier = earlier

abbrev pub file_after : List Event → Option (List ℕ)
file_after [] = None
file_after (e ∷ past) = cond (taken e.answer) (file_by e.call (file_after past)) (file_after past)

-- that file, as it was accepted
abbrev pub loaded_after : Kinds → List Event → Option Loaded
loaded_after m events = loaded_by m (file_after events)

-- The frames taken since the last taken load or reset, by their codes, the newest first; other calls may lie between.
abbrev pub frames_by : Call → List (List ℤ) → List (List ℤ)
frames_by (load file) earlier = []
frames_by (frame cs) earlier = cs ∷ earlier
frames_by reset earlier = []
frames_by state earlier = earlier
frames_by (certificate k b) earlier = earlier
frames_by (bench k cs b) earlier = earlier

abbrev pub frames_since : List Event → List (List ℤ)
frames_since [] = []
frames_since (e ∷ past) = cond (taken e.answer) (frames_by e.call (frames_since past)) (frames_since past)
