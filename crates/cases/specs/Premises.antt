-- Calls on which the premises of the claims hold, and a flicker. Assumes nothing.
use Rattle.std.specs.Prelude.{◌≡◌, ℕ, Bool, true, List, [], ◌∷◌, ℤ, pos, ◌*ℤ◌, Some, codes, int_le}
use Rattle.verdict.specs.Loaded.{Loaded}
use Rattle.calls.specs.Call.{Call, load, frame, reset, state, loaded}
use Rattle.relay.specs.Ways.{Way, Run, begun, run_on}
use Rattle.relay.specs.Past.{loaded_after, frames_since}
use Rattle.relay.specs.Truth.{Truths, exact_output, units, sure}
use Rattle.counter.specs.Stretch.{Stretch, how_many, how_many_not, Weighs}
use Rattle.kinds.specs.Base.{base_kinds}
use Rattle.cases.specs.Hex.{hex}
use Rattle.cases.specs.Entry.{answers_to}
use Rattle.cases.specs.Cases.{reference, below, picked, tripped}

-- what calls leave of a new relay with the kinds of this relay
abbrev pub after : List Call → Run
after calls = run_on base_kinds begun calls

-- a way on which these calls, the oldest first, load a file, and a choice of true inputs for the frames that count
pub record Course (calls : List Call) : Type 0 where
  pub file : Loaded
  pub truths : List (List ℤ)
  pub way : Way base_kinds (after calls).events (after calls).state
  pub loaded : loaded_after base_kinds (after calls).events ≡ Some file
  pub chosen : Truths file (frames_since (after calls).events) truths

-- some stretch weighs at least the delay by its sure frames
pub record Must (calls : List Call) : Type 0 where
  pub course : Course calls
  pub stretch : Stretch course.truths
  pub weighs : Weighs course.file.head.header course.file.head.header.delay (sure base_kinds course.file) stretch.run

-- the trip stands, and no frame was sure
pub record May (calls : List Call) : Type 0 where
  pub course : Course calls
  pub trip : (after calls).state.status.trip ≡ true
  pub none_sure : how_many (sure base_kinds course.file) course.truths ≡ 0

-- four sure frames and one other, with a question and a refused frame between them, after a reset
abbrev pub sure_calls : List Call
sure_calls =
    load reference ∷ frame (pos 255 ∷ []) ∷ reset ∷ frame (pos 130 ∷ []) ∷ frame (pos 130 ∷ []) ∷ state ∷ frame (pos 0 ∷ []) ∷ frame (pos 256 ∷ [])
    ∷ frame (pos 130 ∷ []) ∷ frame (pos 130 ∷ []) ∷ []

-- three frames just at the level
abbrev pub level_calls : List Call
level_calls = load reference ∷ frame (pos 128 ∷ []) ∷ frame (pos 128 ∷ []) ∷ frame (pos 128 ∷ []) ∷ []

-- the reference with a level of 4,227,072 grains, between two codes, and a fall of 6, which takes the whole count away
abbrev pub reloading : List ℕ
reloading = hex (codes "010021010C08200100010000004080000002000600000006FFFFFF00000000FF00000000000E0101040808090080000000000000")

-- inputs that keep the exact output at the level or just above it
abbrev pub flicker_calls : List Call
flicker_calls =
    load reloading ∷ frame (pos 130 ∷ []) ∷ frame (pos 129 ∷ []) ∷ frame (pos 130 ∷ []) ∷ frame (pos 129 ∷ []) ∷ frame (pos 130 ∷ []) ∷ frame (pos 129 ∷ []) ∷ []

-- inputs that keep it at level plus bound or above
abbrev pub steady_calls : List Call
steady_calls = load reloading ∷ frame (pos 131 ∷ []) ∷ frame (pos 132 ∷ []) ∷ frame (pos 131 ∷ []) ∷ []

-- the exact output is at least the level
abbrev pub at_level : Loaded → List ℤ → Bool
at_level l truth = int_le (l.head.header.level *ℤ pos (units base_kinds l truth)) (exact_output base_kinds l truth)

-- The flicker: no exact output is below the level, but every other code is, and each takes the count away. No frame is sure:
-- the certificate asks for 61,440 grains above the level. With that much every frame is sure, and the trip stands.
pub record Flicker : Type 0 where
  pub flickering : Course flicker_calls
  pub none_under : how_many_not (at_level flickering.file) flickering.truths ≡ 0
  pub told : answers_to flicker_calls
      ≡ loaded 61440 ∷ picked (pos 65) 2 ∷ below (pos 64) 0 ∷ picked (pos 65) 2 ∷ below (pos 64) 0 ∷ picked (pos 65) 2 ∷ below (pos 64) 0 ∷ []
  pub none_sure : how_many (sure base_kinds flickering.file) flickering.truths ≡ 0
  pub margin : flickering.file.bound ≡ 61440
  pub steady : Must steady_calls
  pub all_sure : how_many_not (sure base_kinds steady.course.file) steady.course.truths ≡ 0
  pub trips : answers_to steady_calls ≡ loaded 61440 ∷ picked (pos 65) 2 ∷ picked (pos 66) 4 ∷ tripped (pos 65) 6 ∷ []

-- the premises of must_trip and of may_trip are met, and the flicker is real
pub record PremisesMet : Type 0 where
  pub must : Must sure_calls
  pub may : May level_calls
  pub flicker : Flicker
