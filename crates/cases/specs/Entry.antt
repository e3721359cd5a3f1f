-- A commissioning case, and what it is for it to hold. Assumes nothing.
use Rattle.std.specs.Prelude.{◌≡◌, ℕ, Bool, false, List, [], ◌∷◌, map, reverse, length, ℤ, Some, None, Ok, Err, Option, Result}
use Rattle.fixed.specs.Format.{is_format}
use Rattle.stages.specs.declared.shape.Shape.{Shape}
use Rattle.stages.specs.declared.shape.RunRefusal.{RunRefusal}
use Rattle.stages.specs.Kind.{setting}
use Rattle.stages.specs.Network.{kind_in}
use Rattle.settings.specs.declared.refusal.Refusal.{Refusal}
use Rattle.settings.specs.Head.{Head, head_of}
use Rattle.verdict.specs.Verdict.{verdict_of}
use Rattle.verdict.specs.Line.{verdict_line}
use Rattle.verdict.specs.Certificate.{output_codes}
use Rattle.verdict.specs.Loaded.{Loaded, loaded_in}
use Rattle.calls.specs.Call.{Call, Answer, Event}
use Rattle.relay.specs.Truth.{own_values, sure}
use Rattle.relay.specs.Ways.{begun, run_on}
use Rattle.kinds.specs.Base.{base_kinds}

-- a file and its verdict line; a file, a frame and the output codes; calls on a new relay and their answers, the oldest first;
-- a file, a frame and whether the frame is sure where its codes tell the true inputs exactly; a word, fraction bits and whether
-- they are a format; the record of a stage that keeps the format, codes before it and codes after it
pub data Entry : Type 0 where
  judged : List ℕ → List ℕ → Entry
  framed : List ℕ → List ℤ → List ℤ → Entry
  answers : List Call → List Answer → Entry
  certain : List ℕ → List ℤ → Bool → Entry
  format : ℕ → ℕ → Bool → Entry
  kept : List ℕ → List ℤ → List ℤ → Entry

-- no codes where a frame is refused
abbrev pub codes_or : Result (List ℤ) RunRefusal → List ℤ
codes_or (Ok cs) = cs
codes_or (Err e) = []

abbrev pub codes_from : Result Head Refusal → List ℤ → List ℤ
codes_from (Ok h) cs = codes_or (output_codes base_kinds h cs)
codes_from (Err e) cs = []

-- what calls on a new relay answer
abbrev pub answers_to : List Call → List Answer
answers_to calls = map (λ (e : Event). e.answer) (reverse (run_on base_kinds begun calls).events)

-- a frame of the file is sure, with the true inputs that its codes stand for; not so where the file is refused
abbrev pub sure_by : Option Loaded → List ℤ → Bool
sure_by None cs = false
sure_by (Some l) cs = sure base_kinds l (own_values l cs)

-- the format of the reference file
abbrev pub shape_for : List ℤ → Shape
shape_for cs = record { count = length cs; word = 12; fraction = 8 }

abbrev pub Holds : Entry → Type 0
Holds (judged file line) = verdict_line (verdict_of base_kinds file) ≡ line
Holds (framed file cs ds) = codes_from (head_of file) cs ≡ ds
Holds (answers calls told) = answers_to calls ≡ told
Holds (certain file cs is) = sure_by (loaded_in base_kinds file) cs ≡ is
Holds (format w f is) = is_format w f ≡ is
Holds (kept b cs ds) = codes_or ((kind_in base_kinds b).code (setting b 32 (shape_for cs)) cs) ≡ ds

abbrev pub AllHold : List Entry → Type 0
AllHold [] = Unit {0}
AllHold (e ∷ es) = Holds e × AllHold es
