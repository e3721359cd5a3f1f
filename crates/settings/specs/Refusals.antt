-- Why a call says no, in numbers. Assumes nothing.
use Rattle.std.specs.Prelude.{ℕ, List, [], ◌++◌, codes, decimal}
use Rattle.settings.specs.declared.refusal.Refusal.{Refusal}
use Rattle.settings.specs.declared.refusal.Refusal.TheVariants.{FileSize, Version, HeaderLength, HeaderField, InputWire, RecordLength, UnknownKind, StageSize, StageLength, StageFormat, WeightCode, RangeSum, RangeOutput, WireError, TrailingBytes, OutputCount, AllowedError, NoFile, CodeCount, CodeRange, NoStage, RunSum, RunOutput, ShortBuffer}
use Rattle.settings.specs.declared.refusal.Further.{Further}
use Rattle.settings.specs.declared.refusal.Further.TheVariants.{Nothing, One, Two}

abbrev pub number_of : Refusal → ℕ
number_of FileSize = 10
number_of Version = 11
number_of HeaderLength = 12
number_of HeaderField = 13
number_of (InputWire i) = 14
number_of (RecordLength k) = 20
number_of (UnknownKind k) = 21
number_of (StageSize k) = 22
number_of (StageLength k) = 23
number_of (StageFormat k) = 24
number_of (WeightCode k j) = 25
number_of (RangeSum k j) = 26
number_of (RangeOutput k j) = 27
number_of (WireError k j) = 28
number_of (TrailingBytes k) = 30
number_of (OutputCount k) = 31
number_of (AllowedError k) = 32
number_of NoFile = 40
number_of CodeCount = 41
number_of (CodeRange i) = 42
number_of NoStage = 43
number_of (RunSum j) = 44
number_of (RunOutput j) = 45
number_of ShortBuffer = 46

-- what is returned after the number: of a file 0 and 0, 0 and the input, stage and 0, or stage and output
abbrev pub further_of : Refusal → Further
further_of FileSize = Two 0 0
further_of Version = Two 0 0
further_of HeaderLength = Two 0 0
further_of HeaderField = Two 0 0
further_of (InputWire i) = Two 0 i
further_of (RecordLength k) = Two k 0
further_of (UnknownKind k) = Two k 0
further_of (StageSize k) = Two k 0
further_of (StageLength k) = Two k 0
further_of (StageFormat k) = Two k 0
further_of (WeightCode k j) = Two k j
further_of (RangeSum k j) = Two k j
further_of (RangeOutput k j) = Two k j
further_of (WireError k j) = Two k j
further_of (TrailingBytes k) = Two k 0
further_of (OutputCount k) = Two k 0
further_of (AllowedError k) = Two k 0
further_of NoFile = Nothing
further_of CodeCount = Nothing
further_of (CodeRange i) = One i
further_of NoStage = Nothing
further_of (RunSum j) = One j
further_of (RunOutput j) = One j
further_of ShortBuffer = Nothing

abbrev pub further_text : Further → List ℕ
further_text Nothing = []
further_text (One a) = codes " " ++ decimal a
further_text (Two a b) = codes " " ++ (decimal a ++ (codes " " ++ decimal b))

-- `refused`, the number and what follows it, one space between
abbrev pub refusal_text : Refusal → List ℕ
refusal_text r = codes "refused " ++ (decimal (number_of r) ++ further_text (further_of r))
