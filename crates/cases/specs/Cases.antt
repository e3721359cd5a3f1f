-- The table of commissioning cases. Assumes nothing.
use Rattle.std.specs.Prelude.{ℕ, true, false, List, [], ◌∷◌, ℤ, pos, neg_ℤ, codes}
use Rattle.cases.specs.Hex.{hex}
use Rattle.cases.specs.Entry.{Entry, judged, framed, answers, certain, format, kept}
use Rattle.settings.specs.declared.refusal.Refusal.TheVariants.{CodeRange}
use Rattle.calls.specs.Call.{load, frame, Answer, refused, loaded, framed as answered}

-- One input of word 12 with 8 fraction bits, -256 to 255; one full stage of one output with weight 0.5; allowed error 65,536.
abbrev pub reference : List ℕ
reference = hex (codes "010021010C08200100010000004000000002000100000006FFFFFF00000000FF00000000000E0101040808090080000000000000")

-- the reference with allowed error 61,439
abbrev pub strict : List ℕ
strict = hex (codes "010021010C0820010000EFFF004000000002000100000006FFFFFF00000000FF00000000000E0101040808090080000000000000")

-- the reference with weight 5,033,165 and allowed error 900,301
abbrev pub uneven : List ℕ
uneven = hex (codes "010021010C082001000DBCCD004000000002000100000006FFFFFF00000000FF00000000000E010104080809004CCCCD00000000")

-- the reference with weight -5,033,165 and allowed error 271,155
abbrev pub negative : List ℕ
negative = hex (codes "010021010C08200100042333004000000002000100000006FFFFFF00000000FF00000000000E010104080809FFB3333300000000")

-- two inputs with errors 65,536 and opposite weights; allowed error 126,976
abbrev pub opposite : List ℕ
opposite =
    hex (codes "01002D020C0820010001F000004000000002000100000006FFFFFF00000000FF00010000FFFFFF00000000FF00010000001201010408080900800000FF80000000000000")

-- the same with words of 14 and 10 bits, inputs from 4,096 to 5,000 and an accumulator of 16 bits
abbrev pub narrow : List ℕ
narrow =
    hex (codes "01002D020E0810010001F000004000000002000100000006000010000000138800010000000010000000138800010000001201010408080A00800000FF80000000000000")

-- and of 17 bits
abbrev pub wide : List ℕ
wide =
    hex (codes "01002D020E0811010001F000004000000002000100000006000010000000138800010000000010000000138800010000001201010408080A00800000FF80000000000000")

-- the example of a kiln's feeder, in examples/: four inputs, a full stage of three outputs and one of one
abbrev pub kiln : List ℕ
kiln = hex (codes "010045040C08280200400000008000000003000100000018FFFFFC00000003FF00001000FFFFFC00000003FF00001000FFFFFC00000003FF00001000FFFFFE00000001FF00002000004201030C1008100068F5C3005C28F6FFC7AE14002147AEFFD1EB8500851EB800451EB8FFE8F5C300147AE1FFB0A3D700A3D70A00333333000CCCCDFFFAE14800028F5C001601010C10081000B3333300733333FFB333330007AE14")

-- a frame's answer with a code and a count: not picked, picked, and picked with the trip set
abbrev pub below : ℤ → ℕ → Answer
below y n = answered (record { code = y; picked = false; count = n; trip = false })

abbrev pub picked : ℤ → ℕ → Answer
picked y n = answered (record { code = y; picked = true; count = n; trip = false })

abbrev pub tripped : ℤ → ℕ → Answer
tripped y n = answered (record { code = y; picked = true; count = n; trip = true })

abbrev pub commissioning : List Entry
commissioning =
    judged reference (codes "accepted 61440\n")
    ∷ judged strict (codes "refused 32 1 0\n")
    ∷ framed reference (pos 3 ∷ []) (pos 1 ∷ [])
    ∷ framed reference (neg_ℤ (pos 3) ∷ []) (neg_ℤ (pos 2) ∷ [])
    ∷ framed reference (pos 127 ∷ []) (pos 63 ∷ [])
    ∷ framed reference (pos 128 ∷ []) (pos 64 ∷ [])
    ∷ framed reference (pos 129 ∷ []) (pos 64 ∷ [])
    ∷ framed reference (pos 130 ∷ []) (pos 65 ∷ [])
    ∷ answers (load reference ∷ frame (pos 3 ∷ []) ∷ frame (neg_ℤ (pos 3) ∷ []) ∷ [])
    (loaded 61440 ∷ below (pos 1) 0 ∷ below (neg_ℤ (pos 2)) 0 ∷ [])
    ∷ answers (load reference ∷ frame (pos 127 ∷ []) ∷ frame (pos 128 ∷ []) ∷ frame (pos 129 ∷ []) ∷ frame (pos 130 ∷ []) ∷ frame (pos 256 ∷ []) ∷ [])
    (loaded 61440 ∷ below (pos 63) 0 ∷ picked (pos 64) 2 ∷ picked (pos 64) 4 ∷ tripped (pos 65) 6 ∷ refused (CodeRange 0) ∷ [])
    ∷ certain reference (pos 129 ∷ []) false
    ∷ certain reference (pos 130 ∷ []) true
    ∷ answers (load reference ∷ frame (pos 128 ∷ []) ∷ frame (pos 128 ∷ []) ∷ frame (pos 0 ∷ []) ∷ frame (pos 128 ∷ []) ∷ frame (pos 128 ∷ []) ∷ [])
    (loaded 61440 ∷ picked (pos 64) 2 ∷ picked (pos 64) 4 ∷ below (pos 0) 3 ∷ picked (pos 64) 5 ∷ tripped (pos 64) 6 ∷ [])
    ∷ judged uneven (codes "accepted 900301\n")
    ∷ judged negative (codes "accepted 271155\n")
    ∷ judged opposite (codes "accepted 126976\n")
    ∷ judged narrow (codes "refused 26 1 0\n")
    ∷ judged wide (codes "accepted 126976\n")
    ∷ judged kiln (codes "accepted 229318\n")
    ∷ format 24 14 true
    ∷ format 24 13 false
    ∷ kept (3 ∷ 2 ∷ []) (pos 1 ∷ pos 4 ∷ pos 2 ∷ pos 2 ∷ neg_ℤ (pos 7) ∷ []) (pos 4 ∷ pos 2 ∷ neg_ℤ (pos 7) ∷ [])
    ∷ kept (5 ∷ 2 ∷ []) (pos 1 ∷ neg_ℤ (pos 2) ∷ []) (pos 1 ∷ pos 1 ∷ neg_ℤ (pos 2) ∷ neg_ℤ (pos 2) ∷ [])
    ∷ []
