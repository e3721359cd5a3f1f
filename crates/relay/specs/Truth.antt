-- True inputs, and the exact output that they have. Assumes nothing.
use Rattle.std.specs.Prelude.{◌≡◌, ℕ, ◌*◌, ◌^◌, Bool, List, [], ◌∷◌, map, ℤ, pos, ◌+ℤ◌, ◌-ℤ◌, ◌*ℤ◌, int_le, slice_index_or}
use Rattle.fixed.specs.Format.{grains_of}
use Rattle.fixed.specs.declared.row.WireRow.{WireRow}
use Rattle.stages.specs.Kind.{Exact, exactly, Kinds}
use Rattle.stages.specs.Containment.{Within}
use Rattle.verdict.specs.Certificate.{output_shape, output_exact}
use Rattle.verdict.specs.Loaded.{Loaded}

-- there is a true value, in whole grains, for each code, within the input's stated error of it
abbrev pub Near : ℕ → List WireRow → List ℤ → List ℤ → Type 0
Near f [] [] [] = Unit {0}
Near f [] [] (X ∷ Xs) = ⊥
Near f [] (c ∷ cs) Xs = ⊥
Near f (x ∷ xs) [] Xs = ⊥
Near f (x ∷ xs) (c ∷ cs) [] = ⊥
Near f (x ∷ xs) (c ∷ cs) (X ∷ Xs) = Within f 0 x.error c X × Near f xs cs Xs

-- the true inputs that a frame of these codes may have had
abbrev pub TrueInputs : Loaded → List ℤ → List ℤ → Type 0
TrueInputs l codes truth = Near l.head.header.fraction l.head.inputs codes truth

-- what the codes themselves stand for
abbrev pub own_values : Loaded → List ℤ → List ℤ
own_values l codes = map (grains_of l.head.header.fraction) codes

-- a choice of true inputs for each of some frames
pub data Truths (l : Loaded) : List (List ℤ) → List (List ℤ) → Type 0 where
  none : Truths l [] []
  also : {codes truth : List ℤ} {frames truths : List (List ℤ)} → TrueInputs l codes truth → Truths l frames truths
      → Truths l (codes ∷ frames) (truth ∷ truths)

-- what the exact network makes of true inputs
abbrev pub exact_values : Kinds → Loaded → List ℤ → Exact
exact_values m l truth = output_exact m l.head (exactly 0 truth)

-- its one output, and how many of its units a grain has
abbrev pub exact_output : Kinds → Loaded → List ℤ → ℤ
exact_output m l truth = slice_index_or (exact_values m l truth).values 0 (pos 0)

abbrev pub units : Kinds → Loaded → List ℤ → ℕ
units m l truth = 2 ^ (24 * (exact_values m l truth).depth)

-- A frame with these true inputs is sure when its exact output is at least level plus bound,
abbrev pub sure : Kinds → Loaded → List ℤ → Bool
sure m l truth = int_le ((l.head.header.level +ℤ pos l.bound) *ℤ pos (units m l truth)) (exact_output m l truth)

-- and possible when it is at least level minus bound.
abbrev pub possible : Kinds → Loaded → List ℤ → Bool
possible m l truth = int_le ((l.head.header.level -ℤ pos l.bound) *ℤ pos (units m l truth)) (exact_output m l truth)

-- the exact network has one output, and the code lies within the certified bound of it
pub record Bounded (m : Kinds) (l : Loaded) (code : ℤ) (truth : List ℤ) : Type 0 where
  pub single : (exact_values m l truth).values ≡ exact_output m l truth ∷ []
  pub within : Within (output_shape m l.head).fraction (exact_values m l truth).depth l.bound code (exact_output m l truth)
