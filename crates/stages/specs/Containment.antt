-- The containment law. Assumes nothing.
use Rattle.std.specs.Prelude.{◌≡◌, ℕ, ◌+◌, ◌-◌, ◌*◌, ◌^◌, ◌≤◌, List, [], ◌∷◌, length, ℤ, pos, ◌-ℤ◌, ◌*ℤ◌, ◌≤ℤ◌, Some, Ok, unsigned_abs}
use Rattle.fixed.specs.Format.{IsFormat}
use Rattle.fixed.specs.Wire.{Proper}
use Rattle.fixed.specs.declared.row.WireRow.{WireRow}
use Rattle.stages.specs.declared.shape.Shape.{Shape}
use Rattle.stages.specs.Kind.{Setting, Exact, exactly, Kind, Kinds}

-- each wire is proper in a word of w bits
abbrev pub AllProper : ℕ → List WireRow → Type 0
AllProper w [] = Unit {0}
AllProper w (x ∷ xs) = Proper w x × AllProper w xs

-- the code lies in the wire's range
abbrev pub InWire : WireRow → ℤ → Type 0
InWire x c = (x.low ≤ℤ c) × (c ≤ℤ x.high)

-- there is a code for each wire, in its range
abbrev pub Inside : List WireRow → List ℤ → Type 0
Inside [] [] = Unit {0}
Inside [] (c ∷ cs) = ⊥
Inside (x ∷ xs) [] = ⊥
Inside (x ∷ xs) (c ∷ cs) = InWire x c × Inside xs cs

-- the exact value X at depth d lies within e grains of the code c with f fraction bits
abbrev pub Within : ℕ → ℕ → ℕ → ℤ → ℤ → Type 0
Within f d e c X = unsigned_abs (X -ℤ c *ℤ pos (2 ^ (24 * (d + 1) - f))) ≤ e * 2 ^ (24 * d)

-- there is a code for each wire, in its range, and an exact value within the wire's error of the code
abbrev pub Held : ℕ → ℕ → List WireRow → List ℤ → List ℤ → Type 0
Held f d [] [] [] = Unit {0}
Held f d [] [] (X ∷ Xs) = ⊥
Held f d [] (c ∷ cs) Xs = ⊥
Held f d (x ∷ xs) [] Xs = ⊥
Held f d (x ∷ xs) (c ∷ cs) [] = ⊥
Held f d (x ∷ xs) (c ∷ cs) (X ∷ Xs) = InWire x c × Within f d x.error c X × Held f d xs cs Xs

-- 1 to 64 wires in a format
pub record Sized (s : Shape) : Type 0 where
  pub least : 1 ≤ s.count
  pub most : s.count ≤ 64
  pub format : IsFormat s.word s.fraction

-- the wires that stand in a shape
pub record Stands (s : Shape) (xs : List WireRow) : Type 0 where
  pub sized : Sized s
  pub many : length xs ≡ s.count
  pub proper : AllProper s.word xs

-- what a stage may be given: an accumulator of 16 to 56 bits, and wires in a shape
pub record Given (s : Setting) (xs : List WireRow) : Type 0 where
  pub accumulator_least : 16 ≤ s.accumulator
  pub accumulator_most : s.accumulator ≤ 56
  pub stands : Stands s.before xs

-- some wires pass the stage
abbrev pub Passes : Kind → Setting → Type 0
Passes k s = (xs : List WireRow) × (Given s xs × ((ys : List WireRow) × (k.wires s xs ≡ Ok ys)))

-- What a kind owes where its wire map leads from wires xs to wires ys:
-- the wires after stand in the shape after; codes inside the earlier wires run, to codes inside the later ones;
-- exact values that are held by the earlier wires and codes are carried to exact values that the later ones hold, at every depth.
pub record Leads (k : Kind) (s : Setting) (xs ys : List WireRow) : Type 0 where
  pub stands : Stands (k.after s) ys
  pub runs : (cs : List ℤ) → Inside xs cs → (ds : List ℤ) × (k.code s cs ≡ Ok ds) × Inside ys ds
  pub carries : (d : ℕ) (cs ds Xs : List ℤ) → k.code s cs ≡ Ok ds → Held s.before.fraction d xs cs Xs
      → Held (k.after s).fraction (k.exact s (exactly d Xs)).depth ys ds (k.exact s (exactly d Xs)).values

-- The law of every kind. Codes that run, inside the wires or not, and exact values are as many as the shape after says.
pub record Lawful (k : Kind) : Type 0 where
  pub leads : (s : Setting) (xs ys : List WireRow) → Given s xs → k.wires s xs ≡ Ok ys → Leads k s xs ys
  pub code_counts : (s : Setting) (xs ys : List WireRow) → Given s xs → k.wires s xs ≡ Ok ys
      → (cs ds : List ℤ) → length cs ≡ s.before.count → k.code s cs ≡ Ok ds → length ds ≡ (k.after s).count
  pub exact_counts : (s : Setting) (xs ys : List WireRow) → Given s xs → k.wires s xs ≡ Ok ys
      → (x : Exact) → length x.values ≡ s.before.count → length (k.exact s x).values ≡ (k.after s).count

-- every kind that a set knows is lawful
abbrev pub LawfulSet : Kinds → Type 0
LawfulSet m = (n : ℕ) (k : Kind) → m n ≡ Some k → Lawful k
