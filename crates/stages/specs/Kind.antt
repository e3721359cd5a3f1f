-- What a stage kind means. Assumes nothing.
use Rattle.std.specs.Prelude.{ℕ, cond, List, ◌++◌, length, drop, ℤ, Some, None, Ok, Err, Option, Result, ◌==◌, slice_index}
use Rattle.fixed.specs.declared.row.WireRow.{WireRow}
use Rattle.stages.specs.declared.shape.Shape.{Shape}
use Rattle.stages.specs.declared.shape.KindRefusal.{KindRefusal}
use Rattle.stages.specs.declared.shape.KindRefusal.TheVariants.{Unknown}
use Rattle.stages.specs.declared.shape.RunRefusal.{RunRefusal}
use Rattle.stages.specs.declared.shape.RunRefusal.TheVariants.{Sum}

-- What a stage is given: the bytes of its record, the accumulator's width, and what stands before it.
pub record Setting : Type 0 where
  pub bytes : List ℕ
  pub accumulator : ℕ
  pub before : Shape

abbrev pub setting : List ℕ → ℕ → Shape → Setting
setting bs a s = record { bytes = bs; accumulator = a; before = s }

-- a record begins with the kind's number and the stage's size; 0 where there is none
abbrev pub size_of : List ℕ → ℕ
size_of bytes = slice_index bytes 1

-- Exact values are whole numbers with no limit. At depth d they count units of 2^-(24(d+1)), of which a grain has 2^(24d).
pub record Exact : Type 0 where
  pub depth : ℕ
  pub values : List ℤ

abbrev pub exactly : ℕ → List ℤ → Exact
exactly d Xs = record { depth = d; values = Xs }

-- A kind is four maps: exact values, codes, what stands after the stage, and wires.
pub record Kind : Type 0 where
  pub exact : Setting → Exact → Exact
  pub code : Setting → List ℤ → Result (List ℤ) RunRefusal
  pub after : Setting → Shape
  pub wires : Setting → List WireRow → Result (List WireRow) KindRefusal

-- A set of kinds sends a number to its kind, if it knows it.
abbrev pub Kinds : Type 0
Kinds = ℕ → Option Kind

-- in the place of a number that is not known: a kind that refuses every stage
abbrev pub unknown : Kind
unknown = record {
  exact = λ s x. x;
  code = λ s cs. Err (Sum 0);
  after = λ s. s.before;
  wires = λ s xs. Err Unknown;
}

abbrev pub kind_of : Option Kind → Kind
kind_of None = unknown
kind_of (Some k) = k

-- a set that knows one number
abbrev pub only : ℕ → Kind → Kinds
only number k n = cond (n == number) (Some k) None

-- two sets side by side: numbers that the first knows go to it, all others to the second
abbrev pub or_else : Option Kind → Option Kind → Option Kind
or_else (Some k) o = Some k
or_else None o = o

abbrev pub map_ok : {A B E : Type 0} → (A → B) → Result A E → Result B E
map_ok f (Ok x) = Ok (f x)
map_ok f (Err e) = Err e

-- an answer in front of a caller's buffer, the rest of it as it was; all of it as it was on a refusal
abbrev pub over : {X E : Type 0} → Result (List X) E → List X → List X
over (Ok ys) table = ys ++ drop (length ys) table
over (Err e) table = table
