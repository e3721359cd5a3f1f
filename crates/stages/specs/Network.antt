-- Stages one after another, and the law of a network of them. Assumes nothing.
use Rattle.std.specs.Prelude.{◌≡◌, ℕ, ◌≤◌, List, [], ◌∷◌, ℤ, Ok, Result, slice_index}
use Rattle.fixed.specs.Steps.{and_then}
use Rattle.fixed.specs.declared.row.WireRow.{WireRow}
use Rattle.stages.specs.declared.shape.Shape.{Shape}
use Rattle.stages.specs.declared.shape.KindRefusal.{KindRefusal}
use Rattle.stages.specs.declared.shape.RunRefusal.{RunRefusal}
use Rattle.stages.specs.Kind.{Setting, setting, Exact, Kind, Kinds, kind_of}
use Rattle.stages.specs.Containment.{Inside, Held, Stands}

-- a record names its kind by its first byte
abbrev pub kind_in : Kinds → List ℕ → Kind
kind_in m b = kind_of (m (slice_index b 0))

-- wires, and the shape that they stand in
pub record Stand : Type 0 where
  pub shape : Shape
  pub wires : List WireRow

abbrev pub stand : Shape → List WireRow → Stand
stand s xs = record { shape = s; wires = xs }

-- the wires after a stage of a kind
abbrev pub wires_by : Kind → Setting → List WireRow → Result Stand KindRefusal
wires_by k s xs = and_then (k.wires s xs) (λ ys. Ok (stand (k.after s) ys))

-- the wires after a stage with accumulator a and record b
abbrev pub wires_after : Kinds → ℕ → List ℕ → Stand → Result Stand KindRefusal
wires_after m a b st = wires_by (kind_in m b) (setting b a st.shape) st.wires

-- the wires after the stages with these records
abbrev pub wires_through : Kinds → ℕ → List (List ℕ) → Stand → Result Stand KindRefusal
wires_through m a [] st = Ok st
wires_through m a (b ∷ bs) st = and_then (wires_after m a b st) (wires_through m a bs)

-- the codes after them, from a shape
abbrev pub codes_through : Kinds → ℕ → List (List ℕ) → Shape → List ℤ → Result (List ℤ) RunRefusal
codes_through m a [] s cs = Ok cs
codes_through m a (b ∷ bs) s cs =
    and_then ((kind_in m b).code (setting b a s) cs) (codes_through m a bs ((kind_in m b).after (setting b a s)))

-- the exact network
abbrev pub exact_through : Kinds → ℕ → List (List ℕ) → Shape → Exact → Exact
exact_through m a [] s x = x
exact_through m a (b ∷ bs) s x = exact_through m a bs ((kind_in m b).after (setting b a s)) ((kind_in m b).exact (setting b a s) x)

-- From the wires of st to those of en: they stand in their shape; codes inside run to codes inside; exact values that are
-- held are carried to exact values that are held.
pub record Contained (m : Kinds) (a : ℕ) (bs : List (List ℕ)) (st en : Stand) : Type 0 where
  pub stands : Stands en.shape en.wires
  pub runs : (cs : List ℤ) → Inside st.wires cs
      → (ds : List ℤ) × (codes_through m a bs st.shape cs ≡ Ok ds) × Inside en.wires ds
  pub carries : (x : Exact) (cs ds : List ℤ) → codes_through m a bs st.shape cs ≡ Ok ds
      → Held st.shape.fraction x.depth st.wires cs x.values
      → Held en.shape.fraction (exact_through m a bs st.shape x).depth en.wires ds (exact_through m a bs st.shape x).values

-- The law of a network: where the wire maps lead through all its stages, it contains.
abbrev pub NetworkLaw : Kinds → Type 0
NetworkLaw m = (a : ℕ) (bs : List (List ℕ)) (st en : Stand) → 16 ≤ a → a ≤ 56 → Stands st.shape st.wires
    → wires_through m a bs st ≡ Ok en → Contained m a bs st en
