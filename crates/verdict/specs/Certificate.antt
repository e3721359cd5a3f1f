-- What an accepted file promises of every frame. Assumes nothing.
use Rattle.std.specs.Prelude.{◌≡◌, ℕ, zero, suc, ◌+◌, ◌≤◌, List, [], ◌∷◌, ℤ, Some, None, Ok, Err, Option, Result}
use Rattle.stages.specs.declared.shape.Shape.{Shape}
use Rattle.stages.specs.declared.shape.RunRefusal.{RunRefusal}
use Rattle.stages.specs.Kind.{setting, Exact, Kinds}
use Rattle.stages.specs.Containment.{Inside, Held, Within, Sized}
use Rattle.stages.specs.Network.{kind_in, codes_through, exact_through}
use Rattle.settings.specs.declared.refusal.Refusal.{Refusal}
use Rattle.settings.specs.Records.{Split}
use Rattle.settings.specs.Head.{Head, head_of}
use Rattle.verdict.specs.Stages.{stage_at}
use Rattle.verdict.specs.Verdict.{shape_in}

abbrev pub record_in : Option Split → List ℕ
record_in None = []
record_in (Some s) = s.front

-- the records of n stages from stage i on
abbrev pub records_from : List ℕ → ℕ → ℕ → List (List ℕ)
records_from xs i zero = []
records_from xs i (suc n) = record_in (stage_at xs i) ∷ records_from xs (i + 1) n

-- the network of a file: the records of all its stages
abbrev pub network_in : Head → List (List ℕ)
network_in h = records_from h.rest 0 h.header.stages

-- what stands after the stages with these records
abbrev pub shape_through : Kinds → ℕ → List (List ℕ) → Shape → Shape
shape_through m a [] s = s
shape_through m a (b ∷ bs) s = shape_through m a bs ((kind_in m b).after (setting b a s))

abbrev pub output_shape : Kinds → Head → Shape
output_shape m h = shape_through m h.header.accumulator (network_in h) (shape_in h.header)

-- the codes that the network makes of a frame
abbrev pub output_codes : Kinds → Head → List ℤ → Result (List ℤ) RunRefusal
output_codes m h cs = codes_through m h.header.accumulator (network_in h) (shape_in h.header) cs

-- what the exact network makes of the true inputs
abbrev pub output_exact : Kinds → Head → Exact → Exact
output_exact m h x = exact_through m h.header.accumulator (network_in h) (shape_in h.header) x

-- The bound is allowed, and one output stands in a format. Every frame inside the input ranges runs to one code.
-- Whatever the true inputs are within the input errors of a frame, the exact output is within the bound of its code.
pub record Certified (m : Kinds) (h : Head) (bound : ℕ) : Type 0 where
  pub allowed : bound ≤ h.header.allowed_error
  pub output : Sized (output_shape m h) × ((output_shape m h).count ≡ 1)
  pub runs : (cs : List ℤ) → Inside h.inputs cs → (c : ℤ) × (output_codes m h cs ≡ Ok (c ∷ []))
  pub holds : (x : Exact) (cs : List ℤ) (c : ℤ) → output_codes m h cs ≡ Ok (c ∷ [])
      → Held h.header.fraction x.depth h.inputs cs x.values
      → (X : ℤ) × ((output_exact m h x).values ≡ X ∷ []) × Within (output_shape m h).fraction (output_exact m h x).depth bound c X

-- what a verdict promises: an accepted file has a head, and is certified with its bound
abbrev pub Certificate : Kinds → List ℕ → Result ℕ Refusal → Type 0
Certificate m file (Ok bound) = (h : Head) × (head_of file ≡ Ok h) × Certified m h bound
Certificate m file (Err e) = Unit {0}
