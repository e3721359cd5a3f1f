-- Stretches of frames, and what they weigh. Assumes nothing.
use Rattle.std.specs.Prelude.{◌≡◌, ℕ, suc, ◌+◌, ◌*◌, ◌≤◌, Bool, cond, not, List, [], ◌∷◌, ◌++◌}
use Rattle.settings.specs.declared.fields.Fields.{Fields}

-- A stretch is a run of consecutive frames among all of them.
pub record Stretch {A : Type 0} (all : List A) : Type 0 where
  pub later : List A
  pub run : List A
  pub earlier : List A
  pub whole : later ++ (run ++ earlier) ≡ all

abbrev pub how_many : {A : Type 0} → (A → Bool) → List A → ℕ
how_many test [] = 0
how_many test (x ∷ xs) = cond (test x) (suc (how_many test xs)) (how_many test xs)

abbrev pub how_many_not : {A : Type 0} → (A → Bool) → List A → ℕ
how_many_not test xs = how_many (λ x. not (test x)) xs

-- It weighs rise × those that pass the test − fall × the others, here at least n; without a difference below 0.
abbrev pub Weighs : {A : Type 0} → Fields → ℕ → (A → Bool) → List A → Type 0
Weighs f n test run = n + f.fall * how_many_not test run ≤ f.rise * how_many test run
