-- Answers that go into a caller's buffer. Assumes nothing.
use Rattle.std.specs.Prelude.{ℕ, cond, List, length, Ok, Err, Result, nat_le}
use Rattle.settings.specs.declared.refusal.Refusal.{Refusal}
use Rattle.settings.specs.declared.refusal.Refusal.TheVariants.{ShortBuffer}

-- the answers, where there are places for them
abbrev pub fitting : {A : Type 0} → ℕ → List A → Result (List A) Refusal
fitting places ys = cond (nat_le (length ys) places) (Ok ys) (Err ShortBuffer)
