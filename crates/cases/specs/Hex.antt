-- Bytes written in hexadecimal. Assumes nothing.
use Rattle.std.specs.Prelude.{ℕ, ◌+◌, ◌-◌, ◌*◌, cond, List, [], ◌∷◌, nat_le}

-- 0 to 9 and A to F, by their character codes
abbrev pub digit : ℕ → ℕ
digit c = cond (nat_le 65 c) (c - 55) (c - 48)

-- two digits make a byte
abbrev pub hex : List ℕ → List ℕ
hex [] = []
hex (a ∷ []) = []
hex (a ∷ b ∷ cs) = (16 * digit a + digit b) ∷ hex cs
