-- Words of w bits. Assumes nothing.
use Rattle.std.specs.Prelude.{ℕ, zero, suc, ◌+◌, ◌^◌, ◌≤◌, Bool, false, cond, ◌&&◌, ℤ, pos, neg_ℤ, ◌≤ℤ◌, ◌<ℤ◌, int_le, int_lt}

-- z fits w bits: -2^(w-1) ≤ z ≤ 2^(w-1) - 1. No number fits a word of no bits.
abbrev pub fits_word : ℕ → ℤ → Bool
fits_word zero z = false
fits_word (suc k) z = int_le (neg_ℤ (pos (2 ^ k))) z && int_lt z (pos (2 ^ k))

-- a word of w bits reaches from low to high: -2^(w-1) ≤ low and high ≤ 2^(w-1) - 1
abbrev pub Reaches : ℤ → ℤ → ℕ → Type 0
Reaches low high zero = ⊥
Reaches low high (suc k) = (neg_ℤ (pos (2 ^ k)) ≤ℤ low) × (high <ℤ pos (2 ^ k))

-- w is the least such word
pub record Least (low high : ℤ) (w : ℕ) : Type 0 where
  pub reaches : Reaches low high w
  pub least : (v : ℕ) → Reaches low high v → w ≤ v

-- the same as a test
abbrev pub reaches : ℤ → ℤ → ℕ → Bool
reaches low high zero = false
reaches low high (suc k) = int_le (neg_ℤ (pos (2 ^ k))) low && int_lt high (pos (2 ^ k))

-- the first of the n words from v on that reaches from low to high, or the one after them
abbrev pub least_from : ℤ → ℤ → ℕ → ℕ → ℕ
least_from low high v zero = v
least_from low high v (suc n) = cond (reaches low high v) v (least_from low high (v + 1) n)

-- The bits that codes from low to high need: the least word that reaches, of the words up to 32 bits that codes have.
unfoldable pub bits_needed : ℤ → ℤ → ℕ
bits_needed low high = least_from low high 1 31
