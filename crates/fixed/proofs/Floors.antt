-- Division that rounds toward minus infinity.
use Rattle.std.proofs.Common.{◌≡◌, ℕ, ◌*◌, ◌/◌, ◌^◌, ◌<◌, ◌≤◌, min, ◌⊎◌, ℤ, pos, negsuc, sym, ap, ◌∙◌, inl, inr, ⊎_elim, mod-lt, div-add-mod', arith, pow_mono}
use native.Mathlib.Nat.{div-eq_of_lt}
use Rattle.std.proofs.lemmas.Bool.{cases_lt}
use lib.Signed.{mag, shr_z}
use borrow.Author.Differences.{at_most_in, below_in, sum_is_lem, product_is}
use Rattle.fixed.specs.Floor.{floor_shift, Floors}

-- the quotient is the floor
pub floors : (z : ℤ) (d : ℕ) → 0 < d → Floors z d (shr_z z d)
floors (pos a) d h =
    let e = div-add-mod' a d in
    let l = mod-lt a h in
    record { at_most = omega (arith, at_most_in, product_is); next_above = omega (arith, below_in, sum_is_lem, product_is) }
floors (negsuc a) d h =
    let e = div-add-mod' a d in
    let l = mod-lt a h in
    let next = ap (λ n. n * d) (sum_is_lem (negsuc (a / d)) (pos 1)) in
    record { at_most = omega (arith, at_most_in, product_is); next_above = omega (arith, below_in, product_is) }

-- a shift past every bit gives the sign
quotient-far : (n a b : ℕ) → n < 2 ^ a → a ≤ b → n / 2 ^ a ≡ n / 2 ^ b
quotient-far n a b h k = let m = pow_mono k in div-eq_of_lt h ∙ sym (div-eq_of_lt (omega arith))

shift-far : (z : ℤ) (a b : ℕ) → mag z < 2 ^ a → a ≤ b → floor_shift z a ≡ floor_shift z b
shift-far (pos n) a b h k = ap pos (quotient-far n a b h k)
shift-far (negsuc n) a b h k = ap negsuc (quotient-far n a b h k)

-- shifts by j and k are the same where both are k, or both pass every bit
pub shift_same : (z : ℤ) (a j k : ℕ) → mag z < 2 ^ a → min j a ≡ min k a → floor_shift z j ≡ floor_shift z k
shift_same z a j k h e = ⊎_elim (λ i. ap (floor_shift z) (omega arith)) (λ i. far i (cases_lt k a)) (cases_lt j a)
  where
    far : a ≤ j → (k < a) ⊎ (a ≤ k) → floor_shift z j ≡ floor_shift z k
    far i (inl l) = absurd (omega arith)
    far i (inr l) = sym (shift-far z a j h i) ∙ shift-far z a k h l
