-- One wire, its code and its exact value, under the larger of two and under rectifying.
use Rattle.std.specs.Prelude.{◌≡◌, ℕ, zero, suc, ◌*◌, ◌^◌, ◌≤◌, max, true, ℤ, pos, ◌-ℤ◌, ◌*ℤ◌, ◌≤ℤ◌, unsigned_abs}
use Rattle.std.proofs.Common.{arith, mul-le-mul_right, pow_pos}
use Rattle.std.proofs.Math.IntN.{zero-*ℤ}
use Rattle.std.specs.Int.{int_max}
use Rattle.std.proofs.lemmas.Int.{clamps, by_lt_z, ints}
use Rattle.std.proofs.lemmas.Bool.Decides.{nat_tests}
use Rattle.fixed.specs.Word.{fits_word}
use Rattle.fixed.specs.Wire.{Proper}
use Rattle.fixed.specs.declared.row.WireRow.{WireRow}
use Rattle.stages.specs.Containment.{InWire, Within}
use Rattle.keeping.specs.Signals.{rectified, larger_row, rectified_row}

-- scaling keeps the order, and so the larger of two
scaled-le : (a b : ℤ) (u : ℕ) → a ≤ℤ b → (a *ℤ pos u) ≤ℤ (b *ℤ pos u)
scaled-le a b u h = grind (arith, ints, mul-le-mul_right)

scaled-max : (a b : ℤ) (u : ℕ) → int_max a b *ℤ pos u ≡ int_max (a *ℤ pos u) (b *ℤ pos u)
scaled-max a b u =
    by_lt_z b a (λ h. grind (arith, ints, clamps, scaled-le b a u)) (λ h. grind (arith, ints, clamps, scaled-le a b u h))

-- values near their codes: the larger is near the larger, by the larger error
max-near : (x a y b : ℤ) (m n k : ℕ) → unsigned_abs (x -ℤ a) ≤ m → unsigned_abs (y -ℤ b) ≤ n → m ≤ k → n ≤ k → unsigned_abs (int_max x y -ℤ int_max a b) ≤ k
max-near x a y b m n k g h i j = omega (arith, ints, clamps)

pub larger-within : (f d e g : ℕ) (a b x y : ℤ) → Within f d e a x → Within f d g b y → Within f d (max e g) (int_max a b) (int_max x y)
larger-within f d e g a b x y h k =
    let v = 2 ^ (24 * d) in
    let l : e ≤ max e g = omega arith in
    let m : g ≤ max e g = omega arith in
    rw scaled-max (max-near x _ y _ (e * v) (g * v) (max e g * v) h k (mul-le-mul_right v l) (mul-le-mul_right v m))

pub larger-inside : (v w : WireRow) (a b : ℤ) → InWire v a → InWire w b → InWire (larger_row v w) (int_max a b)
larger-inside v w a b h k = grind (arith, ints, clamps)

pub rectified-inside : (v : WireRow) (a : ℤ) → InWire v a → InWire (rectified_row v) (rectified a)
rectified-inside v a h = grind (arith, ints, clamps)

-- 0 is near 0
pub rectified-within : (f d e : ℕ) (a x : ℤ) → Within f d e a x → Within f d e (rectified a) (rectified x)
rectified-within f d e a x h =
    let n = e * 2 ^ (24 * d) in
    rw (scaled-max, zero-*ℤ) (max-near x _ (pos 0) (pos 0) n n n h (omega arith) (omega arith) (omega arith))

-- what fits a word stays in it
fits-zero : (w : ℕ) → 1 ≤ w → fits_word w (pos 0) ≡ true
fits-zero zero h = absurd (omega arith)
fits-zero (suc k) h = grind (arith, ints, nat_tests, pow_pos)

pub larger-proper : (w : ℕ) (x y : WireRow) → Proper w x → Proper w y → Proper w (larger_row x y)
larger-proper w x y h k = grind (arith, ints, clamps)

pub rectified-proper : (w : ℕ) (x : WireRow) → 1 ≤ w → Proper w x → Proper w (rectified_row x)
rectified-proper w x l h = grind (arith, ints, clamps, fits-zero w l)
