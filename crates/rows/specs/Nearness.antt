-- Integers that lie near each other.
use Rattle.std.specs.Prelude.{◌≡◌, ℕ, suc, ◌+◌, ◌-◌, ◌*◌, ◌^◌, ◌≤◌, ℤ, pos, negsuc, ◌+ℤ◌, ◌-ℤ◌, ◌*ℤ◌, unsigned_abs}
use Rattle.std.proofs.Common.{ap, arith, div-add-mod', mod-lt, mul-le-mul_right, pow_pos}
use Rattle.std.proofs.Math.IntN.{*ℤ_comm}
use borrow.Author.Differences.{ints, up, down, same_in, product_is, sum_is_lem}
use Rattle.rows.specs.Row.{remainder}

-- y is at most n from z
abbrev pub Near : ℕ → ℤ → ℤ → Type 0
Near n y z = unsigned_abs (y -ℤ z) ≤ n

-- the same in naturals, from and to
near-out : (n : ℕ) (y z : ℤ) → Near n y z → (up y + down z ≤ up z + down y + n) × (up z + down y ≤ up y + down z + n)
near-out n y z h = (omega (arith, ints), omega (arith, ints))

near-in : (n : ℕ) (y z : ℤ) → up y + down z ≤ up z + down y + n → up z + down y ≤ up y + down z + n → Near n y z
near-in n y z h k = omega (arith, ints)

-- one step after another, and side by side
pub near-trans : {m n : ℕ} (x y z : ℤ) → Near m x y → Near n y z → Near (m + n) x z
near-trans x y z h k = omega (arith, ints)

pub near-plus : {m n : ℕ} (a b c d : ℤ) → Near m a b → Near n c d → Near (m + n) (a +ℤ c) (b +ℤ d)
near-plus a b c d h k = omega (arith, ints)

-- both, times y
pub near_by : {n : ℕ} (v w y : ℤ) → Near n v w → Near (n * unsigned_abs y) (v *ℤ y) (w *ℤ y)
near_by {n} v w (pos a) h =
    let o = near-out n v w h in
    let l = mul-le-mul_right a o.0 in
    let r = mul-le-mul_right a o.1 in
    near-in (n * a) (v *ℤ pos a) (w *ℤ pos a) (omega (arith, product_is)) (omega (arith, product_is))
near_by {n} v w (negsuc a) h =
    let o = near-out n v w h in
    let l = mul-le-mul_right (suc a) o.0 in
    let r = mul-le-mul_right (suc a) o.1 in
    near-in (n * suc a) (v *ℤ negsuc a) (w *ℤ negsuc a) (omega (arith, product_is)) (omega (arith, product_is))

-- y, times both
pub near_times : {n : ℕ} (y v w : ℤ) → Near n v w → Near (unsigned_abs y * n) (y *ℤ v) (y *ℤ w)
near_times y v w h = let k = near_by v w y h in rw (*ℤ_comm y v, *ℤ_comm y w) (omega arith)

-- a number is near its floor
pub remainder-most : (z : ℤ) (k : ℕ) → remainder z k ≤ 2 ^ k - 1
remainder-most (pos a) k = let e = div-add-mod' a (2 ^ k) in let l = mod-lt a (pow_pos k) in omega (arith, ints)
remainder-most (negsuc a) k = let e = div-add-mod' a (2 ^ k) in let l = mod-lt a (pow_pos k) in omega (arith, ints)

-- the parts of a product, for `simp`
up-times : (y z : ℤ) → up (y *ℤ z) ≡ up y * up z + down y * down z
up-times y z = (product_is y z).0

down-times : (y z : ℤ) → down (y *ℤ z) ≡ up y * down z + down y * up z
down-times y z = (product_is y z).1

-- a product at the scale of both its factors, a sum at one scale, and two scales after another
pub scale-product : (q x : ℤ) (m n : ℕ) → q *ℤ x *ℤ pos (m * n) ≡ q *ℤ pos m *ℤ (x *ℤ pos n)
scale-product q x m n = same_in _ _ (simp (up-times, down-times) (omega arith))

pub scale-sum : (y z : ℤ) (n : ℕ) → (y +ℤ z) *ℤ pos n ≡ y *ℤ pos n +ℤ z *ℤ pos n
scale-sum y z n = let e = ap (λ i. i * n) (sum_is_lem y z) in same_in _ _ (omega (arith, product_is, sum_is_lem))

pub scale-twice : (y : ℤ) (m n : ℕ) → y *ℤ pos (m * n) ≡ y *ℤ pos m *ℤ pos n
scale-twice y m n = same_in _ _ (simp (up-times, down-times) (omega arith))
