-- A value against the pickup level, and an exact output against it.
use Rattle.std.proofs.Common.{◌≡◌, ℕ, ◌+◌, ◌-◌, ◌*◌, ◌^◌, ◌≤◌, true, ℤ, pos, ◌+ℤ◌, ◌-ℤ◌, ◌*ℤ◌, neg_ℤ, nat_abs, sym, ap, ◌∙◌, subst, mul-le-mul_right, le_of_mul-le-mul_right, arith, pow-add}
use lib.Signed.{le_z}
use borrow.Author.Differences.{ints, up, down, sum_is_lem, neg_is, product_is, same_in, le-true, true_is_le}
use Rattle.fixed.specs.Format.{grains_of}
use Rattle.stages.specs.Containment.{Within}

-- the exact value x, of which a grain has u units, is at most b grains from the value g
abbrev pub Close : ℕ → ℕ → ℤ → ℤ → Type 0
Close b u g x = nat_abs (x -ℤ g *ℤ pos u) ≤ b * u

close-out : (b u : ℕ) (g x : ℤ) → Close b u g x → (up x + down g * u ≤ up g * u + down x + b * u) × (up g * u + down x ≤ up x + down g * u + b * u)
close-out b u g x h = let p = product_is g (pos u) in (omega (arith, ints), omega (arith, ints))

-- a sum at the scale of x
sum-scaled : (l : ℤ) (b u : ℕ) → up ((l +ℤ pos b) *ℤ pos u) + down l * u ≡ down ((l +ℤ pos b) *ℤ pos u) + up l * u + b * u
sum-scaled l b u =
    let p = product_is (l +ℤ pos b) (pos u) in
    let s = ap (λ n. n * u) (sum_is_lem l (pos b)) in
    omega arith

less-scaled : (l : ℤ) (b u : ℕ) → up ((l -ℤ pos b) *ℤ pos u) + down l * u + b * u ≡ down ((l -ℤ pos b) *ℤ pos u) + up l * u
less-scaled l b u =
    let p = product_is (l -ℤ pos b) (pos u) in
    let n = neg_is (pos b) in
    let s = ap (λ i. i * u) (sum_is_lem l (neg_ℤ (pos b))) in
    let v = ap (λ i. i * u) n.0 in
    let w = ap (λ i. i * u) n.1 in
    omega arith

-- where the exact value is at least level plus bound, the value is at least the level
pub sure-picked : (l g x : ℤ) (b u : ℕ) → 1 ≤ u → Close b u g x → le_z ((l +ℤ pos b) *ℤ pos u) x ≡ true → le_z l g ≡ true
sure-picked l g x b u one near high =
    let c = close-out b u g x near in
    let s = sum-scaled l b u in
    let a = le-true ((l +ℤ pos b) *ℤ pos u) x high in
    let scaled : (up l + down g) * u ≤ (up g + down l) * u = omega arith in
    sym (true_is_le l g (le_of_mul-le-mul_right scaled one))

-- where the value is at least the level, the exact value is at least level minus bound
pub picked-possible : (l g x : ℤ) (b u : ℕ) → Close b u g x → le_z l g ≡ true → le_z ((l -ℤ pos b) *ℤ pos u) x ≡ true
picked-possible l g x b u near high =
    let c = close-out b u g x near in
    let s = less-scaled l b u in
    let a = mul-le-mul_right u (le-true l g high) in
    sym (true_is_le ((l -ℤ pos b) *ℤ pos u) x (omega arith))

-- a code's scale at a depth is its value in grains, at the units of that depth
depth-scale : (y : ℤ) (f d : ℕ) → f ≤ 24 → y *ℤ pos (2 ^ (24 * (d + 1) - f)) ≡ grains_of f y *ℤ pos (2 ^ (24 * d))
depth-scale y f d h =
    let e : 24 * (d + 1) - f ≡ (24 - f) + 24 * d = omega arith in
    let t : 2 ^ (24 * (d + 1) - f) ≡ 2 ^ (24 - f) * 2 ^ (24 * d) = ap (λ n. 2 ^ n) e ∙ pow-add 2 (24 - f) (24 * d) in
    ap (λ n. y *ℤ pos n) t ∙ twice y (2 ^ (24 - f)) (2 ^ (24 * d))
  where
    twice : (z : ℤ) (m n : ℕ) → z *ℤ pos (m * n) ≡ z *ℤ pos m *ℤ pos n
    twice z m n =
        let p = product_is z (pos (m * n)) in
        let q = product_is z (pos m) in
        let r = product_is (z *ℤ pos m) (pos n) in
        let v = ap (λ i. i * n) q.0 in
        let w = ap (λ i. i * n) q.1 in
        same_in _ _ (omega arith)

pub within-close : (f d b : ℕ) (y x : ℤ) → f ≤ 24 → Within f d b y x → Close b (2 ^ (24 * d)) (grains_of f y) x
within-close f d b y x h w = subst (λ z. nat_abs (x -ℤ z) ≤ b * 2 ^ (24 * d)) (depth-scale y f d h) w
