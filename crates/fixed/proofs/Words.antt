-- Words and the numbers that fit them.
use Rattle.std.proofs.Common.{◌≡◌, ℕ, zero, suc, ◌+◌, ◌-◌, ◌*◌, ◌^◌, ◌<◌, ◌≤◌, min, max, Bool, true, false, cond, ltb, ℤ, pos, negsuc, sym, refl, subst, ⊎_elim, pow-suc, arith, pow_pos, pow_mono}
use lib.Count.{count_leading_zeros, leading_length}
use lib.Signed.{mag}
use borrow.Author.Differences.{ints}
use borrow.Author.Tests.{clash}
use Rattle.std.proofs.lemmas.Bool.{cases_lt, both_ways}
use Rattle.std.proofs.lemmas.Bool.Decides.{nat_tests}
use Rattle.std.specs.Int.{int_max, int_min}
use Rattle.std.proofs.lemmas.Int.{clamps}
use Rattle.fixed.specs.Word.{fits_word, Reaches, Least, reaches, least_from, bits_needed}

-- by magnitude: a word of k + 1 bits holds z where the magnitude of z has k bits
pub reaches-in : (z : ℤ) (k : ℕ) → mag z < 2 ^ k → Reaches z z (suc k)
reaches-in (pos n) k h = (omega (arith, ints), omega (arith, ints))
reaches-in (negsuc n) k h = (omega (arith, ints), omega (arith, ints))

pub reaches-out : (z : ℤ) (k : ℕ) → Reaches z z (suc k) → mag z < 2 ^ k
reaches-out (pos n) k h = omega (arith, ints)
reaches-out (negsuc n) k h = omega (arith, ints)

-- a wider word holds what a narrower one does
pub wider : (low high : ℤ) (v w : ℕ) → v ≤ w → Reaches low high v → Reaches low high w
wider low high zero w h r = absurd r
wider low high (suc j) zero h r = absurd (omega arith)
wider low high (suc j) (suc k) h r =
    let i : j ≤ k = omega arith in
    let m = pow_mono i in
    (omega (arith, ints), omega (arith, ints))

-- no shorter length holds a
shortest : (a m v : ℕ) → 2 ^ m ≤ 2 * a + 1 → a < 2 ^ v → m ≤ v
shortest a m v h k =
    ⊎_elim (λ (i : v < m). absurd (omega (arith, pow_mono i, pow-suc 2 v))) (λ (i : m ≤ v). i) (cases_lt v m)

-- the leading zeros of the magnitude give the least word
least-word : (z : ℤ) → mag z < 2 ^ 64 → Least z z (64 - count_leading_zeros 64 (mag z) + 1)
least-word z h =
    let l = leading_length 64 (mag z) h in
    let e : suc l.0 ≡ 64 - count_leading_zeros 64 (mag z) + 1 = omega (arith, l.1) in
    subst (Least z z) e (record { reaches = reaches-in z l.0 l.2; least = by l.0 l.3 })
  where
    by : (m : ℕ) → 2 ^ m ≤ 2 * mag z + 1 → (v : ℕ) → Reaches z z v → suc m ≤ v
    by m k zero r = absurd r
    by m k (suc v) r = omega (arith, shortest (mag z) m v k (reaches-out z v r))

-- the test by the least word
pub fits-by-least : (z : ℤ) (n : ℕ) → Least z z (n + 1) → (w : ℕ) → ltb n w ≡ fits_word w z
fits-by-least z n l zero = grind (arith, nat_tests)
fits-by-least z n l (suc k) =
    let narrow = l.least (suc k) in
    let wide = λ (h : n + 1 ≤ suc k). wider z z (n + 1) (suc k) h l.reaches in
    grind (arith, ints, nat_tests)

-- a range by the words of its ends, each clipped at 0
least-range : (low high : ℤ) (v w : ℕ) → Least (int_min low (pos 0)) (int_min low (pos 0)) v → Least (int_max high (pos 0)) (int_max high (pos 0)) w → Least low high (max v w)
least-range low high v w p q =
    let l = wider _ _ v (max v w) (omega arith) p.reaches in
    let h = wider _ _ w (max v w) (omega arith) q.reaches in
    record { reaches = both (max v w) l h; least = λ u r. omega (arith, p.least u (below u r), q.least u (above u r)) }
  where
    both : (u : ℕ) → Reaches (int_min low (pos 0)) (int_min low (pos 0)) u → Reaches (int_max high (pos 0)) (int_max high (pos 0)) u → Reaches low high u
    both zero l h = absurd l
    both (suc k) l h = (omega (arith, ints, clamps), omega (arith, ints, clamps))

    below : (u : ℕ) → Reaches low high u → Reaches (int_min low (pos 0)) (int_min low (pos 0)) u
    below zero r = absurd r
    below (suc k) r = let o = pow_pos k in (omega (arith, ints, clamps), omega (arith, ints, clamps))

    above : (u : ℕ) → Reaches low high u → Reaches (int_max high (pos 0)) (int_max high (pos 0)) u
    above zero r = absurd r
    above (suc k) r = let o = pow_pos k in (omega (arith, ints, clamps), omega (arith, ints, clamps))

-- by the leading zeros of both ends
pub least-by-zeros : (low high : ℤ) → mag (int_min low (pos 0)) < 2 ^ 64 → mag (int_max high (pos 0)) < 2 ^ 64
    → Least low high (64 - min (count_leading_zeros 64 (mag (int_min low (pos 0)))) (count_leading_zeros 64 (mag (int_max high (pos 0)))) + 1)
least-by-zeros low high g h =
    let a = count_leading_zeros 64 (mag (int_min low (pos 0))) in
    let b = count_leading_zeros 64 (mag (int_max high (pos 0))) in
    let e : max (64 - a + 1) (64 - b + 1) ≡ 64 - min a b + 1 = omega arith in
    subst (Least low high) e (least-range low high _ _ (least-word _ g) (least-word _ h))

-- a test that passes reaches, and back
reaches-true : (low high : ℤ) (w : ℕ) → reaches low high w ≡ true → Reaches low high w
reaches-true low high zero e = absurd (clash e)
reaches-true low high (suc k) e = grind (arith, ints, nat_tests)

true-reaches : (low high : ℤ) (w : ℕ) → Reaches low high w → reaches low high w ≡ true
true-reaches low high zero r = absurd r
true-reaches low high (suc k) r = grind (arith, ints, nat_tests)

-- the search finds the least word
least-from : (low high : ℤ) (w v n : ℕ) → Least low high w → v ≤ w → w ≤ v + n → least_from low high v n ≡ w
least-from low high w v zero l h k = omega arith
least-from low high w v (suc n) l h k = by (reaches low high v) refl (least-from low high w (v + 1) n l)
  where
    by : (t : Bool) → reaches low high v ≡ t → (v + 1 ≤ w → w ≤ v + 1 + n → least_from low high (v + 1) n ≡ w)
        → cond t v (least_from low high (v + 1) n) ≡ w
    by true e rest = omega (arith, l.least v (reaches-true low high v e))
    by false e rest =
        let differ : v ≡ w → ⊥ = λ s. both_ways (reaches low high v) e (true-reaches low high v (subst (Reaches low high) (sym s) l.reaches)) in
        rest (omega arith) (omega arith)

-- codes of 32 bits
pub bits-needed : (low high : ℤ) (w : ℕ) → mag low < 2 ^ 31 → mag high < 2 ^ 31 → Least low high w → bits_needed low high ≡ w
unfolding bits_needed
bits-needed low high w g h l =
    let at : (z : ℤ) → mag z < 2 ^ 31 → Reaches z z 32 = λ z i. reaches-in z 31 i in
    let most = l.least 32 ((at low g).0, (at high h).1) in
    least-from low high w 1 31 l (positive w l.reaches) (omega arith)
  where
    positive : (w : ℕ) → Reaches low high w → 1 ≤ w
    positive zero r = absurd r
    positive (suc k) r = omega arith
