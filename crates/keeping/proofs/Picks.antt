-- The laws of the kinds on codes.
use Rattle.std.proofs.Common.{◌≡◌, ℕ, zero, suc, ◌+◌, ◌*◌, ◌<◌, min, List, [], ◌∷◌, ◌++◌, length, get_or, take, drop, replicate, ℤ, pos, ◌≤ℤ◌, fold, sym, refl, ap, ◌∙◌, ⊎_elim, suc-mul, zero-mul, length-take, take-append-drop, arith}
use borrow.Author.Differences.{ints}
use Rattle.std.specs.Int.{int_max}
use Rattle.std.specs.List.{ContainsAt, AllByRecursion}
use Rattle.std.proofs.lemmas.List.{drop-drop, length-append, length-replicate}
use Rattle.std.proofs.lemmas.Int.{clamps}
use Rattle.std.proofs.ByRecursion.{folded_max_z_bounds, folded_max_z_reached}
use Rattle.keeping.specs.Lists.{pooled, repeated}
use Rattle.keeping.specs.Signals.{rectified}
use Rattle.keeping.proofs.Loops.{pooled_block, pooled_none}
use Rattle.keeping.specs.Laws.{LargestPicks, RepeatThenLargest, RectifierIdempotent}

-- r is an element of the block, and none exceeds it
record Picked (block : List ℤ) (r : ℤ) : Type 0 where
  contains : ContainsAt block r
  most : AllByRecursion (λ c. c ≤ℤ r) block

picked-folded : (x : ℤ) (xs : List ℤ) → Picked (x ∷ xs) (fold int_max x xs)
picked-folded x xs =
    let r = fold int_max x xs in
    record {
      contains =
          ⊎_elim
          (λ (e : r ≡ x). (0, omega arith, λ d. sym e))
          (λ (h : ContainsAt xs r). (suc h.0, omega (arith, h.1), h.2))
          (folded_max_z_reached x xs r refl);
      most = folded_max_z_bounds x xs r refl;
    }

-- blocks of q + 1 elements: the first, and those after it
first_block : (q : ℕ) (x : ℤ) (xs : List ℤ) → pooled int_max (suc q) (x ∷ xs) ≡ fold int_max x (take q xs) ∷ pooled int_max (suc q) (drop q xs)
first_block q x xs =
    let e = take-append-drop q xs in
    ap (λ l. pooled int_max (suc q) (x ∷ l)) (sym e)
    ∙ pooled_block int_max (suc q) (x ∷ take q xs) (drop q xs) (omega arith) (omega (arith, length-take q xs, ap length e))

picks : (q i : ℕ) (cs : List ℤ) → i < length (pooled int_max (suc q) cs) → Picked (take (suc q) (drop (i * suc q) cs)) (get_or (pooled int_max (suc q) cs) i (pos 0))
picks q i [] h = absurd (omega (arith, ap length (pooled_none int_max (suc q) [] [] refl)))
picks q zero (x ∷ xs) h = rw (zero-mul, first_block) (picked-folded x (take q xs))
picks q (suc i) (x ∷ xs) h =
    let p = picks q i (drop q xs) (omega (arith, ap length (first_block q x xs))) in
    let e : suc i * suc q ≡ suc (q + i * suc q) = omega (arith, suc-mul i (suc q)) in
    rw (e, first_block) (rw drop-drop at p)

pub largest-picks : LargestPicks
largest-picks zero cs i h l = absurd (omega arith)
largest-picks (suc q) cs i h l = let p = picks q i cs l in (p.contains, p.most)

-- the largest of copies
fold-copies : (k : ℕ) (c : ℤ) → fold int_max c (replicate k c) ≡ c
fold-copies zero c = refl
fold-copies (suc k) c =
    let e : int_max c c ≡ c = omega (arith, ints, clamps) in
    ap (λ b. fold int_max b (replicate k c)) e ∙ fold-copies k c

pub repeat-then-largest : RepeatThenLargest
unfolding pooled
repeat-then-largest s [] h = refl
repeat-then-largest zero (c ∷ cs) h = absurd (omega arith)
repeat-then-largest (suc t) (c ∷ cs) h =
    let n : length (replicate (suc t) c) ≡ min (suc t) (length (replicate (suc t) c ++ repeated (suc t) cs)) = simp (length-append, length-replicate) (omega arith) in
    pooled_block int_max (suc t) (replicate (suc t) c) (repeated (suc t) cs) h n
    ∙ cc (fold-copies t c, repeat-then-largest (suc t) cs h)

pub rectifier-idempotent : RectifierIdempotent
rectifier-idempotent [] = refl
rectifier-idempotent (c ∷ cs) =
    let e : rectified (rectified c) ≡ rectified c = omega (arith, ints, clamps) in
    let r = rectifier-idempotent cs in
    cc
