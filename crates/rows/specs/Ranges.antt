-- Ranges and the codes in them.
use Rattle.std.specs.Prelude.{◌≡◌, ℕ, zero, suc, ◌≤◌, Bool, true, false, cond, List, [], ◌∷◌, map, ℤ, pos, negsuc, ◌+ℤ◌, ◌*ℤ◌, ◌≤ℤ◌, Some, None, Option, int_lt, refl}
use Rattle.std.proofs.Common.{sym, subst, ◌∙◌, arith, mul-le-mul_left}
use Rattle.std.proofs.Math.IntN.{+ℤ_idr, +ℤ_assoc}
use Rattle.std.proofs.Math.Pow.{shr_mono}
use Rattle.std.specs.Int.Signed.{≤ℤ_refl}
use borrow.Author.Differences.{ints, le_out, at_most_in, product_is}
use borrow.Author.Tests.{clash}
use Rattle.std.proofs.lemmas.Bool.Decides.{nat_tests}
use Rattle.std.proofs.lemmas.Bool.{and_parts}
use Rattle.fixed.specs.Floor.{floor_shift}
use Rattle.fixed.specs.Word.{fits_word}
use Rattle.fixed.specs.declared.row.WireRow.{WireRow}
use Rattle.stages.specs.Containment.{AllProper, InWire, Inside}
use Rattle.rows.specs.declared.range.SumRange.{SumRange}
use Rattle.rows.specs.Range.{range_plus, range_times, range_fits, range_shift}
use Rattle.rows.specs.Row.{dot}
use Rattle.rows.specs.Walk.{walked, tested}

-- the number lies in the range
abbrev pub InRange : SumRange → ℤ → Type 0
InRange r z = (r.low ≤ℤ z) × (z ≤ℤ r.high)

-- a word that holds both ends holds what lies between them
between-fits : (w : ℕ) (low high z : ℤ) → fits_word w low ≡ true → fits_word w high ≡ true → low ≤ℤ z → z ≤ℤ high
    → fits_word w z ≡ true
between-fits zero low high z e f h k = absurd (clash e)
between-fits (suc n) low high z e f h k = grind (arith, ints, nat_tests)

pub in-fits : (w : ℕ) (r : SumRange) (z : ℤ) → range_fits w r ≡ true → InRange r z → fits_word w z ≡ true
in-fits w r z e h =
    let p = and_parts (fits_word w r.low) (fits_word w r.high) e in
    between-fits w r.low r.high z p.0 p.1 h.0 h.1

-- sums, products and floors of what lies in ranges
in-plus : (r t : SumRange) (y z : ℤ) → InRange r y → InRange t z → InRange (range_plus r t) (y +ℤ z)
in-plus r t y z h k = (omega (arith, ints), omega (arith, ints))

-- a product grows with its second factor, or falls where the first is negative
grows : (q y z : ℤ) → int_lt q (pos 0) ≡ false → y ≤ℤ z → (q *ℤ y) ≤ℤ (q *ℤ z)
grows (pos n) y z e h = omega (arith, at_most_in, product_is, mul-le-mul_left n (le_out y z h))
grows (negsuc n) y z e h = absurd (clash (sym e))

falls : (q y z : ℤ) → int_lt q (pos 0) ≡ true → y ≤ℤ z → (q *ℤ z) ≤ℤ (q *ℤ y)
falls (pos n) y z e h = absurd (omega (arith, ints, e))
falls (negsuc n) y z e h = omega (arith, at_most_in, product_is, mul-le-mul_left (suc n) (le_out y z h))

in-times : (q : ℤ) (x : WireRow) (c : ℤ) → InWire x c → InRange (range_times q x) (q *ℤ c)
in-times q x c h = by (int_lt q (pos 0)) refl
  where
    by : (t : Bool) → int_lt q (pos 0) ≡ t
        → (cond t (q *ℤ x.high) (q *ℤ x.low) ≤ℤ (q *ℤ c)) × ((q *ℤ c) ≤ℤ cond t (q *ℤ x.low) (q *ℤ x.high))
    by true e = (falls q c x.high e h.1, falls q x.low c e h.0)
    by false e = (grows q x.low c e h.0, grows q c x.high e h.1)

-- rounding keeps the order
floor-mono : (k : ℕ) (y z : ℤ) → y ≤ℤ z → floor_shift y k ≤ℤ floor_shift z k
floor-mono k (pos a) (pos b) h = let l : a ≤ b = omega (arith, ints) in omega (arith, ints, shr_mono k l)
floor-mono k (pos a) (negsuc b) h = absurd h.le
floor-mono k (negsuc a) (pos b) h = omega (arith, ints)
floor-mono k (negsuc a) (negsuc b) h = let l : b ≤ a = omega (arith, ints) in omega (arith, ints, shr_mono k l)

pub in_shift : (r : SumRange) (k : ℕ) (z : ℤ) → InRange r z → InRange (range_shift r k) (floor_shift z k)
in_shift r k z h = (floor-mono k r.low z h.0, floor-mono k z r.high h.1)

-- a walk that goes on has passed its test
passed : {Q : Type 0} (t : Bool) (o : Option Q) (q : Q) → cond t o None ≡ Some q → (t ≡ true) × (o ≡ Some q)
passed true o q e = (refl, e)
passed false o q e = cc

-- the end of a walk of codes, and of ranges
last_sum : (test : ℤ → Bool) (a z : ℤ) → tested test a ≡ Some z → z ≡ a +ℤ pos 0
last_sum test a z e =
    let p = passed (test a) (Some a) z e in
    let s : a ≡ z = cc p.1 in
    sym s ∙ sym (+ℤ_idr a)

last-in : (w : ℕ) (r t : SumRange) (a : ℤ) → InRange r a → tested (range_fits w) r ≡ Some t
    → (z : ℤ) × (tested (fits_word w) a ≡ Some z) × InRange t z
last-in w r t a i e =
    let p = passed (range_fits w r) (Some r) t e in
    let s : r ≡ t = cc p.1 in
    (a, rw (in-fits w r a p.0 i), subst (λ (v : SumRange). InRange v a) s i)

-- a walk of codes that passes gives the sum of products
pub walk-sum : (test : ℤ → Bool) (a z : ℤ) (qs cs : List ℤ) → walked test ◌+ℤ◌ ◌*ℤ◌ a qs cs ≡ Some z → z ≡ a +ℤ dot qs cs
walk-sum test a z [] cs e = last_sum test a z e
walk-sum test a z (q ∷ qs) [] e = last_sum test a z e
walk-sum test a z (q ∷ qs) (c ∷ cs) e =
    let p = passed (test a) (walked test ◌+ℤ◌ ◌*ℤ◌ (a +ℤ q *ℤ c) qs cs) z e in
    walk-sum test (a +ℤ q *ℤ c) z qs cs p.1 ∙ +ℤ_assoc a (q *ℤ c) (dot qs cs)

-- where the walk of ranges passes, so does the walk of codes in them, and its sum is in the range of the sums
pub walk-in : (w : ℕ) (r t : SumRange) (a : ℤ) (qs : List ℤ) (xs : List WireRow) (cs : List ℤ) → InRange r a → Inside xs cs
    → walked (range_fits w) range_plus range_times r qs xs ≡ Some t
    → (z : ℤ) × (walked (fits_word w) ◌+ℤ◌ ◌*ℤ◌ a qs cs ≡ Some z) × InRange t z
walk-in w r t a [] xs cs i all e = last-in w r t a i e
walk-in w r t a (q ∷ qs) [] [] i all e = last-in w r t a i e
walk-in w r t a (q ∷ qs) [] (c ∷ cs) i all e = absurd all
walk-in w r t a (q ∷ qs) (x ∷ xs) [] i all e = absurd all
walk-in w r t a (q ∷ qs) (x ∷ xs) (c ∷ cs) i all e =
    let p = passed (range_fits w r) (walked (range_fits w) range_plus range_times (range_plus r (range_times q x)) qs xs) t e in
    let next = in-plus r (range_times q x) a (q *ℤ c) i (in-times q x c all.0) in
    let rest = walk-in w (range_plus r (range_times q x)) t (a +ℤ q *ℤ c) qs xs cs next all.1 p.1 in
    (rest.0, rw (in-fits w r a p.0 i) rest.1, rest.2)

-- there are codes in proper wires: the least ones
pub lows-inside : (w : ℕ) (xs : List WireRow) → AllProper w xs → Inside xs (map (λ x. x.low) xs)
lows-inside w [] p = tt
lows-inside w (x ∷ xs) p = ((≤ℤ_refl x.low, p.0.0), lows-inside w xs p.1)
