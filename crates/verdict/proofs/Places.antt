-- The first code outside its input's range, as rows and codes are gone over together.
use Rattle.std.proofs.Common.{◌≡◌, ℕ, suc, ◌+◌, ◌<◌, Bool, true, false, not, cond, eqb, List, [], ◌∷◌, length, get_or, ℤ, pos, zip, Some, None, Result, refl, ap, sym, ◌∙◌, arith}
use Rattle.std.specs.List.{position, position_from}
use Rattle.std.proofs.lemmas.Bool.{eqb-true, eq-eqb, cond-true}
use Rattle.std.proofs.lemmas.Iterator.Adapters.{position_from-zero}
use Rattle.fixed.specs.Wire.{no_row}
use Rattle.fixed.specs.declared.row.WireRow.{WireRow}
use Rattle.settings.specs.declared.refusal.Refusal.{Refusal}
use Rattle.settings.specs.declared.refusal.Refusal.TheVariants.{CodeCount}
use Rattle.settings.specs.Firsts.{first_failing}
use Rattle.verdict.specs.Output.{in_row, first_outside, range_fault, frame_fault, unless_fault}

pub length-zipped : (xs : List WireRow) (cs : List ℤ) → length cs ≡ length xs → length (zip xs cs) ≡ length xs
length-zipped [] cs n = refl
length-zipped (x ∷ xs) [] n = absurd (omega arith)
length-zipped (x ∷ xs) (c ∷ cs) n = ap suc (length-zipped xs cs (omega arith))

first-zipped : (test : ℕ → Bool) (i : ℕ) (xs : List WireRow) (cs : List ℤ) → length cs ≡ length xs
    → ((j k : ℕ) → j ≡ i + k → k < length cs → test j ≡ in_row (get_or xs k no_row) (get_or cs k (pos 0)))
    → position_from (λ p. not (in_row p.0 p.1)) i (zip xs cs) ≡ first_failing test i (length cs)
first-zipped test i [] [] n h = refl
first-zipped test i [] (c ∷ cs) n h = absurd (omega arith)
first-zipped test i (x ∷ xs) [] n h = absurd (omega arith)
first-zipped test i (x ∷ xs) (c ∷ cs) n h =
    by (test i) (in_row x c) (h i 0 (omega arith) (omega arith))
    (first-zipped test (i + 1) xs cs (omega arith) (λ j k e l. h j (suc k) (omega arith) (omega arith)))
  where
    by : (s t : Bool) → s ≡ t
        → position_from (λ p. not (in_row p.0 p.1)) (i + 1) (zip xs cs) ≡ first_failing test (i + 1) (length cs)
        → cond (not t) (Some i) (position_from (λ p. not (in_row p.0 p.1)) (i + 1) (zip xs cs)) ≡ cond s (first_failing test (i + 1) (length cs)) (Some i)
    by true true e rest = rest
    by false false e rest = refl
    by true false e rest = let z : ◌≡◌ {A = ℕ} 0 1 = cc in absurd (omega arith)
    by false true e rest = let z : ◌≡◌ {A = ℕ} 0 1 = cc in absurd (omega arith)

-- with as many codes as inputs, only a code out of range is at fault
pub fault-at : {A : Type 0} (xs : List WireRow) (cs : List ℤ) (r : Result A Refusal) → length cs ≡ length xs
    → unless_fault (range_fault (position (λ p. not (in_row p.0 p.1)) (zip xs cs))) r ≡ unless_fault (frame_fault xs cs) r
fault-at xs cs r n =
    let test : ℕ → Bool = λ i. in_row (get_or xs i no_row) (get_or cs i (pos 0)) in
    let same : (j k : ℕ) → j ≡ 0 + k → test j ≡ test k = λ j k e. ap test (omega arith) in
    let first = position_from-zero (λ (p : WireRow × ℤ). not (in_row p.0 p.1)) (zip xs cs) ∙ first-zipped test 0 xs cs n (λ j k e l. same j k e) in
    ap (λ o. unless_fault (range_fault o) r) first
    ∙ sym (ap (λ o. unless_fault o r) (cond-true (eqb (length cs) (length xs)) (range_fault (first_outside xs cs)) (Some CodeCount) (eq-eqb _ _ n)))

-- with no fault there are as many codes as inputs
pub no-fault-count : (xs : List WireRow) (cs : List ℤ) → frame_fault xs cs ≡ None → length cs ≡ length xs
no-fault-count xs cs f = by (eqb (length cs) (length xs)) refl f
  where
    by : (t : Bool) → eqb (length cs) (length xs) ≡ t → cond t (range_fault (first_outside xs cs)) (Some CodeCount) ≡ None → length cs ≡ length xs
    by true p q = eqb-true (length cs) (length xs) p
    by false p q = let z : ◌≡◌ {A = ℕ} 0 1 = cc in absurd (omega arith)
