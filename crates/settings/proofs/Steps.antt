-- One turn of a loop, for the definitions that loops work out.
use Rattle.std.proofs.Common.{◌≡◌, ℕ, zero, suc, ◌+◌, ◌<◌, ◌≤◌, Bool, true, false, cond, Some, None, Option, refl, sym, ap, ◌∙◌, subst, ⊎_elim, arith}
use Rattle.std.specs.Option.{MatchOption}
use Rattle.std.proofs.lemmas.Bool.{cases_eq}
use Rattle.settings.specs.Firsts.{first_failing}

-- no failure: the test passes everywhere
pub first-none : (test : ℕ → Bool) (i n : ℕ) → first_failing test i n ≡ None → (j : ℕ) → i ≤ j → j < i + n → test j ≡ true
first-none test i zero e j h k = absurd (omega arith)
first-none test i (suc n) e j h k = by (test i) refl e (λ q. first-none test (i + 1) n q j)
  where
    by : (t : Bool) → test i ≡ t → cond t (first_failing test (i + 1) n) (Some i) ≡ None
        → (first_failing test (i + 1) n ≡ None → i + 1 ≤ j → j < i + 1 + n → test j ≡ true) → test j ≡ true
    by true p q rest =
        ⊎_elim (λ (same : j ≡ i). ap test same ∙ p) (λ (more : j ≡ i → ⊥). rest q (omega arith) (omega arith)) (cases_eq j i)
    by false p q rest = let z : ◌≡◌ {A = ℕ} 0 1 = cc in absurd (omega arith)

-- and back
pub none-fails : (test : ℕ → Bool) (i n : ℕ) → ((j : ℕ) → i ≤ j → j < i + n → test j ≡ true) → first_failing test i n ≡ None
none-fails test i zero h = refl
none-fails test i (suc n) h =
    ap (λ t. cond t (first_failing test (i + 1) n) (Some i)) (h i (omega arith) (omega arith))
    ∙ none-fails test (i + 1) n (λ j a b. h j (omega arith) (omega arith))

-- a failure at k, the first from i on
abbrev pub FirstAt : (ℕ → Bool) → ℕ → ℕ → ℕ → Type 0
FirstAt test i n k = (i ≤ k) × (k < i + n) × (test k ≡ false) × ((j : ℕ) → i ≤ j → j < k → test j ≡ true)

pub first_some : (test : ℕ → Bool) (i n k : ℕ) → first_failing test i n ≡ Some k → FirstAt test i n k
first_some test i zero k e = let z : ◌≡◌ {A = ℕ} 0 1 = cc in absurd (omega arith)
first_some test i (suc n) k e = by (test i) refl e (first_some test (i + 1) n k)
  where
    by : (t : Bool) → test i ≡ t → cond t (first_failing test (i + 1) n) (Some i) ≡ Some k
        → (first_failing test (i + 1) n ≡ Some k → FirstAt test (i + 1) n k) → FirstAt test i (suc n) k
    by true p q rest =
        let r = rest q in
        let before : (j : ℕ) → i ≤ j → j < k → test j ≡ true =
        λ j h l. ⊎_elim (λ (same : j ≡ i). ap test same ∙ p) (λ (more : j ≡ i → ⊥). r.3 j (omega arith) l) (cases_eq j i) in
        (omega (arith, r.0), omega (arith, r.1), r.2, before)
    by false p q rest =
        let s : i ≡ k = cc in
        (omega arith, omega arith, subst (λ j. test j ≡ false) s p, λ j h l. absurd (omega arith))

-- and back
pub fails-at : (test : ℕ → Bool) (i n k : ℕ) → FirstAt test i n k → first_failing test i n ≡ Some k
fails-at test i zero k f = absurd (omega (arith, f.0, f.1))
fails-at test i (suc n) k f =
    ⊎_elim
    (λ (same : k ≡ i). ap (λ t. cond t (first_failing test (i + 1) n) (Some i)) (subst (λ j. test j ≡ false) same f.2) ∙ ap Some (sym same))
    (λ (more : k ≡ i → ⊥).
    ap (λ t. cond t (first_failing test (i + 1) n) (Some i)) (f.3 i (omega arith) (omega (arith, f.0)))
    ∙ fails-at test (i + 1) n k (omega (arith, f.0), omega (arith, f.1), f.2, λ j h l. f.3 j (omega arith) l))
    (cases_eq k i)

-- what a search from 0 on tells of each place
pub found-first : (test : ℕ → Bool) (n : ℕ) (r : Option ℕ)
    → MatchOption r ((k : ℕ) → 0 ≤ k → k < n → test k ≡ true) (λ i. (0 ≤ i) × (i < n) × (test i ≡ false) × ((k : ℕ) → 0 ≤ k → k < i → test k ≡ true))
    → r ≡ first_failing test 0 n
found-first test n None h = sym (none-fails test 0 n (λ k a b. h k a (omega arith)))
found-first test n (Some i) h = sym (fails-at test 0 n i (h.0, omega (arith, h.1), h.2, h.3))
