-- What `{:08}` writes of a number below 10^8: its eight digits.
use Rattle.std.proofs.Common.{◌≡◌, ℕ, ◌+◌, ◌-◌, ◌/◌, ◌%◌, ◌^◌, ◌<◌, ◌≤◌, false, List, [], ◌∷◌, ◌++◌, length, replicate, sym, ap, ◌∙◌, ⊎_elim, arith, rules, append_assoc, append-nil}
use Rattle.std.proofs.lemmas.Bool.{cases_lt}
use Rattle.std.proofs.lemmas.List.{replicate-append-replicate, length-append}
use Rattle.std.proofs.lemmas.Fmt.{decimal_digit, decimal_step}
use Rattle.std.specs.Fmt.{decimal, padded_integral, styled_decimal, format_spec, char_count}
use Rattle.inspect.specs.Decimals.{places}

-- the text, with zeros in front of it up to the width
abbrev pub zeros_before : ℕ → List ℕ → List ℕ
zeros_before width text = replicate (width - length text) 48 ++ text

padded_eight : (text : List ℕ) → padded_integral (format_spec 32 0 4 8 (2 ^ 64 - 1)) false [] text ≡ zeros_before 8 text
unfolding padded_integral char_count
padded_eight text = search (rules, append-nil)

zeros_push : (k : ℕ) → 0 < k → replicate {A = ℕ} k 48 ≡ replicate (k - 1) 48 ++ (48 ∷ [])
zeros_push k more =
    let one : k - 1 + 1 ≡ k = omega arith in
    sym (replicate-append-replicate (k - 1) 1 48 ∙ ap (λ j. replicate j 48) one)

small_step : (k n : ℕ) → 0 < k → n < 10 → zeros_before (k + 1) (decimal n) ≡ zeros_before k (decimal (n / 10)) ++ decimal (n % 10)
small_step k n more small =
    let none : n / 10 ≡ 0 = omega arith in
    let same : n % 10 ≡ n = omega arith in
    let all : k + 1 - 1 ≡ k = omega arith in
    rw (none, same, decimal_digit n small, decimal_digit 0 (omega arith), all) (ap (λ text. text ++ ((48 + n) ∷ [])) (zeros_push k more))

large_step : (k n : ℕ) → 10 ≤ n → n < 2 ^ 64 → zeros_before (k + 1) (decimal n) ≡ zeros_before k (decimal (n / 10)) ++ decimal (n % 10)
large_step k n large fits =
    let front = decimal (n / 10) in
    let last : decimal (n % 10) ≡ (48 + n % 10) ∷ [] = decimal_digit (n % 10) (omega arith) in
    let width : k + 1 - length (front ++ ((48 + n % 10) ∷ [])) ≡ k - length front = omega (arith, length-append front ((48 + n % 10) ∷ [])) in
    rw (decimal_step n large fits, last, width) (sym (append_assoc (replicate (k - length front) 48) front ((48 + n % 10) ∷ [])))

-- the last digit, and what is before it
last_digit : (k n : ℕ) → 0 < k → n < 2 ^ 64 → zeros_before (k + 1) (decimal n) ≡ zeros_before k (decimal (n / 10)) ++ decimal (n % 10)
last_digit k n more fits = ⊎_elim (small_step k n more) (λ large. large_step k n large fits) (cases_lt n 10)

one_digit : (n : ℕ) → n < 10 → zeros_before 1 (decimal n) ≡ decimal n
one_digit n small = rw (decimal_digit n small) (search rules)

pub eight_places : (q : ℕ) → styled_decimal (format_spec 32 0 4 8 (2 ^ 64 - 1)) (q % 100000000) ≡ places q
eight_places q =
    let m = q % 100000000 in
    let a : m / 10 / 10 / 10 / 10 / 10 / 10 / 10 ≡ q / 10000000 % 10 = omega arith in
    let b : m / 10 / 10 / 10 / 10 / 10 / 10 % 10 ≡ q / 1000000 % 10 = omega arith in
    let c : m / 10 / 10 / 10 / 10 / 10 % 10 ≡ q / 100000 % 10 = omega arith in
    let d : m / 10 / 10 / 10 / 10 % 10 ≡ q / 10000 % 10 = omega arith in
    let e : m / 10 / 10 / 10 % 10 ≡ q / 1000 % 10 = omega arith in
    let f : m / 10 / 10 % 10 ≡ q / 100 % 10 = omega arith in
    let g : m / 10 % 10 ≡ q / 10 % 10 = omega arith in
    let h : m % 10 ≡ q % 10 = omega arith in
    rw (
      padded_eight (decimal m),
      last_digit 7 m (omega arith) (omega arith),
      last_digit 6 (m / 10) (omega arith) (omega arith),
      last_digit 5 (m / 10 / 10) (omega arith) (omega arith),
      last_digit 4 (m / 10 / 10 / 10) (omega arith) (omega arith),
      last_digit 3 (m / 10 / 10 / 10 / 10) (omega arith) (omega arith),
      last_digit 2 (m / 10 / 10 / 10 / 10 / 10) (omega arith) (omega arith),
      last_digit 1 (m / 10 / 10 / 10 / 10 / 10 / 10) (omega arith) (omega arith),
      one_digit (m / 10 / 10 / 10 / 10 / 10 / 10 / 10) (omega arith),
      a,
      b,
      c,
      d,
      e,
      f,
      g,
      h,
    )
    (simp append_assoc)
