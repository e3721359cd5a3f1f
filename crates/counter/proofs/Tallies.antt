-- The count against the weight of stretches, for any list of frames of which some are picked.
use Rattle.std.proofs.Common.{◌≡◌, ℕ, suc, ◌+◌, ◌*◌, ◌<◌, ◌≤◌, Bool, true, false, cond, not, ◌||◌, eqb, List, [], ◌∷◌, ◌++◌, refl, ap, subst, ⊎_elim, arith}
use mathlib.Core.List.{cons≢nil}
use Rattle.std.proofs.lemmas.Bool.{eqb-true, eqb-false, or_parts, or_cases, or_left, cases_Bool, cases_lt}
use Rattle.settings.specs.declared.fields.Fields.{Fields}
use Rattle.counter.specs.Counter.{counted}
use Rattle.counter.specs.Stretch.{Stretch, how_many, how_many_not, Weighs}

-- the count and the trip after frames, the newest first, each picked or not as R says
pub data Tally {A : Type 0} (f : Fields) (R : A → Bool → Type 0) : List A → ℕ → Bool → Type 0 where
  start : Tally f R [] 0 false
  more : {x : A} {xs : List A} {n : ℕ} {t : Bool} (p : Bool) → R x p → Tally f R xs n t
      → Tally f R (x ∷ xs) (counted f p n) (t || eqb (counted f p n) f.delay)

-- every frame that passes the test is picked; every picked one passes it
abbrev pub Passing : {A : Type 0} → (A → Bool) → A → Bool → Type 0
Passing test x p = test x ≡ true → p ≡ true

abbrev pub Passed : {A : Type 0} → (A → Bool) → A → Bool → Type 0
Passed test x p = p ≡ true → test x ≡ true

-- the count never passes the delay
at_most : (f : Fields) (p : Bool) (n : ℕ) → n ≤ f.delay → counted f p n ≤ f.delay
at_most f true n h = omega arith
at_most f false n h = omega arith

count_most : {A : Type 0} {f : Fields} {R : A → Bool → Type 0} {xs : List A} {n : ℕ} {t : Bool} → Tally f R xs n t → n ≤ f.delay
count_most start = omega arith
count_most {f = f} (more {n = n} p r c) = at_most f p n (count_most c)

-- while there is no trip, it is below it
below : {A : Type 0} {f : Fields} {R : A → Bool → Type 0} {xs : List A} {n : ℕ} {t : Bool} → 1 ≤ f.delay → Tally f R xs n t → t ≡ false → n < f.delay
below one start e = one
below {f = f} one (more {n = n} {t = t} p r c) e =
    let apart = eqb-false (counted f p n) f.delay (or_parts t (eqb (counted f p n) f.delay) e).1 in
    let most = at_most f p n (count_most c) in
    omega arith

-- one frame more: the count keeps up with the weight
keeps-up : (f : Fields) (p s : Bool) (n passes others : ℕ) → (s ≡ true → p ≡ true) → (counted f p n ≡ f.delay → ⊥) → f.rise * passes ≤ n + f.fall * others
    → f.rise * cond s (suc passes) passes ≤ counted f p n + f.fall * cond (not s) (suc others) others
keeps-up f true true n passes others i a h = omega arith
keeps-up f true false n passes others i a h = omega arith
keeps-up f false true n passes others i a h = let z : false ≡ true = i refl in let y : ◌≡◌ {A = ℕ} 0 1 = cc in absurd (omega arith)
keeps-up f false false n passes others i a h = omega arith

-- while there is no trip, the count is at least the weight of every stretch that ends now
outweighs : {A : Type 0} {f : Fields} (test : A → Bool) {xs : List A} {n : ℕ} {t : Bool} → Tally f (Passing test) xs n t → t ≡ false
    → (run earlier : List A) → run ++ earlier ≡ xs → f.rise * how_many test run ≤ n + f.fall * how_many_not test run
outweighs test start e [] earlier w = omega arith
outweighs test start e (y ∷ run) earlier w = absurd (cons≢nil w)
outweighs test (more p r c) e [] earlier w = omega arith
outweighs {f = f} test (more {x = x} {xs = xs} {n = n} {t = t} p r c) e (y ∷ run) earlier w =
    let off = or_parts t (eqb (counted f p n) f.delay) e in
    let same : x ≡ y = cc in
    let rest : run ++ earlier ≡ xs = cc in
    keeps-up f p (test y) n (how_many test run) (how_many_not test run) (subst (λ z. test z ≡ true → p ≡ true) same r)
    (eqb-false (counted f p n) f.delay off.1) (outweighs test c off.0 run earlier rest)

-- a stretch that weighs the delay has tripped
pub must : {A : Type 0} {f : Fields} (test : A → Bool) → 1 ≤ f.delay → (later run earlier : List A) {xs : List A} {n : ℕ} {t : Bool}
    → Tally f (Passing test) xs n t → later ++ (run ++ earlier) ≡ xs → Weighs f f.delay test run → t ≡ true
must {f = f} test one [] run earlier {t = t} c w heavy = ⊎_elim (λ e. e) off (cases_Bool t)
  where
    off : t ≡ false → t ≡ true
    off e = let l = below one c e in let h = outweighs test c e run earlier w in absurd (omega arith)
must test one (y ∷ later) run earlier start w heavy = absurd (cons≢nil w)
must {f = f} test one (y ∷ later) run earlier (more {xs = xs} {n = n} {t = t} p r c) w heavy =
    let rest : later ++ (run ++ earlier) ≡ xs = cc in
    or_left t (eqb (counted f p n) f.delay) (must test one later run earlier c rest heavy)

-- a stretch that ends now and weighs at least n
record Ending {A : Type 0} (f : Fields) (test : A → Bool) (xs : List A) (n : ℕ) : Type 0 where
  run : List A
  earlier : List A
  whole : run ++ earlier ≡ xs
  weighs : Weighs f n test run

-- one frame more: some stretch keeps up with the count
grows : (f : Fields) (s : Bool) (n passes others : ℕ) → s ≡ true → n + f.fall * others ≤ f.rise * passes
    → counted f true n + f.fall * cond (not s) (suc others) others ≤ f.rise * cond s (suc passes) passes
grows f true n passes others e h = omega arith
grows f false n passes others e h = let y : ◌≡◌ {A = ℕ} 0 1 = cc in absurd (omega arith)

falls : (f : Fields) (s : Bool) (n passes others : ℕ) → f.fall ≤ n → n + f.fall * others ≤ f.rise * passes
    → counted f false n + f.fall * cond (not s) (suc others) others ≤ f.rise * cond s (suc passes) passes
falls f true n passes others l h = omega arith
falls f false n passes others l h = omega arith

longer : {A : Type 0} (f : Fields) (test : A → Bool) (x : A) (xs : List A) (n p : ℕ) → (o : Ending f test xs n)
    → p + f.fall * cond (not (test x)) (suc (how_many_not test o.run)) (how_many_not test o.run) ≤ f.rise * cond (test x) (suc (how_many test o.run)) (how_many test o.run)
    → Ending f test (x ∷ xs) p
longer f test x xs n p o h = record { run = x ∷ o.run; earlier = o.earlier; whole = ap (λ ys. x ∷ ys) o.whole; weighs = h }

-- the count is at most the weight of some stretch that ends now: the one since it last fell to 0
reaches : {A : Type 0} {f : Fields} (test : A → Bool) {xs : List A} {n : ℕ} {t : Bool} → Tally f (Passed test) xs n t → Ending f test xs n
reaches test start = record { run = []; earlier = []; whole = refl; weighs = omega arith }
reaches {f = f} test (more {x = x} {xs = xs} {n = n} p r c) = by p r (reaches test c)
  where
    by : (p : Bool) → Passed test x p → Ending f test xs n → Ending f test (x ∷ xs) (counted f p n)
    by true i o = longer f test x xs n (counted f true n) o (grows f (test x) n (how_many test o.run) (how_many_not test o.run) (i refl) o.weighs)
    by false i o =
        ⊎_elim
        (λ (less : n < f.fall). record { run = []; earlier = x ∷ xs; whole = refl; weighs = omega arith })
        (λ (enough : f.fall ≤ n). longer f test x xs n (counted f false n) o (falls f (test x) n (how_many test o.run) (how_many_not test o.run) enough o.weighs))
        (cases_lt n f.fall)

-- a trip had a stretch that weighed the delay
pub may : {A : Type 0} {f : Fields} (test : A → Bool) {xs : List A} {n : ℕ} {t : Bool} → Tally f (Passed test) xs n t → t ≡ true
    → (s : Stretch xs) × Weighs f f.delay test s.run
may test start e = let z : ◌≡◌ {A = ℕ} 0 1 = cc in absurd (omega arith)
may {f = f} test (more {x = x} {xs = xs} {n = n} {t = t} p r c) e =
    ⊎_elim
    (λ (was : t ≡ true).
    let o = may test c was in
    (record { later = x ∷ o.0.later; run = o.0.run; earlier = o.0.earlier; whole = ap (λ ys. x ∷ ys) o.0.whole }, o.1))
    (λ (now : eqb (counted f p n) f.delay ≡ true).
    let full = eqb-true (counted f p n) f.delay now in
    let o = reaches test (more p r c) in
    (record { later = []; run = o.run; earlier = o.earlier; whole = o.whole }, omega (arith, full, o.weighs)))
    (or_cases t (eqb (counted f p n) f.delay) e)
