-- Codes inside the input ranges, and their true inputs.
use Rattle.std.proofs.Common.{◌≡◌, ℕ, zero, suc, ◌+◌, ◌<◌, ◌≤◌, Bool, true, eqb, List, [], ◌∷◌, map, length, get_or, ℤ, pos, ◌-ℤ◌, nat_abs, Some, None, Option, sym, refl, ap, ◌∙◌, arith}
use lib.Signed.{le_z}
use borrow.Author.Differences.{ints, le-true, le_out, at_most_in, true_is_le}
use Rattle.std.proofs.lemmas.Bool.{and_parts, and_from, eq-eqb, cond-true}
use Rattle.fixed.specs.Format.{grains_of}
use Rattle.fixed.specs.Wire.{no_row}
use Rattle.fixed.specs.declared.row.WireRow.{WireRow}
use Rattle.stages.specs.Containment.{InWire, Inside, Held}
use Rattle.settings.specs.declared.refusal.Refusal.TheVariants.{CodeCount}
use Rattle.settings.specs.Firsts.{first_failing}
use Rattle.settings.proofs.Steps.{first-none}
use Rattle.verdict.specs.Output.{in_row, first_outside, range_fault, frame_fault}
use Rattle.verdict.proofs.Places.{no-fault-count}
use Rattle.relay.specs.Truth.{Near}

in-wire : (x : WireRow) (c : ℤ) → in_row x c ≡ true → InWire x c
in-wire x c e =
    let p = and_parts (le_z x.low c) (le_z c x.high) e in
    (at_most_in x.low c (le-true x.low c p.0), at_most_in c x.high (le-true c x.high p.1))

in-row : (x : WireRow) (c : ℤ) → InWire x c → in_row x c ≡ true
in-row x c h =
    and_from _ _ (sym (true_is_le x.low c (le_out x.low c h.0))) (sym (true_is_le c x.high (le_out c x.high h.1)))

-- in range, place by place
abbrev Points : List WireRow → List ℤ → Type 0
Points xs cs = (j : ℕ) → j < length cs → in_row (get_or xs j no_row) (get_or cs j (pos 0)) ≡ true

points-inside : (xs : List WireRow) (cs : List ℤ) → length cs ≡ length xs → Points xs cs → Inside xs cs
points-inside [] [] n h = tt
points-inside [] (c ∷ cs) n h = absurd (omega arith)
points-inside (x ∷ xs) [] n h = absurd (omega arith)
points-inside (x ∷ xs) (c ∷ cs) n h = (in-wire x c (h 0 (omega arith)), points-inside xs cs (omega arith) (λ j l. h (suc j) (omega arith)))

inside-points : (xs : List WireRow) (cs : List ℤ) → Inside xs cs → (length cs ≡ length xs) × Points xs cs
inside-points [] [] i = (refl, λ j l. absurd (omega arith))
inside-points [] (c ∷ cs) i = absurd i
inside-points (x ∷ xs) [] i = absurd i
inside-points (x ∷ xs) (c ∷ cs) i = let r = inside-points xs cs i.1 in (omega (arith, r.0), at r.1)
  where
    at : Points xs cs → Points (x ∷ xs) (c ∷ cs)
    at rest zero l = in-row x c i.0
    at rest (suc j) l = rest j (omega arith)

none-fails : (test : ℕ → Bool) (i n : ℕ) → ((j : ℕ) → i ≤ j → j < i + n → test j ≡ true) → first_failing test i n ≡ None
none-fails test i zero h = refl
none-fails test i (suc n) h =
    cond-true (test i) _ _ (h i (omega arith) (omega arith)) ∙ none-fails test (i + 1) n (λ j l k. h j (omega arith) (omega arith))

-- a frame has no fault exactly where its codes are inside
pub no-fault-inside : (xs : List WireRow) (cs : List ℤ) → frame_fault xs cs ≡ None → Inside xs cs
no-fault-inside xs cs e =
    let n = no-fault-count xs cs e in
    let r : range_fault (first_outside xs cs) ≡ None = sym (cond-true (eqb (length cs) (length xs)) _ (Some CodeCount) (eq-eqb _ _ n)) ∙ e in
    points-inside xs cs n (λ j l. first-none (λ i. in_row (get_or xs i no_row) (get_or cs i (pos 0))) 0 (length cs) (by (first_outside xs cs) r) j (omega arith) (omega arith))
  where
    by : (o : Option ℕ) → range_fault o ≡ None → o ≡ None
    by None q = refl
    by (Some i) q = let z : ◌≡◌ {A = ℕ} 0 1 = cc in absurd (omega arith)

pub inside-no-fault : (xs : List WireRow) (cs : List ℤ) → Inside xs cs → frame_fault xs cs ≡ None
inside-no-fault xs cs i =
    let p = inside-points xs cs i in
    cond-true (eqb (length cs) (length xs)) _ _ (eq-eqb _ _ p.0)
    ∙ ap range_fault (none-fails (λ j. in_row (get_or xs j no_row) (get_or cs j (pos 0))) 0 (length cs) (λ j l k. p.1 j (omega arith)))

-- codes inside and true values near them are held
pub near-held : (f : ℕ) (xs : List WireRow) (cs Xs : List ℤ) → Inside xs cs → Near f xs cs Xs → Held f 0 xs cs Xs
near-held f [] [] [] i n = tt
near-held f [] [] (X ∷ Xs) i n = n
near-held f [] (c ∷ cs) Xs i n = n
near-held f (x ∷ xs) [] Xs i n = n
near-held f (x ∷ xs) (c ∷ cs) [] i n = n
near-held f (x ∷ xs) (c ∷ cs) (X ∷ Xs) i n = (i.0, n.0, near-held f xs cs Xs i.1 n.1)

self-near : (z : ℤ) (n : ℕ) → nat_abs (z -ℤ z) ≤ n
self-near z n = omega (arith, ints)

-- what codes stand for is near them
pub own-near : (f : ℕ) (xs : List WireRow) (cs : List ℤ) → Inside xs cs → Near f xs cs (map (grains_of f) cs)
own-near f [] [] i = tt
own-near f [] (c ∷ cs) i = i
own-near f (x ∷ xs) [] i = i
own-near f (x ∷ xs) (c ∷ cs) i = (self-near (grains_of f c) _, own-near f xs cs i.1)
