-- What each operation owes for the law of its kind.
use Rattle.std.specs.Prelude.{◌≡◌, ℕ, zero, suc, ◌*◌, ◌≤◌, Bool, true, List, [], ◌∷◌, map, length, ℤ, nat_eq}
use Rattle.std.proofs.Common.{ap, ◌∙◌, arith, mul-le-mul}
use Rattle.std.specs.Int.{int_max}
use Rattle.std.proofs.lemmas.List.{length-map}
use Rattle.std.proofs.lemmas.Bool.Decides.{nat_tests}
use Rattle.fixed.specs.Wire.{Proper}
use Rattle.fixed.specs.declared.row.WireRow.{WireRow}
use Rattle.stages.specs.Containment.{AllProper, InWire, Inside, Within, Held}
use Rattle.keeping.specs.Lists.{pooled, repeated}
use Rattle.keeping.specs.Signals.{rectified, larger_row, rectified_row}
use Rattle.keeping.specs.Keeping.{largest_within, largest_outputs, repeat_within}
use Rattle.keeping.specs.Counts.{length-pooled, outputs-sized, length-repeated}
use Rattle.keeping.specs.Along.{Along, IsStable, along-pooled, along-map, along-repeated}
use Rattle.keeping.specs.Along.Along.{none, more}
use Rattle.keeping.specs.Bounds.{larger-proper, larger-inside, larger-within, rectified-proper, rectified-inside, rectified-within}
use Rattle.keeping.specs.Kept.{Keeps}

-- wires in a word, codes inside wires, and exact values that are held: each holds place by place
abbrev IsProper : ℕ → WireRow → WireRow → WireRow → Type 0
IsProper w x y z = Proper w x

abbrev IsInside : WireRow → ℤ → ℤ → Type 0
IsInside x c d = InWire x c

abbrev IsHeld : ℕ → ℕ → WireRow → ℤ → ℤ → Type 0
IsHeld f d x c X = InWire x c × Within f d x.error c X

proper-in : (w : ℕ) (xs : List WireRow) → AllProper w xs → Along (IsProper w) xs xs xs
proper-in w [] h = none
proper-in w (x ∷ xs) h = more h.0 (proper-in w xs h.1)

proper-out : (w : ℕ) {xs ys zs : List WireRow} → Along (IsProper w) xs ys zs → AllProper w xs
proper-out w none = tt
proper-out w (more r t) = (r, proper-out w t)

inside-in : (xs : List WireRow) (cs : List ℤ) → Inside xs cs → Along IsInside xs cs cs
inside-in [] [] h = none
inside-in [] (c ∷ cs) h = absurd h
inside-in (x ∷ xs) [] h = absurd h
inside-in (x ∷ xs) (c ∷ cs) h = more h.0 (inside-in xs cs h.1)

inside-out : {xs : List WireRow} {cs ds : List ℤ} → Along IsInside xs cs ds → Inside xs cs
inside-out none = tt
inside-out (more r t) = (r, inside-out t)

held-in : (f d : ℕ) (xs : List WireRow) (cs Xs : List ℤ) → Held f d xs cs Xs → Along (IsHeld f d) xs cs Xs
held-in f d [] [] [] h = none
held-in f d [] [] (X ∷ Xs) h = absurd h
held-in f d [] (c ∷ cs) Xs h = absurd h
held-in f d (x ∷ xs) [] Xs h = absurd h
held-in f d (x ∷ xs) (c ∷ cs) [] h = absurd h
held-in f d (x ∷ xs) (c ∷ cs) (X ∷ Xs) h = more (h.0, h.1) (held-in f d xs cs Xs h.2)

held-out : (f d : ℕ) {xs : List WireRow} {cs Xs : List ℤ} → Along (IsHeld f d) xs cs Xs → Held f d xs cs Xs
held-out f d none = tt
held-out f d (more r t) = (r.0, r.1, held-out f d t)

-- each goes along with the larger of two signals, and with a signal without its negative part
proper-stable : (w : ℕ) → 1 ≤ w → IsStable (IsProper w) larger_row rectified_row larger_row rectified_row larger_row rectified_row
proper-stable w l = record { larger = λ a x b y c z. larger-proper w a x; rectified = λ x y z. rectified-proper w x l }

inside-stable : IsStable IsInside larger_row rectified_row int_max rectified int_max rectified
inside-stable = record { larger = λ a x b y c z. larger-inside a x b y; rectified = λ x y z. rectified-inside x y }

held-stable : (f d : ℕ) → IsStable (IsHeld f d) larger_row rectified_row int_max rectified int_max rectified
held-stable f d = record {
  larger = λ a x b y c z r s. (larger-inside a x b y r.0 s.0, larger-within f d a.error x.error b y c z r.1 s.1);
  rectified = λ x y z r. (rectified-inside x y r.0, rectified-within f d x.error y z r.1);
}

-- what an operation owes: of the larger of two elements and of an element without its negative part
record Owes (within : ℕ → ℕ → Bool) (count : ℕ → ℕ → ℕ) (outputs : (X : Type 0) → (X → X → X) → (X → X) → ℕ → List X → List X) : Type 1 where
  sized : (p n : ℕ) → within p n ≡ true → 1 ≤ n → n ≤ 64 → (1 ≤ count p n) × (count p n ≤ 64)
  many : (X : Type 0) (larger : X → X → X) (rectified : X → X) (p n : ℕ) (xs : List X) → within p n ≡ true → length xs ≡ n
      → length (outputs X larger rectified p xs) ≡ count p n
  along : {A B C : Type 0} {R : A → B → C → Type 0} {f : A → A → A} {f' : A → A} {g : B → B → B} {g' : B → B} {h : C → C → C} {h' : C → C}
      → IsStable R f f' g g' h h' → (p : ℕ) {xs : List A} {ys : List B} {zs : List C} → Along R xs ys zs
      → Along R (outputs A f f' p xs) (outputs B g g' p ys) (outputs C h h' p zs)

keeps : {within : ℕ → ℕ → Bool} {count : ℕ → ℕ → ℕ} {outputs : (X : Type 0) → (X → X → X) → (X → X) → ℕ → List X → List X}
    → Owes within count outputs → Keeps within count (outputs WireRow larger_row rectified_row) (outputs ℤ int_max rectified)
keeps o = record {
  sized = o.sized;
  many_wires = o.many WireRow larger_row rectified_row;
  many_codes = o.many ℤ int_max rectified;
  proper = λ w p xs l h. proper-out w (o.along (proper-stable w l) p (proper-in w xs h));
  inside = λ p xs cs h. inside-out (o.along inside-stable p (inside-in xs cs h));
  held = λ f d p xs cs Xs h. held-out f d (o.along (held-stable f d) p (held-in f d xs cs Xs h));
}

pub largest-fits : (p : ℕ) → largest_within p ≡ true → (2 ≤ p) × (p ≤ 64)
largest-fits p e = (grind (arith, nat_tests), grind (arith, nat_tests))

pub keeps-largest : Keeps (λ p n. largest_within p) largest_outputs (pooled larger_row) (pooled int_max)
keeps-largest = keeps {outputs = λ X larger rectified. pooled larger} (record {
  sized = λ p n w h k.
      let o = outputs-sized p n (omega (arith, (largest-fits p w).0)) h in
      (o.0, omega (arith, o.1));
  many = λ X larger rectified p n xs w e. length-pooled larger p xs (omega (arith, (largest-fits p w).0)) ∙ ap (largest_outputs p) e;
  along = λ stable p t. along-pooled stable p t;
})

pub keeps-rectifier : Keeps (λ p n. nat_eq p 0) (λ p n. n) (λ p. map rectified_row) (λ p. map rectified)
keeps-rectifier = keeps {outputs = λ X larger rectified p. map rectified} (record {
  sized = λ p n w h k. (h, k);
  many = λ X larger rectified p n xs w e. length-map xs rectified ∙ e;
  along = λ stable p t. along-map stable t;
})

pub repeat-fits : (s n : ℕ) → repeat_within s n ≡ true → (2 ≤ s) × (s ≤ 8) × (n * s ≤ 64)
repeat-fits s n e = (grind (arith, nat_tests), grind (arith, nat_tests), grind (arith, nat_tests))

pub keeps-repeat : Keeps repeat_within (λ s n. n * s) repeated repeated
keeps-repeat = keeps {outputs = λ X larger rectified. repeated} (record {
  sized = λ s n w h k.
      let t = repeat-fits s n w in
      let l : 1 ≤ s = omega (arith, t.0) in
      (omega (arith, mul-le-mul h l), t.2);
  many = λ X larger rectified s n xs w e. length-repeated s xs ∙ ap (λ m. m * s) e;
  along = λ stable s t. along-repeated stable s t;
})

-- wires stay proper in a word of any width: in one of no bits there are none
pub proper-pooled : (w p : ℕ) (xs : List WireRow) → AllProper w xs → AllProper w (pooled larger_row p xs)
unfolding pooled
proper-pooled zero p [] h = tt
proper-pooled zero p (x ∷ xs) h = let z : ◌≡◌ {A = ℕ} 0 1 = cc in absurd (omega arith)
proper-pooled (suc w) p xs h = keeps-largest.proper (suc w) p xs (omega arith) h

pub proper-repeated : (w s : ℕ) (xs : List WireRow) → AllProper w xs → AllProper w (repeated s xs)
proper-repeated zero s [] h = tt
proper-repeated zero s (x ∷ xs) h = let z : ◌≡◌ {A = ℕ} 0 1 = cc in absurd (omega arith)
proper-repeated (suc w) s xs h = keeps-repeat.proper (suc w) s xs (omega arith) h
