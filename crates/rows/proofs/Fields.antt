-- The laws of full and taps in the words of their field.
use Rattle.std.proofs.Common.{◌≡◌, ℕ, zero, suc, ◌+◌, ◌-◌, ◌*◌, ◌^◌, ◌<◌, cond, ◌&&◌, eqb, leb, List, [], ◌∷◌, map, length, get_or, take, drop, ℤ, pos, ◌+ℤ◌, ◌*ℤ◌, Some, Ok, Err, Result, sym, refl, ap, ◌∙◌, subst, ap₂, arith}
use Rattle.std.specs.List.{range_with_len}
use Rattle.std.proofs.lemmas.List.{take_all, drop_more}
use Rattle.std.proofs.lemmas.Option.{cond_some}
use Rattle.fixed.specs.Steps.{and_then}
use Rattle.stages.specs.Kind.{exactly}
use Rattle.stages.specs.declared.shape.KindRefusal.TheVariants.{Format, Length}
use Rattle.fixed.specs.declared.row.WireRow.{WireRow}
use Rattle.rows.specs.declared.layout.Layout.{Layout}
use Rattle.rows.specs.declared.scales.Scales.{Scales}
use Rattle.rows.specs.Row.{dot, row_exact, row_wire, row_code}
use Rattle.rows.specs.Layout.{number_at, row_at, outputs_from, wires_by, codes_by, exact_by}
use Rattle.rows.specs.Scales.{scales_fit}
use Rattle.rows.specs.Plan.{scales_in, wires_in, codes_in, after_in, exact_in}
use Rattle.rows.specs.Laws.{sum_from, FullIsProduct, TapsIsWindow, TapsIsFull}

-- the sum of products, by places
dot-by-places : (f : ℕ → ℤ) (Xs : List ℤ) (i n : ℕ) → length Xs ≡ i + n
    → dot (map f (range_with_len i n)) (drop i Xs) ≡ sum_from (λ j. f j *ℤ get_or Xs j (pos 0)) i n
dot-by-places f Xs i zero h = refl
dot-by-places f Xs i (suc n) h =
    let lt : i < length Xs = omega arith in
    ap (dot (map f (range_with_len i (suc n)))) (drop_more Xs i (pos 0) lt)
    ∙ ap (λ z. f i *ℤ get_or Xs i (pos 0) +ℤ z) (dot-by-places f Xs (i + 1) n (omega arith))

-- two functions that agree give the same list
same_map : {X Y : Type 0} (f g : X → Y) (xs : List X) → ((x : X) → f x ≡ g x) → map f xs ≡ map g xs
same_map f g [] h = refl
same_map f g (x ∷ xs) h = ap₂ ◌∷◌ (h x) (same_map f g xs h)

pub full-is-product : FullIsProduct
full-is-product k n d l bytes Xs e many =
    subst (λ (m : Layout). exact_by m bytes d Xs ≡ map (λ o. sum_from (λ j. number_at bytes (o * n + j) *ℤ get_or Xs j (pos 0)) 0 n +ℤ number_at bytes (k * n + o) *ℤ pos (2 ^ (24 * (d + 1)))) (range_with_len 0 k))
    (cond_some _ _ l e).1
    (same_map _ _ (range_with_len 0 k) (λ o.
    let start : o * 0 ≡ 0 = omega arith in
    let place : k * n + o * 1 ≡ k * n + o = omega arith in
    let whole : take n (drop (o * 0) Xs) ≡ Xs = ap (λ i. take n (drop i Xs)) start ∙ take_all n Xs (omega arith) in
    ap₂ (λ z b. z +ℤ b *ℤ pos (2 ^ (24 * (d + 1))))
    (ap (dot (map (λ j. number_at bytes (o * n + j)) (range_with_len 0 n))) whole ∙ dot-by-places (λ j. number_at bytes (o * n + j)) Xs 0 n (omega arith))
    (ap (number_at bytes) place)))

pub taps-is-window : TapsIsWindow
taps-is-window k n d l bytes Xs e =
    subst (λ (m : Layout). exact_by m bytes d Xs ≡ map (λ o. row_exact (map (number_at bytes) (range_with_len 0 k)) (number_at bytes k) d (take k (drop o Xs))) (range_with_len 0 (n - k + 1)))
    (cond_some _ _ l e).1
    (same_map _ _ (range_with_len 0 (n - k + 1)) (λ o.
    let place : (j : ℕ) → o * 0 + j ≡ j = λ j. omega arith in
    let one : o * 1 ≡ o = omega arith in
    let bias : k + o * 0 ≡ k = omega arith in
    ap₂ (λ ws b. row_exact ws b d (take k (drop (o * 1) Xs))) (same_map _ _ (range_with_len 0 k) (λ j. ap (number_at bytes) (place j))) (ap (number_at bytes) bias)
    ∙ ap (λ i. row_exact (map (number_at bytes) (range_with_len 0 k)) (number_at bytes k) d (take k (drop i Xs))) one))

-- the layouts of taps over all n inputs, and of a full stage of one output
abbrev taps_of : ℕ → Layout
taps_of n = record { outputs = n - n + 1; length = n; numbers = n + 1; stride = 0; slide = 1; biases = n; spacing = 0 }

abbrev full_of : ℕ → Layout
full_of n = record { outputs = 1; length = n; numbers = 1 * n + 1; stride = n; slide = 0; biases = 1 * n; spacing = 1 }

-- their one row
same_row : {X Y : Type 0} (rule : ℕ → List ℤ → ℤ → List X → Y) (n : ℕ) (bytes : List ℕ) (xs : List X)
    → row_at rule (taps_of n) bytes xs 0 ≡ row_at rule (full_of n) bytes xs 0
same_row rule n bytes xs =
    let place : (j : ℕ) → 0 * 0 + j ≡ 0 * n + j = λ j. omega arith in
    let bias : n + 0 * 0 ≡ 1 * n + 0 * 1 = omega arith in
    ap₂ (λ ws b. rule 0 ws b (take n xs)) (same_map _ _ (range_with_len 0 n) (λ j. ap (number_at bytes) (place j))) (ap (number_at bytes) bias)

-- one output, by its row alone
one-output : {Y E : Type 0} (f g : ℕ → Result Y E) (n : ℕ) → n ≡ 1 → f 0 ≡ g 0 → outputs_from f 0 n ≡ outputs_from g 0 1
one-output f g n e h = ap (outputs_from f 0) e ∙ ap (λ r. and_then r (λ y. Ok (y ∷ []))) h

-- the same rows, whatever the setting
full-wires : (s : Scales) (n : ℕ) (bytes : List ℕ) (xs : List WireRow) → wires_by s (taps_of n) bytes xs ≡ wires_by s (full_of n) bytes xs
full-wires s n bytes xs =
    one-output (row_at (row_wire s) (taps_of n) bytes xs) (row_at (row_wire s) (full_of n) bytes xs) (n - n + 1) (omega arith) (same_row (row_wire s) n bytes xs)

full-codes : (s : Scales) (n : ℕ) (bytes : List ℕ) (cs : List ℤ) → codes_by s (taps_of n) bytes cs ≡ codes_by s (full_of n) bytes cs
full-codes s n bytes cs =
    one-output (row_at (row_code s) (taps_of n) bytes cs) (row_at (row_code s) (full_of n) bytes cs) (n - n + 1) (omega arith) (same_row (row_code s) n bytes cs)

full-exact : (n d : ℕ) (bytes : List ℕ) (Xs : List ℤ) → exact_by (taps_of n) bytes d Xs ≡ exact_by (full_of n) bytes d Xs
full-exact n d bytes Xs =
    let one : n - n + 1 ≡ 1 = omega arith in
    ap (λ k. map (row_at (λ o ws q zs. row_exact ws q d zs) (taps_of n) bytes Xs) (range_with_len 0 k)) one
    ∙ ap (λ z. z ∷ []) (same_row (λ o ws q zs. row_exact ws q d zs) n bytes Xs)

-- from the layouts to those that the plans give
moved : {Y : Type 0} (g : Layout → Y) {t u f v : Layout} → t ≡ u → f ≡ v → g t ≡ g f → g u ≡ g v
moved g a b e = ap g (sym a) ∙ e ∙ ap g b

pub taps-is-full : TapsIsFull
taps-is-full n t f p q s =
    let one : n - n + 1 ≡ 1 = omega arith in
    let numbers : n + 1 ≡ 1 * n + 1 = omega arith in
    let a = (cond_some _ (taps_of n) t p).1 in
    let b = (cond_some (leb 1 1 && leb 1 64) (full_of n) f q).1 in
    let test = ap (λ k. eqb (length s.bytes) (6 + 4 * k)) numbers in (
      λ xs. moved (λ (l : Layout). wires_in s xs (Some l)) a b (ap₂ (λ c w. cond c (cond (scales_fit (scales_in s)) w (Err Format)) (Err Length)) test (full-wires (scales_in s) n s.bytes xs)),
      λ cs. moved (λ (l : Layout). codes_in s cs (Some l)) a b (full-codes (scales_in s) n s.bytes cs),
      moved (λ (l : Layout). after_in s (Some l)) a b (ap (λ k. record { count = k; word = (scales_in s).wy; fraction = (scales_in s).fy }) one),
      λ x. moved (λ (l : Layout). exact_in s x (Some l)) a b (ap (exactly (x.depth + 1)) (full-exact n x.depth s.bytes x.values)),
    )
