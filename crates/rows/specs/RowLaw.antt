-- The containment law of one row.
use Rattle.std.specs.Prelude.{◌≡◌, ℕ, ◌+◌, ◌-◌, ◌*◌, ◌/◌, ◌^◌, ◌<◌, ◌≤◌, max, Bool, true, false, cond, List, [], ◌∷◌, map, ℤ, pos, ◌+ℤ◌, ◌-ℤ◌, ◌*ℤ◌, Some, None, Ok, Err, Option, Result, nat_le, unsigned_abs, refl}
use Rattle.std.proofs.Common.{ap, sym, subst, ◌∙◌, arith, mul-le-mul_left, mul-le-mul_right, le_trans, div-add-mod', mod-lt, lit<, pow-add, pow_pos}
use Rattle.std.proofs.Math.IntN.{+ℤ_comm}
use Rattle.std.specs.Int.Signed.{≤ℤ_refl}
use Rattle.std.proofs.lemmas.Int.{ints, unsigned_abs-mul}
use Rattle.std.proofs.lemmas.Bool.{and_parts, leb-true}
use Rattle.fixed.specs.Floor.{floor_shift}
use Rattle.fixed.specs.Word.{fits_word}
use Rattle.fixed.specs.Wire.{Proper, most_error}
use Rattle.fixed.specs.declared.row.WireRow.{WireRow}
use Rattle.stages.specs.Containment.{AllProper, InWire, Inside, Within, Held}
use Rattle.rows.specs.declared.range.SumRange.{SumRange}
use Rattle.rows.specs.declared.scales.Scales.{Scales}
use Rattle.rows.specs.Scales.{dropped}
use Rattle.rows.specs.Range.{range_fits, range_shift}
use Rattle.rows.specs.Row.{weight_code, weight_codes, bias_code, code_sum, range_sum, remainder, reach, spread, row_error, shifted, row_code, wired, row_wire, dot, row_exact, all_fit}
use Rattle.rows.specs.Nearness.{Near, near-trans, near-plus, near_by, near_times, remainder-most, scale-product, scale-sum, scale-twice}
use Rattle.rows.specs.Ranges.{InRange, in-fits, in_shift, walk-sum, walk-in, lows-inside}

-- what a row owes where its wire is y
pub record RowLeads (s : Scales) (ws : List ℤ) (b : ℤ) (xs : List WireRow) (y : WireRow) : Type 0 where
  pub proper : Proper s.wy y
  pub runs : (o : ℕ) (cs : List ℤ) → Inside xs cs → (c : ℤ) × (row_code s o ws b cs ≡ Ok c) × InWire y c
  pub carries : (o d : ℕ) (cs : List ℤ) (c : ℤ) (Xs : List ℤ) → row_code s o ws b cs ≡ Ok c → Held s.fx d xs cs Xs
      → Within s.fy (d + 1) y.error c (row_exact ws b d Xs)

-- ---- the error
-- one product, where X is near c v and c v is at most r: the weight's code is q, in units of p
term-near : (w X q c : ℤ) (p v k r : ℕ) → Near k X (c *ℤ pos v) → unsigned_abs (c *ℤ pos v) ≤ r
    → Near (unsigned_abs w * k + unsigned_abs (w -ℤ q *ℤ pos p) * r) (w *ℤ X) (q *ℤ c *ℤ pos (p * v))
term-near w X q c p v k r h i =
    let a = near_times w X (c *ℤ pos v) h in
    let e : Near (unsigned_abs (w -ℤ q *ℤ pos p)) w (q *ℤ pos p) = omega arith in
    let f = near_by w (q *ℤ pos p) (c *ℤ pos v) e in
    let g = mul-le-mul_left (unsigned_abs (w -ℤ q *ℤ pos p)) i in
    let t = near-trans (w *ℤ X) (w *ℤ (c *ℤ pos v)) (q *ℤ pos p *ℤ (c *ℤ pos v)) a f in
    rw scale-product (omega arith)

-- a code in a wire is at most the wire's reach, at every depth
reach-most : (f d : ℕ) (x : WireRow) (c : ℤ) → f ≤ 24 → InWire x c
    → unsigned_abs (c *ℤ pos (2 ^ (24 * (d + 1) - f))) ≤ reach f x * 2 ^ (24 * d)
reach-most f d x c h i =
    let far : 24 * (d + 1) - f ≡ 24 - f + 24 * d = omega arith in
    let deep = ap (λ n. 2 ^ n) far ∙ pow-add 2 (24 - f) (24 * d) in
    let most : unsigned_abs c ≤ max (unsigned_abs x.low) (unsigned_abs x.high) = omega (arith, ints) in
    rw (unsigned_abs-mul, deep) (omega (arith, mul-le-mul_right (2 ^ (24 - f) * 2 ^ (24 * d)) most))

-- the whole sum of products
sum_near : (s : Scales) (d : ℕ) (ws : List ℤ) (xs : List WireRow) (cs Xs : List ℤ) → s.fx ≤ 24 → Held s.fx d xs cs Xs
    → Near (spread s ws xs * 2 ^ (24 * d)) (dot ws Xs) (dot (weight_codes s ws) cs *ℤ pos (2 ^ (24 - s.fw) * 2 ^ (24 * (d + 1) - s.fx)))
sum_near s d [] xs cs Xs l h = omega (arith, ints)
sum_near s d (w ∷ ws) [] [] [] l h = omega (arith, ints)
sum_near s d (w ∷ ws) [] [] (X ∷ Xs) l h = absurd h
sum_near s d (w ∷ ws) [] (c ∷ cs) Xs l h = absurd h
sum_near s d (w ∷ ws) (x ∷ xs) [] Xs l h = absurd h
sum_near s d (w ∷ ws) (x ∷ xs) (c ∷ cs) [] l h = absurd h
sum_near s d (w ∷ ws) (x ∷ xs) (c ∷ cs) (X ∷ Xs) l h =
    let p = 2 ^ (24 - s.fw) in
    let v = 2 ^ (24 * (d + 1) - s.fx) in
    let q = weight_code s w in
    let one = term-near w X q c p v (x.error * 2 ^ (24 * d)) (reach s.fx x * 2 ^ (24 * d)) h.1 (reach-most s.fx d x c l h.0) in
    let rest = sum_near s d ws xs cs Xs l h.2 in
    let both = near-plus (w *ℤ X) (q *ℤ c *ℤ pos (p * v)) (dot ws Xs) (dot (weight_codes s ws) cs *ℤ pos (p * v)) one rest in
    rw (scale-sum (q *ℤ c) (dot (weight_codes s ws) cs) (p * v)) (omega arith)

-- the powers of two, as products
deeper : (d : ℕ) → 2 ^ (24 * (d + 1)) ≡ 16777216 * 2 ^ (24 * d)
deeper d = ap (λ n. 2 ^ n) (omega arith) ∙ pow-add 2 24 (24 * d)

module _ (s : Scales) (l : s.fw + s.fx ≤ 24) (m : s.fy ≤ s.fw + s.fx) where
  output-grain : 2 ^ (24 - s.fy) ≡ 2 ^ dropped s * 2 ^ (24 - s.fw - s.fx)
  output-grain = ap (λ n. 2 ^ n) (omega arith) ∙ pow-add 2 (dropped s) (24 - s.fw - s.fx)

  product-unit : (d : ℕ) → 2 ^ (24 - s.fw) * 2 ^ (24 * (d + 1) - s.fx) ≡ 2 ^ (24 - s.fw - s.fx) * 2 ^ (24 * (d + 1))
  product-unit d =
      sym (pow-add 2 (24 - s.fw) (24 * (d + 1) - s.fx)) ∙ ap (λ n. 2 ^ n) (omega arith)
      ∙ pow-add 2 (24 - s.fw - s.fx) (24 * (d + 1))

  output-unit : (d : ℕ) → 2 ^ (24 * (d + 1 + 1) - s.fy) ≡ 2 ^ dropped s * (2 ^ (24 - s.fw - s.fx) * 2 ^ (24 * (d + 1)))
  output-unit d =
      ap (λ n. 2 ^ n) (omega arith) ∙ pow-add 2 (dropped s) (24 - s.fw - s.fx + 24 * (d + 1))
      ∙ ap (λ n. 2 ^ dropped s * n) (pow-add 2 (24 - s.fw - s.fx) (24 * (d + 1)))

-- a row from its parts: S near Q in units of p D, b near B in units of p, and the codes' sum near c in units of r
row_near : (S b Q B c : ℤ) (e f g D p r : ℕ) → Near e S (Q *ℤ pos (p * D)) → Near f b (B *ℤ pos p) → Near g (B +ℤ Q) (c *ℤ pos r)
    → Near (e + f * D + g * (p * D)) (S +ℤ b *ℤ pos D) (c *ℤ pos (r * (p * D)))
row_near S b Q B c e f g D p r h i j =
    let u = pos (p * D) in
    let bias : Near (f * D) (b *ℤ pos D) (B *ℤ u) = rw (scale-twice B p D) (near_by b (B *ℤ pos p) (pos D) i) in
    let both = near-plus S (Q *ℤ u) (b *ℤ pos D) (B *ℤ u) h bias in
    let sum = +ℤ_comm (Q *ℤ u) (B *ℤ u) ∙ sym (scale-sum B Q (p * D)) in
    let out = near_by (B +ℤ Q) (c *ℤ pos r) u j in
    rw (scale-twice c r (p * D)) (near-trans (S +ℤ b *ℤ pos D) ((B +ℤ Q) *ℤ u) (c *ℤ pos r *ℤ u) (rw sum at both) out)

-- the inputs' share, rounded up
rounded-up : (t n : ℕ) → t * n ≤ (t + 16777215) / 16777216 * (16777216 * n)
rounded-up t n =
    let e = div-add-mod' (t + 16777215) 16777216 in
    let o : 0 < 16777216 = lit< tt in
    let l = mod-lt (t + 16777215) o in
    let m : t ≤ (t + 16777215) / 16777216 * 16777216 = omega arith in
    omega (arith, mul-le-mul_right n m)

-- the bound in all
bound : (t n f D p r y : ℕ) → D ≡ 16777216 * n → y ≡ r * p → 0 < r
    → t * n + f * D + (r - 1) * (p * D) ≤ ((t + 16777215) / 16777216 + f + (y - p)) * D
bound t n f D p r y h i j =
    let a : t * n ≤ (t + 16777215) / 16777216 * D = rw h (rounded-up t n) in
    let one : r ≡ r - 1 + 1 = omega arith in
    let e : (r - 1) * p ≡ y - p = omega (arith, ap (λ k. k * p) one) in
    omega (arith, ap (λ k. k * D) e)

-- ---- the checks that a wire has passed
-- a wire, by its ends and its error
abbrev pub wire_with : ℤ → ℤ → ℕ → WireRow
wire_with low high e = record { low = low; high = high; error = e }

record Passed (s : Scales) (ws : List ℤ) (b : ℤ) (xs : List WireRow) (y : WireRow) : Type 0 where
  pub range : SumRange
  pub sums : range_sum s ws b xs ≡ Some range
  pub fits : range_fits s.wy (range_shift range (dropped s)) ≡ true
  pub most : row_error s ws b xs ≤ most_error
  pub is : y ≡ wire_with (range_shift range (dropped s)).low (range_shift range (dropped s)).high (row_error s ws b xs)

-- a result that is no error has passed its test
pub cond-ok : {A E : Type 0} (t : Bool) (r : Result A E) (e : E) (y : A) → cond t r (Err e) ≡ Ok y → (t ≡ true) × (r ≡ Ok y)
cond-ok true r e y p = (refl, p)
cond-ok false r e y p = cc

-- a row that has a wire has passed them
row-passed : (s : Scales) (o : ℕ) (ws : List ℤ) (b : ℤ) (xs : List WireRow) (y : WireRow)
    → row_wire s o ws b xs ≡ Ok y → Passed s ws b xs y
row-passed s o ws b xs y e =
    by (range_sum s ws b xs) refl (cond-ok (all_fit s.ww (weight_codes s ws)) (wired s o (row_error s ws b xs) (range_sum s ws b xs)) _ y e).1
  where
    by : (m : Option SumRange) → range_sum s ws b xs ≡ m → wired s o (row_error s ws b xs) m ≡ Ok y → Passed s ws b xs y
    by None p q = absurd (cc)
    by (Some r) p q =
        let v = wire_with (range_shift r (dropped s)).low (range_shift r (dropped s)).high (row_error s ws b xs) in
        let f = cond-ok (range_fits s.wy (range_shift r (dropped s))) _ _ y q in
        let g = cond-ok (nat_le (row_error s ws b xs) most_error) (Ok v) _ y f.1 in
        let i : v ≡ y = cc g.1 in
        record { range = r; sums = p; fits = f.0; most = leb-true _ _ g.0; is = sym i }

-- ---- the law
-- codes in the inputs' ranges give a code in the output's
row-runs : (s : Scales) (ws : List ℤ) (b : ℤ) (xs : List WireRow) (y : WireRow) (p : Passed s ws b xs y)
    (o : ℕ) (cs : List ℤ) → Inside xs cs → (c : ℤ) × (row_code s o ws b cs ≡ Ok c) × InRange (range_shift p.range (dropped s)) c
row-runs s ws b xs y p o cs i =
    let at = bias_code s b in
    let k = dropped s in
    let w = walk-in s.bits (record { low = at; high = at }) p.range at (weight_codes s ws) xs cs (≤ℤ_refl at, ≤ℤ_refl at) i p.sums in
    let z = floor_shift w.0 k in
    let h : InRange (range_shift p.range k) z = in_shift p.range k w.0 w.2 in
    let f = in-fits s.wy (range_shift p.range k) z p.fits h in
    (z, ap (shifted s o) w.1 ∙ rw f, h)

-- a code that a row gives is the floor of the sum
code_is : (s : Scales) (o : ℕ) (ws : List ℤ) (b : ℤ) (cs : List ℤ) (c : ℤ) → row_code s o ws b cs ≡ Ok c
    → c ≡ floor_shift (bias_code s b +ℤ dot (weight_codes s ws) cs) (dropped s)
code_is s o ws b cs c e = by (code_sum s ws b cs) refl e
  where
    by : (m : Option ℤ) → code_sum s ws b cs ≡ m → shifted s o m ≡ Ok c
        → c ≡ floor_shift (bias_code s b +ℤ dot (weight_codes s ws) cs) (dropped s)
    by None p q = absurd (cc)
    by (Some z) p q =
        let f = cond-ok (fits_word s.wy (floor_shift z (dropped s))) (Ok (floor_shift z (dropped s))) _ c q in
        let g : floor_shift z (dropped s) ≡ c = cc f.1 in
        sym g ∙ ap (λ n. floor_shift n (dropped s)) (walk-sum (fits_word s.bits) (bias_code s b) z (weight_codes s ws) cs p)

-- that floor is near the exact row
row_carries : (s : Scales) (ws : List ℤ) (b : ℤ) (xs : List WireRow) → s.fw + s.fx ≤ 24 → s.fy ≤ s.fw + s.fx
    → (d : ℕ) (cs Xs : List ℤ) → Held s.fx d xs cs Xs
    → Within s.fy (d + 1) (row_error s ws b xs) (floor_shift (bias_code s b +ℤ dot (weight_codes s ws) cs) (dropped s)) (row_exact ws b d Xs)
row_carries s ws b xs l m d cs Xs h =
    let B = bias_code s b in
    let Q = dot (weight_codes s ws) cs in
    let k = dropped s in
    let c = floor_shift (B +ℤ Q) k in
    let D = 2 ^ (24 * (d + 1)) in
    let p = 2 ^ (24 - s.fw - s.fx) in
    let sums = rw (product-unit s l m d) at (sum_near s d ws xs cs Xs (omega arith) h) in
    let bias : Near (remainder b (24 - s.fw - s.fx)) b (B *ℤ pos p) = omega arith in
    let all = row_near (dot ws Xs) b Q B c _ _ (2 ^ k - 1) D p (2 ^ k) sums bias (remainder-most (B +ℤ Q) k) in
    let most = bound (spread s ws xs) (2 ^ (24 * d)) _ D p (2 ^ k) (2 ^ (24 - s.fy)) (deeper d) (output-grain s l m) (pow_pos k) in
    rw (output-unit s l m d) (le_trans all most)

-- the law, from the wire's checks
pub row-leads : (s : Scales) (o w : ℕ) (ws : List ℤ) (b : ℤ) (xs : List WireRow) (y : WireRow)
    → s.fw + s.fx ≤ 24 → s.fy ≤ s.fw + s.fx → AllProper w xs
    → row_wire s o ws b xs ≡ Ok y → RowLeads s ws b xs y
row-leads s o w ws b xs y l m proper e =
    let p = row-passed s o ws b xs y e in
    let r = range_shift p.range (dropped s) in
    let runs = row-runs s ws b xs y p in
    let least = (runs o (map (λ x. x.low) xs) (lows-inside w xs proper)).2 in
    let ends = and_parts (fits_word s.wy r.low) (fits_word s.wy r.high) p.fits in
    subst (RowLeads s ws b xs) (sym p.is) (record {
      proper = (omega (arith, ints), p.most, ends.0, ends.1);
      runs = runs;
      carries = λ o d cs c Xs f h. rw (code_is s o ws b cs c f) (row_carries s ws b xs l m d cs Xs h);
    })
