-- The containment law of a stage of rows.
use Rattle.std.specs.Prelude.{◌≡◌, ℕ, zero, suc, ◌+◌, ◌*◌, ◌≤◌, true, List, [], ◌∷◌, map, length, ℤ, Some, None, Ok, Option, ◌==◌, refl}
use Rattle.std.proofs.Common.{ap, ◌∙◌, subst, arith}
use Rattle.std.specs.List.{range_with_len}
use Rattle.std.proofs.lemmas.List.FromFn.{length-map-range_with_len}
use Rattle.std.proofs.lemmas.Bool.Decides.{nat_tests}
use Rattle.fixed.specs.Format.{IsFormat}
use Rattle.fixed.specs.declared.row.WireRow.{WireRow}
use Rattle.stages.specs.declared.shape.KindRefusal.TheVariants.{Format, Length}
use Rattle.stages.specs.Kind.{Setting, Exact, exactly}
use Rattle.fixed.specs.Steps.{and_then}
use Rattle.stages.specs.Containment.{AllProper, InWire, Inside, Held, Stands, Given, Lawful}
use Rattle.rows.specs.declared.layout.Layout.{Layout}
use Rattle.rows.specs.declared.scales.Scales.{Scales}
use Rattle.rows.specs.Scales.{scales_fit}
use Rattle.rows.specs.Row.{row_code, row_wire, row_exact}
use Rattle.rows.specs.Layout.{weights_at, bias_at, window, outputs_from, row_at, wires_by}
use Rattle.rows.specs.Plan.{scales_in, plan_in, wires_in, codes_in, after_in, exact_in, rows_kind, Windows, GoodPlan}
use Rattle.rows.specs.Outputs.{outputs-apart, outputs-many}
use Rattle.rows.specs.RowLaw.{RowLeads, cond-ok, row-leads}
use Rattle.rows.specs.Windows.{proper-window, inside-window, held-window, held-inside}

-- the rows of a layout over proper wires
module _ (s : Scales) (l : Layout) (bytes : List ℕ) (w : ℕ) (xs : List WireRow)
    (deep : s.fw + s.fx ≤ 24) (kept : s.fy ≤ s.fw + s.fx) (proper : AllProper w xs) where
  -- one output
  leads-at : (o : ℕ) (y : WireRow) → row_at (row_wire s) l bytes xs o ≡ Ok y
      → RowLeads s (weights_at l bytes o) (bias_at l bytes o) (window l o xs) y
  leads-at o y e = row-leads s o w _ _ _ y deep kept (proper-window w (o * l.slide) l.length xs proper) e

  pub rows-proper : (i n : ℕ) (ys : List WireRow)
      → outputs_from (row_at (row_wire s) l bytes xs) i n ≡ Ok ys → AllProper s.wy ys
  rows-proper i zero ys e = let z : [] ≡ ys = cc in subst (AllProper s.wy) z tt
  rows-proper i (suc n) ys e =
      let a = outputs-apart (row_at (row_wire s) l bytes xs) i n ys e in
      let one = leads-at i a.0 a.2 in
      subst (AllProper s.wy) a.4 (one.proper, rows-proper (i + 1) n a.1 a.3)

  -- they stand in the shape that the layout and the formats give
  pub rows_stand : (n : ℕ) (ys : List WireRow) → IsFormat s.wy s.fy → Windows l n → wires_by s l bytes xs ≡ Ok ys
      → Stands (record { count = l.outputs; word = s.wy; fraction = s.fy }) ys
  rows_stand n ys f v e = record {
    sized = record { least = v.least; most = v.most; format = f };
    many = outputs-many (row_at (row_wire s) l bytes xs) 0 l.outputs ys e;
    proper = rows-proper 0 l.outputs ys e;
  }

  pub rows_run : (i n : ℕ) (ys : List WireRow) (cs : List ℤ) → Inside xs cs
      → outputs_from (row_at (row_wire s) l bytes xs) i n ≡ Ok ys
      → (ds : List ℤ) × (outputs_from (row_at (row_code s) l bytes cs) i n ≡ Ok ds) × Inside ys ds
  rows_run i zero ys cs ins e = let z : [] ≡ ys = cc in ([], refl, subst (λ zs. Inside zs []) z tt)
  rows_run i (suc n) ys cs ins e =
      let a = outputs-apart (row_at (row_wire s) l bytes xs) i n ys e in
      let one = (leads-at i a.0 a.2).runs i (window l i cs) (inside-window (i * l.slide) l.length xs cs ins) in
      let rest = rows_run (i + 1) n a.1 cs ins a.3 in (
        one.0 ∷ rest.0,
        ap (λ r. and_then r (λ y. and_then (outputs_from (row_at (row_code s) l bytes cs) (i + 1) n) (λ zs. Ok (y ∷ zs)))) one.1
            ∙ ap (λ r. and_then r (λ zs. Ok (one.0 ∷ zs))) rest.1,
        subst (λ zs. Inside zs (one.0 ∷ rest.0)) a.4 (one.2, rest.2),
      )

  pub rows-carry : (i n d : ℕ) (ys : List WireRow) (cs ds Xs : List ℤ)
      → Held s.fx d xs cs Xs
      → outputs_from (row_at (row_wire s) l bytes xs) i n ≡ Ok ys → outputs_from (row_at (row_code s) l bytes cs) i n ≡ Ok ds
      → Held s.fy (d + 1) ys ds (map (row_at (λ o ws b zs. row_exact ws b d zs) l bytes Xs) (range_with_len i n))
  rows-carry i zero d ys cs ds Xs held e f =
      let z : [] ≡ ys = cc in let y : [] ≡ ds = cc in subst (λ us. Held s.fy (d + 1) us ds []) z (subst (λ vs. Held s.fy (d + 1) [] vs []) y tt)
  rows-carry i (suc n) d ys cs ds Xs held e f =
      let a = outputs-apart (row_at (row_wire s) l bytes xs) i n ys e in
      let b = outputs-apart (row_at (row_code s) l bytes cs) i n ds f in
      let one = leads-at i a.0 a.2 in
      let here = held-window s.fx d (i * l.slide) l.length xs cs Xs held in
      let ran = one.runs i (window l i cs) (held-inside s.fx d (window l i xs) (window l i cs) (window l i Xs) here) in
      let same : ran.0 ≡ b.0 = cc (ran.1, b.2) in
      let exact = map (row_at (λ o ws q zs. row_exact ws q d zs) l bytes Xs) (range_with_len i (suc n)) in
      let first : Held s.fy (d + 1) (a.0 ∷ a.1) (b.0 ∷ b.1) exact = (
        subst (InWire a.0) same ran.2,
        one.carries i d (window l i cs) b.0 (window l i Xs) b.2 here,
        rows-carry (i + 1) n d a.1 cs b.1 Xs held a.3 b.3,
      ) in
      subst (λ us. Held s.fy (d + 1) us ds exact) a.4 (subst (λ vs. Held s.fy (d + 1) (a.0 ∷ a.1) vs exact) b.4 first)

-- what a stage owes, by its layout
record LeadsIn (s : Setting) (o : Option Layout) (xs ys : List WireRow) : Type 0 where
  stands : Stands (after_in s o) ys
  runs : (cs : List ℤ) → Inside xs cs → (ds : List ℤ) × (codes_in s cs o ≡ Ok ds) × Inside ys ds
  carries : (d : ℕ) (cs ds Xs : List ℤ) → codes_in s cs o ≡ Ok ds → Held s.before.fraction d xs cs Xs
      → Held (after_in s o).fraction (exact_in s (exactly d Xs) o).depth ys ds (exact_in s (exactly d Xs) o).values
  code_counts : (cs ds : List ℤ) → codes_in s cs o ≡ Ok ds → length ds ≡ (after_in s o).count
  exact_counts : (x : Exact) → length (exact_in s x o).values ≡ (after_in s o).count

-- the checks that wires have passed
shifts : (s : Scales) → scales_fit s ≡ true → (s.fw + s.fx ≤ 24) × (s.fy ≤ s.fw + s.fx)
shifts s e = (grind (arith, nat_tests), grind (arith, nat_tests))

output-format : (s : Scales) → scales_fit s ≡ true → IsFormat s.wy s.fy
output-format s e = grind (arith, nat_tests)

leads-in : (s : Setting) (o : Option Layout) (xs ys : List WireRow) → Given s xs
    → ((l : Layout) → o ≡ Some l → Windows l s.before.count) → wires_in s xs o ≡ Ok ys → LeadsIn s o xs ys
leads-in s None xs ys given good e = absurd (cc)
leads-in s (Some l) xs ys given good e =
    let t = scales_in s in
    let w = good l refl in
    let long = cond-ok (length s.bytes == 6 + 4 * l.numbers) _ Length ys e in
    let fits = cond-ok (scales_fit t) (wires_by t l s.bytes xs) Format ys long.1 in
    let deep = shifts t fits.0 in
    let stands = given.stands in
    record {
      stands = rows_stand t l s.bytes s.before.word xs deep.0 deep.1 stands.proper _ ys (output-format t fits.0) w fits.1;
      runs = λ cs i. rows_run t l s.bytes s.before.word xs deep.0 deep.1 stands.proper 0 l.outputs ys cs i fits.1;
      carries = λ d cs ds Xs r held.
          rows-carry t l s.bytes s.before.word xs deep.0 deep.1 stands.proper 0 l.outputs d ys cs ds Xs held fits.1 r;
      code_counts = λ cs ds r. outputs-many (row_at (row_code t) l s.bytes cs) 0 l.outputs ds r;
      exact_counts = λ x. length-map-range_with_len (row_at (λ o ws b zs. row_exact ws b x.depth zs) l s.bytes x.values) 0 l.outputs;
    }

pub rows-lawful : (plan : ℕ → ℕ → Option Layout) → GoodPlan plan → Lawful (rows_kind plan)
rows-lawful plan good = record {
  leads = λ s xs ys given e.
      let l = at s xs ys given e in record { stands = l.stands; runs = l.runs; carries = l.carries };
  code_counts = λ s xs ys given e cs ds n r. (at s xs ys given e).code_counts cs ds r;
  exact_counts = λ s xs ys given e x n. (at s xs ys given e).exact_counts x;
}
  where
    at : (s : Setting) (xs ys : List WireRow) → Given s xs → (rows_kind plan).wires s xs ≡ Ok ys → LeadsIn s (plan_in plan s) xs ys
    at s xs ys given e =
        leads-in s (plan_in plan s) xs ys given (λ l p. good _ _ l given.stands.sized.least given.stands.sized.most p) e
