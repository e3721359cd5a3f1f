-- The law of the kinds that keep the format, said once for all of them.
use Rattle.std.specs.Prelude.{◌≡◌, ℕ, ◌≤◌, Bool, true, false, cond, List, length, ℤ, Ok, Err, ◌==◌, refl}
use Rattle.std.proofs.Common.{ap, sym, subst, ◌∙◌, arith}
use Rattle.fixed.specs.declared.row.WireRow.{WireRow}
use Rattle.stages.specs.declared.shape.KindRefusal.TheVariants.{Size, Length}
use Rattle.stages.specs.Kind.{size_of}
use Rattle.stages.specs.Containment.{AllProper, Inside, Held, Leads, Lawful}
use Rattle.keeping.specs.Keeping.{judged, keeping}

-- what a kind's tests and maps owe for its law
pub record Keeps (within : ℕ → ℕ → Bool) (outputs : ℕ → ℕ → ℕ) (wires : ℕ → List WireRow → List WireRow) (codes : ℕ → List ℤ → List ℤ) : Type 0 where
  pub sized : (p n : ℕ) → within p n ≡ true → 1 ≤ n → n ≤ 64 → (1 ≤ outputs p n) × (outputs p n ≤ 64)
  pub many_wires : (p n : ℕ) (xs : List WireRow) → within p n ≡ true → length xs ≡ n → length (wires p xs) ≡ outputs p n
  pub many_codes : (p n : ℕ) (cs : List ℤ) → within p n ≡ true → length cs ≡ n → length (codes p cs) ≡ outputs p n
  pub proper : (w p : ℕ) (xs : List WireRow) → 1 ≤ w → AllProper w xs → AllProper w (wires p xs)
  pub inside : (p : ℕ) (xs : List WireRow) (cs : List ℤ) → Inside xs cs → Inside (wires p xs) (codes p cs)
  pub held : (f d p : ℕ) (xs : List WireRow) (cs Xs : List ℤ) → Held f d xs cs Xs → Held f d (wires p xs) (codes p cs) (codes p Xs)

-- a record that passes
passed : {X : Type 0} (within : Bool) (bytes : List ℕ) (x y : X) → judged within bytes x ≡ Ok y → (within ≡ true) × (x ≡ y)
passed within bytes x y e = by within (length bytes == 2) e
  where
    by : (a b : Bool) → cond a (cond b (Ok x) (Err Length)) (Err Size) ≡ Ok y → (a ≡ true) × (x ≡ y)
    by true true p = (refl, cc)
    by true false p = absurd cc
    by false b p = absurd cc

pub lawful-keeping : {within : ℕ → ℕ → Bool} {outputs : ℕ → ℕ → ℕ} {wires : ℕ → List WireRow → List WireRow} {codes : ℕ → List ℤ → List ℤ}
    → Keeps within outputs wires codes → Lawful (keeping within outputs wires codes)
lawful-keeping {within} {outputs} {wires} {codes} k =
    record {
      leads = λ s xs ys g e.
          let p = size_of s.bytes in
          let t = passed (within p s.before.count) s.bytes (wires p xs) ys e in
          let sized = g.stands.sized in
          let outs = k.sized p s.before.count t.0 sized.least sized.most in
          subst (Leads (keeping within outputs wires codes) s xs) t.1 (record {
            stands = record {
              sized = record { least = outs.0; most = outs.1; format = sized.format };
              many = k.many_wires p _ xs t.0 g.stands.many;
              proper = k.proper s.before.word p xs (omega (arith, sized.format.0)) g.stands.proper;
            };
            runs = λ cs i. (codes p cs, refl, k.inside p xs cs i);
            carries = λ d cs ds Xs r h.
                let same : codes p cs ≡ ds = cc in
                subst (λ (zs : List ℤ). Held s.before.fraction d (wires p xs) zs (codes p Xs)) same (k.held s.before.fraction d p xs cs Xs h);
          });
      code_counts = λ s xs ys g e cs ds n c.
          let p = size_of s.bytes in
          let same : codes p cs ≡ ds = cc in
          ap length (sym same) ∙ k.many_codes p _ cs (passed (within p s.before.count) s.bytes (wires p xs) ys e).0 n;
      exact_counts = λ s xs ys g e x n.
          let p = size_of s.bytes in
          k.many_codes p _ x.values (passed (within p s.before.count) s.bytes (wires p xs) ys e).0 n;
    }
