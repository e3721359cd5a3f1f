-- Outputs that are worked out one after another.
use Rattle.std.specs.Prelude.{◌≡◌, ℕ, zero, suc, ◌+◌, ◌<◌, List, [], ◌∷◌, ◌++◌, length, Ok, Err, Result}
use Rattle.std.proofs.Common.{ap, sym, ◌∙◌, arith}
use Rattle.fixed.proofs.Chains.{then_ok}
use Rattle.rows.specs.Layout.{outputs_from}

module _ {Y E : Type 0} (f : ℕ → Result Y E) where
  -- the first output and the others
  pub outputs-apart : (i n : ℕ) (ys : List Y) → outputs_from f i (suc n) ≡ Ok ys
      → (y : Y) × (zs : List Y) × (f i ≡ Ok y) × (outputs_from f (i + 1) n ≡ Ok zs) × (y ∷ zs ≡ ys)
  outputs-apart i n ys e =
      let a = then_ok (f i) _ ys e in
      let b = then_ok (outputs_from f (i + 1) n) _ ys a.2 in
      (a.0, b.0, a.1, b.1, cc b.2)

  -- as many outputs as there are to be
  pub outputs-many : (i n : ℕ) (ys : List Y) → outputs_from f i n ≡ Ok ys → length ys ≡ n
  outputs-many i zero ys e = let z : [] ≡ ys = cc in ap length (sym z)
  outputs-many i (suc n) ys e =
      let a = outputs-apart i n ys e in ap length (sym a.4) ∙ ap suc (outputs-many (i + 1) n a.1 a.3)

  -- one more of them
  pub outputs_more : (i n j : ℕ) (ys : List Y) (y : Y) → i + n ≡ j → outputs_from f i n ≡ Ok ys → f j ≡ Ok y
      → outputs_from f i (n + 1) ≡ Ok (ys ++ y ∷ [])
  outputs_more i zero j ys y e p q = let z : [] ≡ ys = cc in let s : i ≡ j = omega arith in rw (s, q) (ap (λ t. Ok (t ++ y ∷ [])) z)
  outputs_more i (suc n) j ys y e p q =
      let a = outputs-apart i n ys p in
      let rest = outputs_more (i + 1) n j a.1 y (omega arith) a.3 q in
      let s : suc n + 1 ≡ suc (n + 1) = omega arith in
      rw (s, a.2, rest) (ap (λ t. Ok (t ++ y ∷ [])) a.4)

  -- one that is refused
  pub outputs_fail : (i k n j : ℕ) (ys : List Y) (d : E) → i + k ≡ j → k < n → outputs_from f i k ≡ Ok ys → f j ≡ Err d
      → outputs_from f i n ≡ Err d
  outputs_fail i k zero j ys d e h p q = absurd (omega arith)
  outputs_fail i zero (suc n) j ys d e h p q = let s : i ≡ j = omega arith in rw (s, q)
  outputs_fail i (suc k) (suc n) j ys d e h p q =
      let a = outputs-apart i k ys p in
      let rest = outputs_fail (i + 1) k n j a.1 d (omega arith) (omega arith) a.3 q in rw (a.2, rest)
