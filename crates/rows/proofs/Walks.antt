-- The ends of walks over two lists: where either is at its end.
use Rattle.std.proofs.Common.{◌≡◌, Bool, true, false, cond, List, [], ◌∷◌, map, ℤ, Some, None, ◌⊎◌, inl, inr, refl}
use Rattle.std.specs.Bool.{then_some}
use Rattle.fixed.specs.declared.row.WireRow.{WireRow}
use Rattle.rows.specs.declared.scales.Scales.{Scales}
use Rattle.rows.specs.Row.{spread}
use Rattle.rows.specs.Walk.{walked}

pub spread_end : (s : Scales) (ws : List ℤ) (xs : List WireRow) → (ws ≡ []) ⊎ (xs ≡ []) → spread s ws xs ≡ 0
spread_end s [] xs e = refl
spread_end s (w ∷ ws) [] e = refl
spread_end s (w ∷ ws) (x ∷ xs) (inl e) = cc
spread_end s (w ∷ ws) (x ∷ xs) (inr e) = cc

-- a sum that passes, as a method makes it of the test
tested-is : {Q : Type 0} (b : Bool) (a : Q) → cond b (Some a) None ≡ then_some b a
tested-is true a = refl
tested-is false a = refl

pub walked_end : {Q I : Type 0} (test : Q → Bool) (plus : Q → Q → Q) (times : ℤ → I → Q) (a : Q) (code : ℤ → ℤ) (ws : List ℤ) (xs : List I)
    → (ws ≡ []) ⊎ (xs ≡ []) → walked test plus times a (map code ws) xs ≡ then_some (test a) a
walked_end test plus times a code [] xs e = tested-is (test a) a
walked_end test plus times a code (w ∷ ws) [] e = tested-is (test a) a
walked_end test plus times a code (w ∷ ws) (x ∷ xs) (inl e) = cc
walked_end test plus times a code (w ∷ ws) (x ∷ xs) (inr e) = cc
