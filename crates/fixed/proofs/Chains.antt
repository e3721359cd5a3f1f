-- Steps that may refuse, one after another.
use Rattle.std.proofs.Common.{◌≡◌, ℕ, ◌⊎◌, Ok, Err, Result, refl, ap, inl, inr, arith}
use Rattle.fixed.specs.Steps.{and_then}

pub then_ok : {A B E : Type 0} (r : Result A E) (f : A → Result B E) (y : B) → and_then r f ≡ Ok y → (x : A) × (r ≡ Ok x) × (f x ≡ Ok y)
then_ok (Ok x) f y e = (x, refl, e)
then_ok (Err r) f y e = let z : ◌≡◌ {A = ℕ} 0 1 = cc in absurd (omega arith)

pub then-err : {A B E : Type 0} (r : Result A E) (f : A → Result B E) (e : E) → and_then r f ≡ Err e → (r ≡ Err e) ⊎ ((x : A) × (r ≡ Ok x) × (f x ≡ Err e))
then-err (Ok x) f e p = inr (x, refl, p)
then-err (Err r) f e p = let s : r ≡ e = cc in inl (ap Err s)

pub then-then : {A B C E : Type 0} (r : Result A E) (f : A → Result B E) (g : B → Result C E) → and_then (and_then r f) g ≡ and_then r (λ x. and_then (f x) g)
then-then (Ok x) f g = refl
then-then (Err e) f g = refl
