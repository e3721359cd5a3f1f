-- One turn of a loop, for the lists that the loops make.
use Rattle.std.proofs.Common.{◌≡◌, ℕ, zero, suc, ◌+◌, ◌-◌, ◌*◌, ◌<◌, ◌≤◌, min, List, [], ◌∷◌, ◌++◌, length, get_or, take, replicate, refl, mul-le-mul_right, arith}
use Rattle.std.specs.List.{fold, reduce}
use Rattle.std.specs.Option.{option_to_list}
use Rattle.std.proofs.lemmas.Grind.{common_steps}
use Rattle.std.proofs.lemmas.List.{append_assoc, append-nil, take_more}
use Rattle.keeping.specs.Lists.{pooled_from, pooled, repeated}
use Rattle.keeping.specs.Counts.{length-repeated}

-- the block that has begun, and those after it
from_block : {X : Type 0} (larger : X → X → X) (p k : ℕ) (b : X) (block rest : List X) → length block ≡ min k (length (block ++ rest))
    → pooled_from larger p k b (block ++ rest) ≡ fold larger b block ∷ pooled larger p rest
unfolding pooled
from_block larger p zero b [] [] h = refl
from_block larger p zero b [] (x ∷ xs) h = refl
from_block larger p (suc k) b [] [] h = refl
from_block larger p (suc k) b [] (x ∷ xs) h = absurd (omega arith)
from_block larger p zero b (y ∷ ys) rest h = absurd (omega arith)
from_block larger p (suc k) b (y ∷ ys) rest h = from_block larger p k (larger b y) ys rest (omega arith)

-- the first block, and those after it
pub pooled_block : {X : Type 0} (larger : X → X → X) (p : ℕ) (block rest : List X) → 1 ≤ p → length block ≡ min p (length (block ++ rest))
    → pooled larger p (block ++ rest) ≡ option_to_list (reduce larger block) ++ pooled larger p rest
unfolding pooled
pooled_block larger p [] rest l h = refl
pooled_block larger p (x ∷ xs) rest l h = from_block larger p (p - 1) x xs rest (omega arith)

-- where nothing is left
pub pooled_none : {X : Type 0} (larger : X → X → X) (p : ℕ) (rest out : List X) → length rest ≡ 0 → out ++ pooled larger p rest ≡ out
unfolding pooled
pooled_none larger p [] out h = append-nil out
pooled_none larger p (x ∷ xs) out h = absurd (omega arith)

-- one more element is repeated
repeated-push : {X : Type 0} (s : ℕ) (xs : List X) (x : X) → repeated s (xs ++ (x ∷ [])) ≡ repeated s xs ++ replicate s x
repeated-push s [] x = append-nil (replicate s x)
repeated-push s (y ∷ ys) x = simp (repeated-push s ys x, append_assoc)

pub repeated_more : {X : Type 0} (s c i : ℕ) (xs : List X) (x : X) → i < length xs → x ≡ get_or xs i x → c ≡ s
    → repeated s (take i xs) ++ replicate c x ≡ repeated s (take (i + 1) xs)
repeated_more s c i xs x h is e =
    let m = take_more xs i x h in
    cc (repeated-push s (take i xs) x)

-- its copies find room
pub repeat_room : {X : Type 0} (s c i : ℕ) (xs : List X) (x : X) → i < length xs → c < s → length (repeated s (take i xs) ++ replicate c x) < length xs * s
repeat_room s c i xs x h k =
    let l : i + 1 ≤ length xs = omega arith in
    grind (arith, common_steps, length-repeated s (take i xs), mul-le-mul_right s l)
