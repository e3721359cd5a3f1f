-- Weight codes that fit, in the words of the library.
use Rattle.std.proofs.Common.{◌≡◌, ℕ, ◌&&◌, List, [], ◌∷◌, map, ℤ, ap, refl}
use Rattle.std.specs.List.{list_all}
use Rattle.fixed.specs.Word.{fits_word}
use Rattle.rows.specs.Row.{all_fit}

pub all_fit_is : (w : ℕ) (code : ℤ → ℤ) (ws : List ℤ) → all_fit w (map code ws) ≡ list_all (λ q. fits_word w (code q)) ws
all_fit_is w code [] = refl
all_fit_is w code (q ∷ qs) = ap (λ b. fits_word w (code q) && b) (all_fit_is w code qs)
