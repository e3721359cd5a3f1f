-- A word that is none of a script's.
use Rattle.std.proofs.Common.{◌≡◌, ℕ, ◌+◌, suc, true, false, List, [], ◌∷◌, length, get_or, None, codes, ap, ⊎_elim, add-zero, zero-add, arith}
use Rattle.std.proofs.lemmas.Bool.{cases_Bool}
use Rattle.std.proofs.lemmas.Slice.Eq.{HasBytesAt, bytes_eq-Decides}
use Rattle.std.specs.Str.{bytes_eq}
use Rattle.script.specs.Lines.{call_by}

-- the length and the characters of w are those of p
abbrev pub Reads : List ℕ → List ℕ → Type 0
Reads w p = (length w ≡ length p) × HasBytesAt w 0 p

HasBytesAt-from_each : (s : List ℕ) (i : ℕ) (p : List ℕ) → ((k : ℕ) → get_or s (i + k) 0 ≡ get_or p k 0) → HasBytesAt s i p
HasBytesAt-from_each s i [] h = tt
HasBytesAt-from_each s i (c ∷ p) h =
    (simp add-zero at (h 0), HasBytesAt-from_each s (suc i) p (λ k. let e : i + suc k ≡ suc i + k = omega arith in rw e at (h (suc k))))

apart : (w p : List ℕ) → (Reads w p → ⊥) → bytes_eq w p ≡ false
apart w p h =
    ⊎_elim
    (λ (e : bytes_eq w p ≡ true). let same = (bytes_eq-Decides w p).0 e in absurd (h (ap length same, HasBytesAt-from_each w 0 p (λ k. simp (zero-add, same)))))
    (λ (e : bytes_eq w p ≡ false). e)
    (cases_Bool (bytes_eq w p))

-- w is none of the words
pub record IsNoWord (w : List ℕ) : Type 0 where
  pub load : Reads w (codes "load") → ⊥
  pub frame : Reads w (codes "frame") → ⊥
  pub reset : Reads w (codes "reset") → ⊥
  pub state : Reads w (codes "state") → ⊥
  pub certificate : Reads w (codes "certificate") → ⊥
  pub bench : Reads w (codes "bench") → ⊥

pub call_by_none : (w : List ℕ) (ps : List (List ℕ)) → IsNoWord w → None ≡ call_by w ps
call_by_none w ps h =
    simp (
      apart w (codes "load") h.load,
      apart w (codes "frame") h.frame,
      apart w (codes "reset") h.reset,
      apart w (codes "state") h.state,
      apart w (codes "certificate") h.certificate,
      apart w (codes "bench") h.bench,
    )
