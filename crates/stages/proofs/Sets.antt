-- Sets of one kind.
use Rattle.std.proofs.Common.{◌≡◌, ℕ, Bool, true, false, cond, eqb, Some, None, subst, arith}
use Rattle.stages.specs.Kind.{Kind, only}
use Rattle.stages.specs.Containment.{Lawful, LawfulSet}

pub only-lawful : (number : ℕ) (k : Kind) → Lawful k → LawfulSet (only number k)
only-lawful number k law n j e = by (eqb n number) e
  where
    by : (t : Bool) → cond t (Some k) None ≡ Some j → Lawful j
    by true p = let i : k ≡ j = cc in subst Lawful i law
    by false p = let z : ◌≡◌ {A = ℕ} 0 1 = cc in absurd (omega arith)
