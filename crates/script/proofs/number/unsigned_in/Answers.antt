use Rattle.std.proofs.Common.{◌≡◌, ℕ, ◌+◌, ◌-◌, ◌*◌, ◌<◌, List, [], ◌∷◌, None, arith}
use Rattle.std.proofs.lemmas.Bool.Decides.{nat_tests}
use Rattle.std.proofs.lemmas.Grind.{common_steps}
use Rattle.script.specs.Numbers.{read_on, up_to}
use Rattle.script.proofs.number.unsigned_in.Goals as goal

-- past the limit no digit leads back
over : (m n : ℕ) (cs : List ℕ) → m < n → up_to m (read_on n cs) ≡ None
over m n [] h = grind (arith, nat_tests)
over m n (c ∷ cs) h = grind (arith, nat_tests, over m (10 * n + (c - 48)) cs)

pub returns-in_err-checked_mul : goal.returns-in_err-checked_mul
returns-in_err-checked_mul c = grind (arith, common_steps, nat_tests, over)

pub returns-in_err-value : goal.returns-in_err-value
returns-in_err-value c = grind (arith, common_steps, nat_tests, over)
