use Rattle.std.proofs.Common.{◌≡◌, ℕ, ◌-◌, ◌≤◌, List, [], ◌∷◌, ◌++◌, length, get_or, take, drop, Some, ◌∙◌, arith, rules}
use Rattle.std.proofs.lemmas.List.{take_rest}
use Rattle.script.specs.Numbers.{hex_digit, byte_by, bytes_in}
use Rattle.script.proofs.Steps.{prepended, prepended-more}
use Rattle.script.proofs.hex.bytes_in.Goals as goal

-- one byte more is read from two digits
one-more : (bytes : List ℕ) (byte : ℕ) (digits : List ℕ) → 2 ≤ length digits → Some byte ≡ byte_by (hex_digit (get_or digits 0 0)) (hex_digit (get_or digits 1 0))
    → prepended (bytes ++ byte ∷ []) (bytes_in (take (length digits - 2) (drop 2 digits))) ≡ prepended bytes (bytes_in digits)
one-more bytes byte [] two e = absurd (omega arith)
one-more bytes byte (a ∷ []) two e = absurd (omega arith)
one-more bytes byte (a ∷ (b ∷ ds)) two e = simp (take_rest (a ∷ (b ∷ ds)) 2, ← prepended-more, e)

pub loop-left-preserved : goal.loop-left-preserved
loop-left-preserved c =
    let two : 2 ≤ length c.loop-left.left.now = search rules in
    simp c.in_ok-push.ensures.items (one-more c.loop-left.bytes.items c.in-Some.byte c.loop-left.left.now two c.in-Some.ensures ∙ c.loop-left.invariant)
