use Rattle.std.proofs.Common.{◌≡◌, ℕ, ◌+◌, ◌*◌, ◌/◌, ◌<◌, zero, suc, List, ◌∷◌, map, length, get_or, take, drop, refl, ap, ◌∙◌, ap₂, arith, rules}
use Rattle.std.specs.List.{range_with_len}
use Rattle.std.specs.Simd.{first_chunks}
use Rattle.std.proofs.lemmas.Iterator.{items_from_collect, YieldsList-from_map, YieldsList-from_slice}
use Rattle.std.proofs.lemmas.List.{drop-drop, get_or-drop, get_or-take}
use Rattle.trials.specs.Digits.{hex_digit_value, byte_in}
use Rattle.trials.proofs.bytes_in.Goals as goal

abbrev pair_value : List ℕ → ℕ
pair_value pair = 16 * hex_digit_value (get_or pair 0 0) + hex_digit_value (get_or pair 1 0)

digit-at : (line : List ℕ) (a i : ℕ) → i < 2 → get_or (take 2 (drop (2 * a) line)) i 0 ≡ get_or line (2 * a + i) 0
digit-at line a i h = get_or-take 2 (drop (2 * a) line) i 0 h ∙ get_or-drop (2 * a) line i 0

-- the pairs from byte a on
pairs-bytes : (line : List ℕ) (a n : ℕ) → map pair_value (first_chunks 2 n (drop (2 * a) line)) ≡ map (byte_in line) (range_with_len a n)
pairs-bytes line a zero = refl
pairs-bytes line a (suc n) =
    let zero' : 2 * a + 0 ≡ 2 * a = omega arith in
    let next : 2 * a + 2 ≡ 2 * (a + 1) = omega arith in
    ap₂ (λ b bs. b ∷ bs)
    (ap₂ (λ h l. 16 * hex_digit_value h + hex_digit_value l) (digit-at line a 0 (omega arith) ∙ ap (λ k. get_or line k 0) zero') (digit-at line a 1 (omega arith)))
    (ap (λ t. map pair_value (first_chunks 2 n t)) (drop-drop 2 (2 * a) line ∙ ap (λ k. drop k line) next) ∙ pairs-bytes line (a + 1) n)

pub returns : goal.returns
returns c =
    let line = c.args.line.now in
    let n = length line / 2 in
    rw (← pairs-bytes line 0 n) (items_from_collect _ c.collect.ensures.ran (YieldsList-from_map _ pair_value (YieldsList-from_slice (first_chunks 2 n line) (cc)) c.map.ensures.closure (λ x r q k. search rules)))
