use Rattle.std.proofs.Common.{◌≡◌, ◌+◌, ◌-◌, ◌^◌, ◌<◌, min, pos, sym, ap, ◌∙◌, subst, arith, w64, SFits, rules}
use lib.Count.{count_leading_zeros}
use lib.Signed.{mag}
use Rattle.std.specs.Int.{int_max, int_min}
use Rattle.std.proofs.lemmas.Int.{to_z-of_z}
use Rattle.fixed.specs.Word.{Least}
use Rattle.fixed.proofs.Words.{least-by-zeros}
use Rattle.fixed.proofs.word.length.Goals as goal

pub returns : goal.returns
returns c =
    let low = c.args.low in
    let high = c.args.high in
    let f = c.ranges.low in
    let g = c.ranges.high in
    let p : SFits w64 c.min.result = search rules in
    let q : SFits w64 c.max.result = search rules in
    let below : c.below_sign-below.result ≡ mag (int_min low (pos 0)) =
    (simp to_z-of_z at c.below_sign-below.ensures) ∙ ap mag (simp to_z-of_z at c.min.ensures.value) in
    let above : c.below_sign-above.result ≡ mag (int_max high (pos 0)) =
    (simp to_z-of_z at c.below_sign-above.ensures) ∙ ap mag (simp to_z-of_z at c.max.ensures.value) in
    let small : mag (int_min low (pos 0)) < 2 ^ 64 = omega (arith, below, c.below_sign-below.type_inv) in
    let large : mag (int_max high (pos 0)) < 2 ^ 64 = omega (arith, above, c.below_sign-above.type_inv) in
    let zeros : c.min-2.result ≡ min (count_leading_zeros 64 (mag (int_min low (pos 0)))) (count_leading_zeros 64 (mag (int_max high (pos 0)))) = cc in
    record { least = subst (λ n. Least low high (64 - n + 1)) (sym zeros) (least-by-zeros low high small large); bound = omega arith }
