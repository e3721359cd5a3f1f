use Rattle.std.proofs.Common.{◌≡◌, arith, w64, SFits, rules}
use Rattle.std.proofs.lemmas.Int.{to_z-of_z}
use Rattle.fixed.proofs.Scales.{unit-is, scaled_fits}
use Rattle.fixed.proofs.format.makes.scaled.Goals as goal

pub overflow_mul-result : goal.overflow_mul-result
overflow_mul-result c =
    let k = c.args.places in
    let f = c.ranges.code in
    let e : c.from.result ≡ c.args.code = simp to_z-of_z at c.from.ensures in
    let g : SFits w64 c.from.result = search rules in
    rw (to_z-of_z w64 c.from.result g, unit-is k (omega arith), e) (scaled_fits c.args.code k f.sfits (omega arith))

pub returns : goal.returns
returns c =
    let k = c.args.places in
    let f = c.ranges.code in
    let e : c.from.result ≡ c.args.code = simp to_z-of_z at c.from.ensures in
    let g : SFits w64 c.from.result = search rules in
    let p = scaled_fits c.args.code k f.sfits (omega arith) in
    rw (to_z-of_z w64 c.from.result g, unit-is k (omega arith), e) (to_z-of_z w64 _ p)
