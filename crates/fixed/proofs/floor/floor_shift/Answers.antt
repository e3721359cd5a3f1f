use Rattle.std.proofs.Common.{◌^◌, sym, subst, arith, pow_pos, w64, SFits}
use lib.Signed.{mag_shr}
use Rattle.std.proofs.lemmas.Int.{to_z-of_z}
use Rattle.fixed.specs.Floor.{floor_shift, Floors}
use Rattle.fixed.proofs.Floors.{floors, shift_same}
use Rattle.fixed.proofs.floor.floor_shift.Goals as goal

pub returns : goal.returns
returns c =
    let z = c.args.value in
    let j = c.min.result in
    let k = c.args.places in
    let f = c.ranges.value in
    let e = shift_same z 63 j k f.sfits (omega arith) in
    let g : SFits w64 (floor_shift z j) = record { sfits = omega (arith, mag_shr z (2 ^ j), f.sfits) } in
    record { value = simp to_z-of_z e; floors = simp to_z-of_z (subst (Floors z (2 ^ k)) (sym e) (floors z (2 ^ k) (pow_pos k))) }
