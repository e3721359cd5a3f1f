use Rattle.std.proofs.Common.{rules, length, ap, ◌∙◌, arith}
use Rattle.std.proofs.lemmas.List.FromFn.{length-map-range_with_len, map-range_with_len_more}
use Rattle.settings.specs.Head.{input_row}
use Rattle.settings.proofs.inputs.inputs_in.Goals as goal

pub push-requires : goal.push-requires
push-requires c =
    let n = ap length c.loop-i.invariant ∙ length-map-range_with_len (input_row c.args.bytes.now) 0 c.loop-i.i in omega (arith, n)

pub loop-i-preserved : goal.loop-i-preserved
loop-i-preserved c = let m = map-range_with_len_more (input_row c.args.bytes.now) 0 c.loop-i.i c.loop-i.i (omega arith) in search rules
