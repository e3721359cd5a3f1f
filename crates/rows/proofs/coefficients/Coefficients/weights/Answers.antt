use Rattle.std.proofs.Common.{ℤ, List, [], ◌∷◌, ◌++◌, ◌+◌, ◌*◌, ◌∙◌, sym, ap₂, arith, rules, w32, SFits}
use Rattle.std.proofs.lemmas.Int.{to_z-of_z}
use Rattle.std.proofs.lemmas.List.FromFn.{map-range_with_len_more}
use Rattle.rows.specs.Layout.{number_at}
use Rattle.rows.proofs.coefficients.Coefficients.weights.Goals as goal

pub loop-j-preserved : goal.loop-j-preserved
loop-j-preserved c =
    let f : SFits w32 c.weight.result = search rules in
    let more = map-range_with_len_more (λ i. number_at c.args.self.now.bytes.now (c.args.output * c.args.self.now.layout.stride + i)) 0 c.loop-j.j c.loop-j.j (omega arith) in
    let pushed = simp to_z-of_z at c.push.ensures.items in
    (omega arith, pushed ∙ ap₂ (λ (xs : List ℤ) (w : ℤ). xs ++ w ∷ []) c.loop-j.invariant.1 c.weight.ensures ∙ sym more)
