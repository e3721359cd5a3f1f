-- The network's law, from the law of the kinds alone.
use Rattle.std.proofs.Common.{◌≡◌, ℕ, List, [], ◌∷◌, get_or, ℤ, Some, None, Ok, Option, sym, refl, ap, ◌∙◌, subst, arith}
use Rattle.fixed.specs.Steps.{and_then}
use Rattle.fixed.proofs.Chains.{then_ok}
use Rattle.stages.specs.Kind.{setting, Kind, Kinds, kind_of}
use Rattle.stages.specs.Containment.{Held, Given, Lawful, LawfulSet}
use Rattle.stages.specs.Network.{kind_in, Stand, stand, wires_after, wires_through, codes_through, Contained, NetworkLaw}

-- a number that is not known leads nowhere
pub lawful-at : (o : Option Kind) → ((k : Kind) → o ≡ Some k → Lawful k) → Lawful (kind_of o)
lawful-at (Some k) law = law k refl
lawful-at None law = record {
  leads = λ s xs ys g e. let z : ◌≡◌ {A = ℕ} 0 1 = cc in absurd (omega arith);
  code_counts = λ s xs ys g e cs ds n c. let z : ◌≡◌ {A = ℕ} 0 1 = cc in absurd (omega arith);
  exact_counts = λ s xs ys g e x n. let z : ◌≡◌ {A = ℕ} 0 1 = cc in absurd (omega arith);
}

pub network-law : (m : Kinds) → LawfulSet m → NetworkLaw m
network-law m law a [] st en g h stands e =
    let same : st ≡ en = cc in
    subst (Contained m a [] st) same (record {
      stands = stands;
      runs = λ cs i. (cs, refl, i);
      carries = λ x cs ds r held. let d : cs ≡ ds = cc in subst (λ (zs : List ℤ). Held st.shape.fraction x.depth st.wires zs x.values) d held;
    })
network-law m law a (b ∷ bs) st en g h stands e =
    let k = kind_in m b in
    let s = setting b a st.shape in
    let mid = then_ok (wires_after m a b st) (wires_through m a bs) en e in
    let wires = then_ok (k.wires s st.wires) (λ ys. Ok (stand (k.after s) ys)) mid.0 mid.1 in
    let ys = wires.0 in
    let at : stand (k.after s) ys ≡ mid.0 = cc wires.2 in
    let given : Given s st.wires = record { accumulator_least = g; accumulator_most = h; stands = stands } in
    let one = (lawful-at (m (get_or b 0 0)) (law (get_or b 0 0))).leads s st.wires ys given wires.1 in
    let rest = network-law m law a bs (stand (k.after s) ys) en g h one.stands (subst (λ (t : Stand). wires_through m a bs t ≡ Ok en) (sym at) mid.2) in
    record {
      stands = rest.stands;
      runs = λ cs i.
          let r = one.runs cs i in
          let t = rest.runs r.0 r.2 in
          (t.0, ap (λ o. and_then o (codes_through m a bs (k.after s))) r.1 ∙ t.1, t.2);
      carries = λ x cs ds r held.
          let t = then_ok (k.code s cs) (codes_through m a bs (k.after s)) ds r in
          rest.carries (k.exact s x) t.0 ds t.2 (one.carries x.depth cs t.0 x.values t.1 held);
    }
