-- Stages that pass, as a list of records.
use Rattle.std.proofs.Common.{◌≡◌, ℕ, zero, suc, ◌+◌, List, [], ◌∷◌, Some, None, Ok, Err, Option, Result, ap, ◌∙◌, arith}
use Rattle.fixed.proofs.Chains.{then_ok}
use Rattle.fixed.specs.Steps.{and_then}
use Rattle.stages.specs.declared.shape.KindRefusal.{KindRefusal}
use Rattle.stages.specs.Kind.{setting, Kinds}
use Rattle.stages.specs.Network.{kind_in, Stand, stand, wires_after, wires_through}
use Rattle.settings.specs.Records.{Split}
use Rattle.verdict.specs.Stages.{stage_at, at_stage, wires_past, wires_from}
use Rattle.verdict.specs.Certificate.{record_in, records_from, shape_through}

pub at_ok : {A : Type 0} (k : ℕ) (r : Result A KindRefusal) (y : A) → at_stage k r ≡ Ok y → r ≡ Ok y
at_ok k (Ok x) y e = let s : x ≡ y = cc in ap Ok s
at_ok k (Err d) y e = let z : ◌≡◌ {A = ℕ} 0 1 = cc in absurd (omega arith)

pub past-ok : (m : Kinds) (a k : ℕ) (st en : Stand) (o : Option Split) → wires_past m a k st o ≡ Ok en → wires_after m a (record_in o) st ≡ Ok en
past-ok m a k st en None e = let z : ◌≡◌ {A = ℕ} 0 1 = cc in absurd (omega arith)
past-ok m a k st en (Some s) e = at_ok k (wires_after m a s.front st) en e

-- the stages of a file that pass are those of its network
pub through : (m : Kinds) (a : ℕ) (xs : List ℕ) (i n : ℕ) (st en : Stand) → wires_from m a xs i n st ≡ Ok en → wires_through m a (records_from xs i n) st ≡ Ok en
through m a xs i zero st en e = let s : st ≡ en = cc in ap Ok s
through m a xs i (suc n) st en e =
    let mid = then_ok (wires_past m a (i + 1) st (stage_at xs i)) (wires_from m a xs (i + 1) n) en e in
    ap (λ r. and_then r (wires_through m a (records_from xs (i + 1) n))) (past-ok m a (i + 1) st mid.0 (stage_at xs i) mid.1)
    ∙ through m a xs (i + 1) n mid.0 en mid.2

-- wires that lead through end in the shape after
pub shape-through : (m : Kinds) (a : ℕ) (bs : List (List ℕ)) (st en : Stand) → wires_through m a bs st ≡ Ok en → shape_through m a bs st.shape ≡ en.shape
shape-through m a [] st en e = let s : st ≡ en = cc in ap (λ (t : Stand). t.shape) s
shape-through m a (b ∷ bs) st en e =
    let k = kind_in m b in
    let s = setting b a st.shape in
    let mid = then_ok (wires_after m a b st) (wires_through m a bs) en e in
    let wires = then_ok (k.wires s st.wires) (λ ys. Ok (stand (k.after s) ys)) mid.0 mid.1 in
    let at : stand (k.after s) wires.0 ≡ mid.0 = cc wires.2 in
    ap (λ (t : Stand). shape_through m a bs t.shape) at ∙ shape-through m a bs mid.0 en mid.2
