-- What a stage answers, as calls tell it.
use Rattle.std.proofs.Common.{◌≡◌, ℕ, ◌≤◌, List, length, get_or, ℤ, Ok, Err, Result, sym, refl, ap, ◌∙◌, subst, arith}
use Rattle.fixed.proofs.Chains.{then_ok}
use Rattle.fixed.specs.declared.row.WireRow.{WireRow}
use Rattle.stages.specs.declared.shape.Shape.{Shape}
use Rattle.stages.specs.declared.shape.KindRefusal.{KindRefusal}
use Rattle.stages.specs.declared.shape.RunRefusal.{RunRefusal}
use Rattle.stages.specs.Kind.{setting, Kinds, map_ok}
use Rattle.stages.specs.Network.{kind_in, Stand, stand, wires_after}
use Rattle.stages.specs.Containment.{Stands, Given, LawfulSet}
use Rattle.stages.proofs.Networks.{lawful-at}
use Rattle.settings.specs.declared.refusal.Refusal.{Refusal}
use Rattle.verdict.specs.Stages.{at_stage}
use Rattle.verdict.specs.Running.{ran, codes_by}
use Rattle.verdict.proofs.Passed.{at_ok}

pub map-ok : {A B E : Type 0} (f : A → B) (r : Result A E) (y : B) → ◌≡◌ {A = Result B E} (Ok y) (map_ok f r) → (x : A) × (r ≡ Ok x) × (f x ≡ y)
map-ok f (Ok x) y e = (x, refl, cc)
map-ok f (Err d) y e = let z : ◌≡◌ {A = ℕ} 0 1 = cc in absurd (omega arith)

pub map-err : {A B E : Type 0} (f : A → B) (r : Result A E) (d : E) → ◌≡◌ {A = Result B E} (Err d) (map_ok f r) → r ≡ Err d
map-err f (Ok x) d e = let z : ◌≡◌ {A = ℕ} 0 1 = cc in absurd (omega arith)
map-err f (Err c) d e = let s : c ≡ d = cc in ap Err s

ran-ok : {A : Type 0} (r : Result A RunRefusal) (y : A) → ran r ≡ Ok y → r ≡ Ok y
ran-ok (Ok x) y e = let s : x ≡ y = cc in ap Ok s
ran-ok (Err d) y e = let z : ◌≡◌ {A = ℕ} 0 1 = cc in absurd (omega arith)

-- what a kind was given and gave, where a stage passed
passed-by : (m : Kinds) (a : ℕ) (b : List ℕ) (st en : Stand) → 16 ≤ a → a ≤ 56 → Stands st.shape st.wires
    → ◌≡◌ {A = Result Stand KindRefusal} (Ok en) (wires_after m a b st)
    → (ys : List WireRow) × Given (setting b a st.shape) st.wires × ((kind_in m b).wires (setting b a st.shape) st.wires ≡ Ok ys) × (stand ((kind_in m b).after (setting b a st.shape)) ys ≡ en)
passed-by m a b st en g h stands w =
    let s = setting b a st.shape in
    let kind = kind_in m b in
    let wires = then_ok (kind.wires s st.wires) (λ ys. Ok (stand (kind.after s) ys)) en (sym w) in
    (wires.0, record { accumulator_least = g; accumulator_most = h; stands = stands }, wires.1, cc wires.2)

-- the wires that a kind gave stand in the shape that it told
pub judged-in : (m : Kinds) → LawfulSet m → (a : ℕ) (b : List ℕ) (st : Stand) (s : Shape) (ys : List WireRow) → 16 ≤ a → a ≤ 56 → Stands st.shape st.wires
    → ◌≡◌ {A = Result Stand KindRefusal} (Ok (stand s ys)) (wires_after m a b st) → Stands s ys
judged-in m law a b st s ys g h stands w =
    let p = passed-by m a b st (stand s ys) g h stands w in
    let leads = (lawful-at (m (get_or b 0 0)) (law (get_or b 0 0))).leads (setting b a st.shape) st.wires p.0 p.1 p.2 in
    subst (λ (e : Stand). Stands e.shape e.wires) p.3 leads.stands

-- there is a code for each wire after a stage
pub codes-many : (m : Kinds) → LawfulSet m → (a k : ℕ) (b : List ℕ) (st en : Stand) (cs ds : List ℤ) → 16 ≤ a → a ≤ 56 → Stands st.shape st.wires
    → ◌≡◌ {A = Result Stand Refusal} (Ok en) (at_stage k (wires_after m a b st)) → length cs ≡ st.shape.count
    → ◌≡◌ {A = Result (List ℤ) Refusal} (Ok ds) (ran (codes_by m a b st.shape cs)) → length ds ≡ en.shape.count
codes-many m law a k b st en cs ds g h stands w many r =
    let p = passed-by m a b st en g h stands (sym (at_ok k (wires_after m a b st) en (sym w))) in
    (lawful-at (m (get_or b 0 0)) (law (get_or b 0 0))).code_counts (setting b a st.shape) st.wires p.0 p.1 p.2 cs ds many (ran-ok _ ds (sym r))
    ∙ ap (λ (t : Stand). t.shape.count) p.3
