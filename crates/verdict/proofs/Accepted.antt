-- The stages of an accepted file, up to any of them.
use Rattle.std.proofs.Common.{◌≡◌, ℕ, zero, suc, ◌+◌, ◌-◌, ◌≤◌, Bool, true, false, cond, ltb, List, Some, Ok, Err, Result, sym, refl, ap, ◌∙◌, add-zero, zero-add, arith}
use Rattle.std.proofs.lemmas.Bool.{ltb-false}
use Rattle.fixed.proofs.Chains.{then_ok}
use Rattle.fixed.specs.Steps.{and_then}
use Rattle.stages.specs.Kind.{Kinds}
use Rattle.stages.specs.Network.{Stand}
use Rattle.settings.specs.declared.refusal.Refusal.{Refusal}
use Rattle.settings.specs.Head.{Head, head_of}
use Rattle.verdict.specs.Stages.{stage_at, wires_past, wires_from}
use Rattle.verdict.specs.Verdict.{inputs_in, closed, wires_up_to, verdict_from, verdict_of}
use Rattle.verdict.specs.Certificate.{records_from}
use Rattle.verdict.specs.Bench.{shape_at}
use Rattle.verdict.specs.Loaded.{with_bound, loaded_from, loaded_in}
use Rattle.verdict.proofs.Passed.{through, shape-through}

-- the stages of a file in two parts
pub wires-split : (m : Kinds) (a : ℕ) (xs : List ℕ) (i j l : ℕ) (st : Stand)
    → wires_from m a xs i (j + l) st ≡ and_then (wires_from m a xs i j st) (wires_from m a xs (i + j) l)
wires-split m a xs i zero l st = rw (zero-add, add-zero)
wires-split m a xs i (suc j) l st =
    let e : suc j + l ≡ suc (j + l) = omega arith in
    let h : i + suc j ≡ (i + 1) + j = omega arith in
    rw (e, h) (by (wires_past m a (i + 1) st (stage_at xs i)) (wires-split m a xs (i + 1) j l))
  where
    by : (o : Result Stand Refusal) → ((t : Stand) → wires_from m a xs (i + 1) (j + l) t ≡ and_then (wires_from m a xs (i + 1) j t) (wires_from m a xs ((i + 1) + j) l))
        → and_then o (wires_from m a xs (i + 1) (j + l)) ≡ and_then (and_then o (wires_from m a xs (i + 1) j)) (wires_from m a xs ((i + 1) + j) l)
    by (Ok t) f = f t
    by (Err d) f = refl

-- the first stages of an accepted file pass
pub passes-up-to : (m : Kinds) (h : Head) (b k : ℕ) → verdict_from m h ≡ Ok b → k ≤ h.header.stages
    → (st : Stand) × (wires_from m h.header.accumulator h.rest 0 k (inputs_in h) ≡ Ok st)
passes-up-to m h b k v le =
    let a = h.header.accumulator in
    let n = h.header.stages in
    let all = then_ok (wires_from m a h.rest 0 n (inputs_in h)) (closed h.header h.rest) b v in
    let sum : n ≡ k + (n - k) = omega arith in
    let parts = sym (wires-split m a h.rest 0 k (n - k) (inputs_in h)) ∙ ap (λ j. wires_from m a h.rest 0 j (inputs_in h)) (sym sum) ∙ all.1 in
    let mid = then_ok (wires_from m a h.rest 0 k (inputs_in h)) (wires_from m a h.rest (0 + k) (n - k)) all.0 parts in
    (mid.0, mid.1)

-- what stands after them
pub shape-at : (m : Kinds) (h : Head) (k : ℕ) (st : Stand) → wires_from m h.header.accumulator h.rest 0 k (inputs_in h) ≡ Ok st → shape_at m h k ≡ st.shape
shape-at m h k st e =
    let a = h.header.accumulator in
    shape-through m a (records_from h.rest 0 k) (inputs_in h) st (through m a h.rest 0 k (inputs_in h) st e)

-- the wires after the first k stages, as a file has them
pub up_to : (m : Kinds) (file : List ℕ) (h : Head) (k : ℕ) → head_of file ≡ Ok h → k ≤ h.header.stages
    → wires_up_to m file k ≡ wires_from m h.header.accumulator h.rest 0 k (inputs_in h)
up_to m file h k e le =
    ap (λ r. and_then r (λ t. wires_from m t.header.accumulator t.rest 0 (cond (ltb k t.header.stages) k t.header.stages) (inputs_in t))) e
    ∙ ap (λ j. wires_from m h.header.accumulator h.rest 0 j (inputs_in h)) (by (ltb k h.header.stages) refl)
  where
    by : (t : Bool) → ltb k h.header.stages ≡ t → cond t k h.header.stages ≡ k
    by true p = refl
    by false p = let g = ltb-false k h.header.stages p in omega arith

-- an accepted file holds its head and its bound
pub verdict-from : (m : Kinds) (file : List ℕ) (h : Head) (b : ℕ) → head_of file ≡ Ok h → verdict_of m file ≡ Ok b → verdict_from m h ≡ Ok b
verdict-from m file h b e v = sym (ap (λ r. and_then r (verdict_from m)) e) ∙ v

pub loaded-is : (m : Kinds) (file : List ℕ) (h : Head) (b : ℕ) → head_of file ≡ Ok h → verdict_of m file ≡ Ok b
    → loaded_in m file ≡ Some (record { head = h; bound = b })
loaded-is m file h b e v = ap (loaded_from m) e ∙ ap (with_bound h) (verdict-from m file h b e v)

-- no stage of an accepted file is refused
pub none-refused : (m : Kinds) (file : List ℕ) (h : Head) (b k : ℕ) (d : Refusal) → head_of file ≡ Ok h → verdict_of m file ≡ Ok b → k ≤ h.header.stages
    → wires_from m h.header.accumulator h.rest 0 k (inputs_in h) ≡ Err d → ⊥
none-refused m file h b k d e v le w =
    let p = passes-up-to m h b k (verdict-from m file h b e v) le in
    let q : ◌≡◌ {A = Result Stand Refusal} (Ok p.0) (Err d) = sym p.1 ∙ w in
    let z : ◌≡◌ {A = ℕ} 0 1 = cc in omega arith
