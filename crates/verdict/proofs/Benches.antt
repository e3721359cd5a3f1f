-- A stage that is tried is the stage of an accepted file.
use Rattle.std.proofs.Common.{◌≡◌, ℕ, ◌+◌, ◌-◌, ◌<◌, ◌≤◌, Bool, true, false, cond, eqb, leb, List, length, ℤ, Ok, Err, Option, Result, sym, refl, ap, ◌∙◌, subst, arith}
use Rattle.std.proofs.lemmas.Bool.{le-leb, and_from, cond-true}
use Rattle.fixed.proofs.Chains.{then_ok}
use Rattle.fixed.specs.Steps.{and_then}
use Rattle.stages.specs.declared.shape.Shape.{Shape}
use Rattle.stages.specs.Kind.{Kinds}
use Rattle.stages.specs.Network.{Stand}
use Rattle.settings.specs.declared.refusal.Refusal.{Refusal}
use Rattle.settings.specs.declared.refusal.Refusal.TheVariants.{CodeCount, ShortBuffer}
use Rattle.settings.specs.Head.{Head, head_of}
use Rattle.settings.specs.Records.{Split}
use Rattle.verdict.specs.Stages.{stage_at, wires_past, wires_from}
use Rattle.verdict.specs.Verdict.{inputs_in, verdict_from, verdict_of}
use Rattle.verdict.specs.Certificate.{record_in}
use Rattle.verdict.specs.Running.{ran, codes_by}
use Rattle.verdict.specs.Bench.{shape_at, is_stage, room_for, bench_of, bench_in}
use Rattle.verdict.specs.Loaded.{loaded_in}
use Rattle.verdict.specs.Tried.{unless_refused, tried}
use Rattle.verdict.proofs.Accepted.{wires-split, passes-up-to, shape-at, verdict-from, loaded-is}

-- a stage that passes, with room
pub tried-is : (m : Kinds) (a k : ℕ) (st en : Stand) (cs : List ℤ) (places : ℕ) (o : Option Split) → wires_past m a k st o ≡ Ok en
    → tried m a k st cs places o ≡ room_for st.shape.count en.shape.count cs places (ran (codes_by m a (record_in o) st.shape cs))
tried-is m a k st en cs places o w =
    ap (λ t. cond (eqb (length cs) st.shape.count) (unless_refused t (λ z. room_for st.shape.count z.shape.count cs places (ran (codes_by m a (record_in o) st.shape cs)))) (Err CodeCount)) w
    ∙ by (eqb (length cs) st.shape.count) (cond (leb en.shape.count places) (ran (codes_by m a (record_in o) st.shape cs)) (Err ShortBuffer))
  where
    by : (t : Bool) (x : Result (List ℤ) Refusal) → cond t (cond t x (Err CodeCount)) (Err CodeCount) ≡ cond t x (Err CodeCount)
    by true x = refl
    by false x = refl

-- the tried stage is the one that a bench asks for
pub bench-is : (m : Kinds) (h : Head) (b k : ℕ) (st : Stand) (cs : List ℤ) (places : ℕ) → verdict_from m h ≡ Ok b → k < h.header.stages
    → wires_from m h.header.accumulator h.rest 0 k (inputs_in h) ≡ Ok st
    → tried m h.header.accumulator (k + 1) st cs places (stage_at h.rest k) ≡ bench_of m h (k + 1) cs places
bench-is m h b k st cs places v lt e =
    let a = h.header.accumulator in
    let o = stage_at h.rest k in
    let next = passes-up-to m h b (k + 1) v (omega arith) in
    let en = next.0 in
    let one : wires_from m a h.rest (0 + k) 1 st ≡ Ok en =
    sym (ap (λ t. and_then t (wires_from m a h.rest (0 + k) 1)) e) ∙ sym (wires-split m a h.rest 0 k 1 (inputs_in h)) ∙ next.1 in
    let zero-k : 0 + k ≡ k = omega arith in
    let here : wires_from m a h.rest k 1 st ≡ Ok en = subst (λ i. wires_from m a h.rest i 1 st ≡ Ok en) zero-k one in
    let past = then_ok (wires_past m a (k + 1) st o) (λ t. Ok t) en here in
    let same : past.0 ≡ en = cc past.2 in
    let passed : wires_past m a (k + 1) st o ≡ Ok en = past.1 ∙ ap Ok same in
    let before : st.shape ≡ shape_at m h k = sym (shape-at m h k st e) in
    let after : en.shape ≡ shape_at m h (k + 1) = sym (shape-at m h (k + 1) en next.1) in
    let index : k ≡ k + 1 - 1 = omega arith in
    let stage : is_stage h (k + 1) ≡ true = and_from _ _ (le-leb 1 (k + 1) (omega arith)) (le-leb (k + 1) h.header.stages (omega arith)) in
    tried-is m a (k + 1) st en cs places o passed
    ∙ ap (λ (s : Shape). room_for s.count en.shape.count cs places (ran (codes_by m a (record_in o) s cs))) before
    ∙ ap (λ (s : Shape). room_for (shape_at m h k).count s.count cs places (ran (codes_by m a (record_in o) (shape_at m h k) cs))) after
    ∙ ap (λ j. room_for (shape_at m h j).count (shape_at m h (k + 1)).count cs places (ran (codes_by m a (record_in (stage_at h.rest j)) (shape_at m h j) cs))) index
    ∙ sym (cond-true (is_stage h (k + 1)) _ _ stage)

pub bench-file : (m : Kinds) (file : List ℕ) (h : Head) (b k stage : ℕ) (st : Stand) (cs : List ℤ) (places : ℕ) → head_of file ≡ Ok h → verdict_of m file ≡ Ok b
    → k + 1 ≡ stage → stage ≤ h.header.stages → wires_from m h.header.accumulator h.rest 0 k (inputs_in h) ≡ Ok st
    → tried m h.header.accumulator (k + 1) st cs places (stage_at h.rest k) ≡ bench_in m (loaded_in m file) stage cs places
bench-file m file h b k stage st cs places e v n le w =
    bench-is m h b k st cs places (verdict-from m file h b e v) (omega arith) w
    ∙ ap (λ j. bench_of m h j cs places) n ∙ sym (ap (λ l. bench_in m l stage cs places) (loaded-is m file h b e v))
