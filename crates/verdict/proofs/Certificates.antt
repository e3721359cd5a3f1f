-- The certificate of an accepted file, from the law of the kinds alone.
use Rattle.std.proofs.Common.{◌≡◌, ℕ, ◌≤◌, Bool, true, false, cond, eqb, leb, List, [], ◌∷◌, length, get_or, ℤ, Ok, Err, Result, sym, refl, ap, ◌∙◌, subst, arith}
use Rattle.std.proofs.lemmas.Bool.{eqb-true, leb-true}
use Rattle.fixed.specs.Wire.{no_row}
use Rattle.fixed.specs.declared.row.WireRow.{WireRow}
use Rattle.fixed.proofs.Chains.{then_ok}
use Rattle.stages.specs.declared.shape.Shape.{Shape}
use Rattle.stages.specs.Kind.{Kinds}
use Rattle.stages.specs.Containment.{Inside, Held, Within, Sized, LawfulSet}
use Rattle.stages.specs.Network.{Stand, wires_through}
use Rattle.stages.proofs.Networks.{network-law}
use Rattle.settings.specs.declared.fields.Fields.{Fields}
use Rattle.settings.specs.declared.refusal.Refusal.{Refusal}
use Rattle.settings.specs.declared.refusal.Refusal.TheVariants.{TrailingBytes, OutputCount, AllowedError}
use Rattle.settings.specs.Head.{Head, head_of}
use Rattle.settings.specs.HeadLaw.{Sound}
use Rattle.settings.proofs.HeadLaws.{head_law}
use Rattle.verdict.specs.Stages.{from_stage, wires_from}
use Rattle.verdict.specs.Verdict.{inputs_in, ended, bound_in, closed, verdict_from, verdict_of}
use Rattle.verdict.specs.Certificate.{network_in, output_shape, output_exact, Certified, Certificate}
use Rattle.verdict.proofs.Heads.{inputs-stand}
use Rattle.verdict.proofs.Passed.{through, shape-through}

-- what the last checks say of an accepted file
closed-ok : (h : Fields) (xs : List ℕ) (en : Stand) (b : ℕ) → closed h xs en ≡ Ok b → (en.shape.count ≡ 1) × (bound_in en ≡ b) × (bound_in en ≤ h.allowed_error)
closed-ok h xs en b e = by (ended (from_stage xs h.stages)) (eqb en.shape.count 1) (leb (bound_in en) h.allowed_error) refl refl e
  where
    by : (s t u : Bool) → eqb en.shape.count 1 ≡ t → leb (bound_in en) h.allowed_error ≡ u
        → cond s (cond t (cond u (Ok (bound_in en)) (Err (AllowedError h.stages))) (Err (OutputCount h.stages))) (Err (TrailingBytes h.stages)) ≡ Ok b
        → (en.shape.count ≡ 1) × (bound_in en ≡ b) × (bound_in en ≤ h.allowed_error)
    by true true true p q o = (eqb-true _ _ p, cc, leb-true _ _ q)
    by true true false p q o = let z : ◌≡◌ {A = ℕ} 0 1 = cc in absurd (omega arith)
    by true false u p q o = let z : ◌≡◌ {A = ℕ} 0 1 = cc in absurd (omega arith)
    by false t u p q o = let z : ◌≡◌ {A = ℕ} 0 1 = cc in absurd (omega arith)

-- one wire holds one code
inside_one : (ws : List WireRow) (ds : List ℤ) → length ws ≡ 1 → Inside ws ds → (c : ℤ) × (ds ≡ c ∷ [])
inside_one [] ds n i = absurd (omega arith)
inside_one (w ∷ []) [] n i = absurd i
inside_one (w ∷ []) (c ∷ []) n i = (c, refl)
inside_one (w ∷ []) (c ∷ d ∷ ds) n i = absurd i.1
inside_one (w ∷ v ∷ ws) ds n i = absurd (omega arith)

-- and one exact value, within its error
held_one : (f d : ℕ) (ws : List WireRow) (c : ℤ) (Xs : List ℤ) → length ws ≡ 1 → Held f d ws (c ∷ []) Xs
    → (X : ℤ) × (Xs ≡ X ∷ []) × Within f d (get_or ws 0 no_row).error c X
held_one f d [] c Xs n h = absurd (omega arith)
held_one f d (w ∷ []) c [] n h = absurd h
held_one f d (w ∷ []) c (X ∷ []) n h = (X, refl, h.1)
held_one f d (w ∷ []) c (X ∷ Y ∷ Xs) n h = absurd h.2
held_one f d (w ∷ v ∷ ws) c Xs n h = absurd (omega arith)

certified : (m : Kinds) → LawfulSet m → (h : Head) → Sound h → (en : Stand)
    → wires_through m h.header.accumulator (network_in h) (inputs_in h) ≡ Ok en → en.shape.count ≡ 1 → bound_in en ≤ h.header.allowed_error
    → Certified m h (bound_in en)
certified m law h sound en e one le =
    let a = h.header.accumulator in
    let net = network-law m law a (network_in h) (inputs_in h) en sound.words.1 sound.words.2 (inputs-stand h sound) e in
    let shape : en.shape ≡ output_shape m h = sym (shape-through m a (network_in h) (inputs_in h) en e) in
    let single : length en.wires ≡ 1 = net.stands.many ∙ one in
    record {
      allowed = le;
      output = (subst Sized shape net.stands.sized, sym (ap (λ (s : Shape). s.count) shape) ∙ one);
      runs = λ cs i.
          let r = net.runs cs i in
          let c = inside_one en.wires r.0 single r.2 in
          (c.0, r.1 ∙ ap Ok c.1);
      holds = λ x cs c r held.
          let t = held_one en.shape.fraction (output_exact m h x).depth en.wires c (output_exact m h x).values single (net.carries x cs (c ∷ []) r held) in
          (t.0, t.1, subst (λ (s : Shape). Within s.fraction (output_exact m h x).depth (bound_in en) c t.0) shape t.2);
    }

-- an answer that is the verdict has a certificate
pub certificate : (m : Kinds) → LawfulSet m → (file : List ℕ) (r : Result ℕ Refusal) → r ≡ verdict_of m file → Certificate m file r
certificate m law file (Err e) p = tt
certificate m law file (Ok b) p =
    let head = then_ok (head_of file) (verdict_from m) b (sym p) in
    let h = head.0 in
    let last = then_ok (wires_from m h.header.accumulator h.rest 0 h.header.stages (inputs_in h)) (closed h.header h.rest) b head.2 in
    let en = last.0 in
    let checks = closed-ok h.header h.rest en b last.2 in
    let net = through m h.header.accumulator h.rest 0 h.header.stages (inputs_in h) en last.1 in
    (h, head.1, subst (Certified m h) checks.1 (certified m law h ((head_law file).accepted h head.1) en net checks.0 checks.2))
