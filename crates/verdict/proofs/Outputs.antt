-- The pass of a frame is its output, where the file is accepted.
use Rattle.std.proofs.Common.{◌≡◌, ℕ, List, ℤ, Some, None, Ok, Err, Option, Result, sym, refl, ap, ◌∙◌, subst, arith}
use Rattle.fixed.proofs.Chains.{then_ok}
use Rattle.fixed.specs.Steps.{and_then}
use Rattle.stages.specs.declared.shape.Shape.{Shape}
use Rattle.stages.specs.declared.shape.RunRefusal.{RunRefusal}
use Rattle.stages.specs.Kind.{Kinds}
use Rattle.stages.specs.Network.{Stand}
use Rattle.settings.specs.declared.refusal.Refusal.{Refusal}
use Rattle.settings.specs.Head.{Head, head_of}
use Rattle.verdict.specs.declared.output.Output.{Output}
use Rattle.verdict.specs.Stages.{wires_from}
use Rattle.verdict.specs.Verdict.{inputs_in, closed, verdict_from}
use Rattle.verdict.specs.Certificate.{network_in, output_shape, output_codes}
use Rattle.verdict.specs.Running.{frame, ran, frame_from}
use Rattle.verdict.specs.Loaded.{Loaded, with_bound, loaded_from, loaded_in, unless_none}
use Rattle.verdict.specs.Output.{frame_fault, output_with, unless_fault, output_in}
use Rattle.verdict.specs.Pass.{closed_frame, frame_pass}
use Rattle.verdict.proofs.Passed.{through, shape-through}
use Rattle.verdict.proofs.Frames.{frames-of, wires-of}

-- a refusal of the pass is told where there is a file
abbrev pub settled : Option Loaded → Result Output Refusal → Result Output Refusal
settled o (Ok x) = Ok x
settled o (Err e) = Err (unless_none o e)

passing : (m : Kinds) (h : Head) (cs : List ℤ) (en : Stand) (v : Result ℕ Refusal) (r : Result (List ℤ) RunRefusal) → frame_fault h.inputs cs ≡ None
    → output_codes m h cs ≡ r → output_shape m h ≡ en.shape
    → output_in m (with_bound h v) cs
    ≡ settled (with_bound h v) (and_then (and_then (ran r) (λ ds. Ok (frame en ds))) (λ fr. and_then v (λ b. Ok (output_with h.header fr.at.shape fr.codes))))
passing m h cs en (Err e) (Ok ds) f p q = refl
passing m h cs en (Err e) (Err d) f p q = refl
passing m h cs en (Ok b) r f p q =
    ap (λ o. unless_fault o (and_then (ran (output_codes m h cs)) (λ ds. Ok (output_with h.header (output_shape m h) ds)))) f
    ∙ ap (λ c. and_then (ran c) (λ ds. Ok (output_with h.header (output_shape m h) ds))) p
    ∙ by r (output_shape m h) q
  where
    by : (c : Result (List ℤ) RunRefusal) (s : Shape) → s ≡ en.shape
        → and_then (ran c) (λ ds. Ok (output_with h.header s ds))
        ≡ settled (with_bound h (Ok b)) (and_then (and_then (ran c) (λ ds. Ok (frame en ds))) (λ fr. Ok (output_with h.header fr.at.shape fr.codes)))
    by (Ok ds) s same = ap (λ (t : Shape). Ok (output_with h.header t ds)) same
    by (Err d) s same = refl

pub pass-is-output : (m : Kinds) (h : Head) (cs : List ℤ) → frame_fault h.inputs cs ≡ None
    → output_in m (loaded_from m (Ok h)) cs ≡ settled (loaded_from m (Ok h)) (frame_pass m h.header h.rest (frame (inputs_in h) cs))
pass-is-output m h cs fault = by (wires_from m a h.rest 0 n (inputs_in h)) refl
  where
    a : ℕ
    a = h.header.accumulator

    n : ℕ
    n = h.header.stages

    by : (w : Result Stand Refusal) → wires_from m h.header.accumulator h.rest 0 h.header.stages (inputs_in h) ≡ w
        → output_in m (loaded_from m (Ok h)) cs ≡ settled (loaded_from m (Ok h)) (frame_pass m h.header h.rest (frame (inputs_in h) cs))
    by (Ok en) e =
        let acc = h.header.accumulator in
        let v : verdict_from m h ≡ closed h.header h.rest en = ap (λ w. and_then w (closed h.header h.rest)) e in
        let f = frames-of m acc h.rest 0 h.header.stages (inputs_in h) en cs e in
        let s = shape-through m acc (network_in h) (inputs_in h) en (through m acc h.rest 0 h.header.stages (inputs_in h) en e) in
        ap (λ r. output_in m (with_bound h r) cs) v
        ∙ passing m h cs en (closed h.header h.rest en) (output_codes m h cs) fault refl s
        ∙ sym (ap (λ r. settled (with_bound h r) (frame_pass m h.header h.rest (frame (inputs_in h) cs))) v
        ∙ ap (λ p. settled (with_bound h (closed h.header h.rest en)) (and_then p (closed_frame h.header h.rest))) f
        ∙ again en (output_codes m h cs))
      where
        again : (en : Stand) (r : Result (List ℤ) RunRefusal)
            → settled (with_bound h (closed h.header h.rest en)) (and_then (and_then (ran r) (λ ds. Ok (frame en ds))) (closed_frame h.header h.rest))
            ≡ settled (with_bound h (closed h.header h.rest en)) (and_then (and_then (ran r) (λ ds. Ok (frame en ds))) (λ fr. and_then (closed h.header h.rest en) (λ b. Ok (output_with h.header fr.at.shape fr.codes))))
        again en (Ok ds) = refl
        again en (Err d) = refl
    by (Err d) e =
        let v : verdict_from m h ≡ Err d = ap (λ w. and_then w (closed h.header h.rest)) e in
        ap (λ r. output_in m (with_bound h r) cs) v ∙ none (frame_pass m h.header h.rest (frame (inputs_in h) cs)) refl
        ∙ ap (λ r. settled (with_bound h r) (frame_pass m h.header h.rest (frame (inputs_in h) cs))) (sym v)
      where
        none : (p : Result Output Refusal) → frame_pass m h.header h.rest (frame (inputs_in h) cs) ≡ p → output_in m None cs ≡ settled None p
        none (Err x) q = refl
        none (Ok x) q =
            let fr = then_ok (frame_from m h.header.accumulator h.rest 0 h.header.stages (frame (inputs_in h) cs)) (closed_frame h.header h.rest) x q in
            let w = wires-of m h.header.accumulator h.rest 0 h.header.stages (inputs_in h) cs fr.0 fr.1 in
            let z : ◌≡◌ {A = ℕ} 0 1 = cc (w, e) in absurd (omega arith)

-- a fault of the codes is told where there is a file
pub fault-is-output : (m : Kinds) (h : Head) (cs : List ℤ) (e : Refusal) → frame_fault h.inputs cs ≡ Some e
    → output_in m (loaded_from m (Ok h)) cs ≡ Err (unless_none (loaded_from m (Ok h)) e)
fault-is-output m h cs e fault = by (verdict_from m h)
  where
    by : (v : Result ℕ Refusal) → output_in m (with_bound h v) cs ≡ Err (unless_none (with_bound h v) e)
    by (Ok b) = ap (λ o. unless_fault o (and_then (ran (output_codes m h cs)) (λ ds. Ok (output_with h.header (output_shape m h) ds)))) fault
    by (Err d) = refl

-- the pass of a frame, or its fault, settles the output
pub pass-settles : (m : Kinds) (file : List ℕ) (h : Head) (cs : List ℤ) → Ok h ≡ head_of file
    → settled (loaded_in m file) (unless_fault (frame_fault h.inputs cs) (frame_pass m h.header h.rest (frame (inputs_in h) cs))) ≡ output_in m (loaded_in m file) cs
pass-settles m file h cs e =
    let pass = frame_pass m h.header h.rest (frame (inputs_in h) cs) in
    subst (λ (o : Result Head Refusal). settled (loaded_from m o) (unless_fault (frame_fault h.inputs cs) pass) ≡ output_in m (loaded_from m o) cs) e
    (by (frame_fault h.inputs cs) refl)
  where
    by : (o : Option Refusal) → frame_fault h.inputs cs ≡ o
        → settled (loaded_from m (Ok h)) (unless_fault (frame_fault h.inputs cs) (frame_pass m h.header h.rest (frame (inputs_in h) cs))) ≡ output_in m (loaded_from m (Ok h)) cs
    by None p = ap (λ o. settled (loaded_from m (Ok h)) (unless_fault o (frame_pass m h.header h.rest (frame (inputs_in h) cs)))) p ∙ sym (pass-is-output m h cs p)
    by (Some r) p = ap (λ o. settled (loaded_from m (Ok h)) (unless_fault o (frame_pass m h.header h.rest (frame (inputs_in h) cs)))) p ∙ sym (fault-is-output m h cs r p)
