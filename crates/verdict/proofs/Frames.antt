-- Codes along the stages of a file that pass.
use Rattle.std.proofs.Common.{◌≡◌, ℕ, zero, suc, ◌+◌, List, ℤ, Ok, Err, Option, Result, sym, refl, ap, ◌∙◌}
use Rattle.fixed.proofs.Chains.{then_ok}
use Rattle.fixed.specs.Steps.{and_then}
use Rattle.stages.specs.declared.shape.Shape.{Shape}
use Rattle.stages.specs.declared.shape.RunRefusal.{RunRefusal}
use Rattle.stages.specs.Kind.{setting, Kinds}
use Rattle.stages.specs.Network.{kind_in, Stand, stand, codes_through}
use Rattle.settings.specs.Records.{Split}
use Rattle.verdict.specs.Stages.{stage_at, wires_past, wires_from}
use Rattle.verdict.specs.Certificate.{record_in, records_from}
use Rattle.verdict.specs.Running.{Frame, frame, ran, codes_by, frame_past, frame_from}
use Rattle.verdict.proofs.Passed.{past-ok}

-- a stage that passes, and codes that run
pub frame-past : (m : Kinds) (a k : ℕ) (st en : Stand) (cs ds : List ℤ) (o : Option Split) → wires_past m a k st o ≡ Ok en
    → codes_by m a (record_in o) st.shape cs ≡ Ok ds → frame_past m a k (frame st cs) o ≡ Ok (frame en ds)
frame-past m a k st en cs ds o w r =
    ap (λ t. and_then t (λ e. and_then (ran (codes_by m a (record_in o) st.shape cs)) (λ zs. Ok (frame e zs)))) w
    ∙ ap (λ t. and_then (ran t) (λ zs. Ok (frame en zs))) r

-- a stage's wires and what follows, where it passes
shape-past : (m : Kinds) (a k : ℕ) (st en : Stand) (o : Option Split) → wires_past m a k st o ≡ Ok en
    → (kind_in m (record_in o)).after (setting (record_in o) a st.shape) ≡ en.shape
shape-past m a k st en o e =
    let b = record_in o in
    let s = setting b a st.shape in
    let wires = then_ok ((kind_in m b).wires s st.wires) (λ ys. Ok (stand ((kind_in m b).after s) ys)) en (past-ok m a k st en o e) in
    let at : stand ((kind_in m b).after s) wires.0 ≡ en = cc wires.2 in
    ap (λ (t : Stand). t.shape) at

-- where all stages pass, the codes are those of the network
pub frames-of : (m : Kinds) (a : ℕ) (xs : List ℕ) (i n : ℕ) (st en : Stand) (cs : List ℤ) → wires_from m a xs i n st ≡ Ok en
    → frame_from m a xs i n (frame st cs) ≡ and_then (ran (codes_through m a (records_from xs i n) st.shape cs)) (λ ds. Ok (frame en ds))
frames-of m a xs i zero st en cs e = let s : st ≡ en = cc in ap (λ t. Ok (frame t cs)) s
frames-of m a xs i (suc n) st en cs e =
    let b = record_in (stage_at xs i) in
    let k = kind_in m b in
    let s = setting b a st.shape in
    let mid = then_ok (wires_past m a (i + 1) st (stage_at xs i)) (wires_from m a xs (i + 1) n) en e in
    let shape = shape-past m a (i + 1) st mid.0 (stage_at xs i) mid.1 in
    ap (λ t. and_then (and_then t (λ w. and_then (ran (k.code s cs)) (λ ds. Ok (frame w ds)))) (frame_from m a xs (i + 1) n)) mid.1
    ∙ by (k.code s cs) mid.0 (k.after s) shape (λ ds. frames-of m a xs (i + 1) n mid.0 en ds mid.2)
  where
    by : (c : Result (List ℤ) RunRefusal) (t : Stand) (sh : Shape) → sh ≡ t.shape
        → ((ds : List ℤ) → frame_from m a xs (i + 1) n (frame t ds) ≡ and_then (ran (codes_through m a (records_from xs (i + 1) n) t.shape ds)) (λ zs. Ok (frame en zs)))
        → and_then (and_then (ran c) (λ ds. Ok (frame t ds))) (frame_from m a xs (i + 1) n)
        ≡ and_then (ran (and_then c (codes_through m a (records_from xs (i + 1) n) sh))) (λ zs. Ok (frame en zs))
    by (Ok ds) t sh same rest = rest ds ∙ ap (λ (h : Shape). and_then (ran (codes_through m a (records_from xs (i + 1) n) h ds)) (λ zs. Ok (frame en zs))) (sym same)
    by (Err r) t sh same rest = refl

-- codes that came through did so along wires that pass
pub wires-of : (m : Kinds) (a : ℕ) (xs : List ℕ) (i n : ℕ) (st : Stand) (cs : List ℤ) (fr : Frame)
    → frame_from m a xs i n (frame st cs) ≡ Ok fr → wires_from m a xs i n st ≡ Ok fr.at
wires-of m a xs i zero st cs fr e = let s : frame st cs ≡ fr = cc in ap (λ (f : Frame). Ok f.at) s
wires-of m a xs i (suc n) st cs fr e =
    let o = stage_at xs i in
    let mid = then_ok (frame_past m a (i + 1) (frame st cs) o) (frame_from m a xs (i + 1) n) fr e in
    let wires = then_ok (wires_past m a (i + 1) st o) (λ w. and_then (ran (codes_by m a (record_in o) st.shape cs)) (λ ds. Ok (frame w ds))) mid.0 mid.1 in
    let codes = then_ok (ran (codes_by m a (record_in o) st.shape cs)) (λ ds. Ok (frame wires.0 ds)) mid.0 wires.2 in
    let at : frame wires.0 codes.0 ≡ mid.0 = cc codes.2 in
    let rest = wires-of m a xs (i + 1) n wires.0 codes.0 fr (ap (frame_from m a xs (i + 1) n) at ∙ mid.2) in
    ap (λ t. and_then t (wires_from m a xs (i + 1) n)) wires.1 ∙ rest
