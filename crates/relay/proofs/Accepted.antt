-- What an accepted file has.
use Rattle.std.proofs.Common.{◌≡◌, ℕ, ◌≤◌, leb, List, Some, None, Ok, Err, Option, Result, refl, ap, ◌∙◌, subst, arith}
use Rattle.std.proofs.lemmas.Bool.{le-leb, cond-true}
use Rattle.fixed.specs.Steps.{and_then}
use Rattle.stages.specs.Kind.{Kinds}
use Rattle.stages.specs.Network.{Stand}
use Rattle.settings.specs.declared.fields.Fields.{Fields}
use Rattle.settings.specs.declared.refusal.Refusal.{Refusal}
use Rattle.settings.specs.Head.{Head, head_of}
use Rattle.verdict.specs.Loaded.{Loaded, with_bound, loaded_from, loaded_in, fields_in}
use Rattle.verdict.specs.Verdict.{wires_up_to, verdict_from}
use Rattle.verdict.proofs.Accepted.{passes-up-to, up_to}
use Rattle.relay.specs.Certificate.{rows_for, certificate_in}

-- its head and its verdict
pub record Parts (m : Kinds) (file : List ℕ) (l : Loaded) : Type 0 where
  pub head : head_of file ≡ Ok l.head
  pub bound : verdict_from m l.head ≡ Ok l.bound

pub parts : (m : Kinds) (file : List ℕ) (l : Loaded) → loaded_in m file ≡ Some l → Parts m file l
parts m file l e = by (head_of file) refl e
  where
    bound : (h : Head) (v : Result ℕ Refusal) → head_of file ≡ Ok h → verdict_from m h ≡ v → with_bound h v ≡ Some l → Parts m file l
    bound h (Ok b) p q r =
        let same : record { head = h; bound = b } ≡ l = cc in
        subst (Parts m file) same (record { head = p; bound = q })
    bound h (Err d) p q r = let z : ◌≡◌ {A = ℕ} 0 1 = cc in absurd (omega arith)

    by : (o : Result Head Refusal) → head_of file ≡ o → loaded_from m o ≡ Some l → Parts m file l
    by (Ok h) p q = bound h (verdict_from m h) p refl q
    by (Err d) p q = let z : ◌≡◌ {A = ℕ} 0 1 = cc in absurd (omega arith)

with-fields : (o : Option Loaded) (f : Fields) → ◌≡◌ {A = Option Fields} (Some f) (fields_in o) → (l : Loaded) × (o ≡ Some l) × (f ≡ l.head.header)
with-fields None f e = let z : ◌≡◌ {A = ℕ} 0 1 = cc in absurd (omega arith)
with-fields (Some l) f e = (l, refl, cc)

-- the wires after one of its stages are there, and the certificate tells them
pub record Certifies (m : Kinds) (file : List ℕ) (k places : ℕ) : Type 0 where
  pub wires : Stand
  pub found : wires_up_to m file k ≡ Ok wires
  pub rows : certificate_in m (loaded_in m file) k places ≡ rows_for places wires

pub certifies : (m : Kinds) (file : List ℕ) (f : Fields) (k places : ℕ) → ◌≡◌ {A = Option Fields} (Some f) (fields_in (loaded_in m file)) → k ≤ f.stages → Certifies m file k places
certifies m file f k places e le =
    let w = with-fields (loaded_in m file) f e in
    let l = w.0 in
    let h = l.head in
    let p = parts m file l w.1 in
    let n = ap (λ (t : Fields). t.stages) w.2 in
    let fits : k ≤ h.header.stages = omega arith in
    let st = passes-up-to m h l.bound k p.bound fits in
    record {
      wires = st.0;
      found = up_to m file h k p.head fits ∙ st.1;
      rows = ap (λ o. certificate_in m o k places) w.1 ∙ cond-true (leb k h.header.stages) _ _ (le-leb k h.header.stages fits)
          ∙ ap (λ r. and_then r (rows_for places)) st.1;
    }

pub same-wires : (x y : Stand) → ◌≡◌ {A = Result Stand Refusal} (Ok x) (Ok y) → x ≡ y
same-wires x y e = cc
