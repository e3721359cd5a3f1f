-- The law of a head.
use Rattle.std.proofs.Common.{◌≡◌, ℕ, ◌<◌, true, ◌⊎◌, List, get_or, take, drop, Some, None, Ok, Err, Result, sym, ap, ◌∙◌, subst, inl, inr, ⊎_elim, arith}
use Rattle.std.proofs.lemmas.List.FromFn.{length-map-range_with_len, get_or-map-range_with_len}
use Rattle.std.proofs.lemmas.Bool.{both_ways}
use Rattle.std.proofs.lemmas.Bool.Decides.{nat_tests}
use Rattle.fixed.specs.Wire.{Proper, no_row}
use Rattle.fixed.proofs.Chains.{then_ok, then-err}
use Rattle.fixed.proofs.Wires.{proper-out, proper-in}
use Rattle.settings.specs.declared.fields.Fields.{Fields}
use Rattle.settings.specs.declared.refusal.Refusal.{Refusal}
use Rattle.settings.specs.declared.refusal.Refusal.TheVariants.{InputWire}
use Rattle.fixed.specs.Bytes.{u16_at}
use Rattle.settings.specs.Records.{Split, split_record}
use Rattle.settings.specs.Limits.{fields_of, in_limits, Counts, Words, Times}
use Rattle.fixed.specs.Steps.{and_then}
use Rattle.settings.specs.Head.{Head, head_of, head_with, head_from, proper_input, records_of, header_record, checked_fields, first_improper, input_row, input_rows}
use Rattle.settings.specs.HeadLaw.{HeadLaw, Sound, FirstFault, header_bytes}
use Rattle.settings.proofs.Steps.{first-none, first_some}
use Rattle.settings.proofs.Heads.{records-ok, record-ok, records-err, record-err, fields-ok, fields-err}

-- the limits behind the tests
counts-in : (h : Fields) → in_limits h ≡ true → Counts h
counts-in h e = grind (arith, nat_tests)

words-in : (h : Fields) → in_limits h ≡ true → Words h
words-in h e = grind (arith, nat_tests)

times-in : (h : Fields) → in_limits h ≡ true → Times h
times-in h e = grind (arith, nat_tests)

-- the record of an accepted head
sound : (s : Split) → in_limits (fields_of s.front) ≡ true → first_improper s.front ≡ None → Sound (head_with s (fields_of s.front))
sound s e none =
    let b = s.front in
    let w = (fields_of b).word in
    let n = (fields_of b).inputs in
    let proper : (i : ℕ) → i < n → Proper w (get_or (input_rows b n) i no_row) =
    λ i h.
    let p = proper-out w (input_row b i) (first-none (proper_input b) 0 n none i (omega arith) (omega arith)) in
    subst (Proper w) (sym (get_or-map-range_with_len (input_row b) 0 n i i no_row h (omega arith))) p in
    record { counts = counts-in (fields_of b) e; words = words-in (fields_of b) e; times = times-in (fields_of b) e; many = length-map-range_with_len (input_row b) 0 n; proper = proper }

-- the record of a refused input
fault : (b : List ℕ) (i : ℕ) → first_improper b ≡ Some i → FirstFault b i
fault b i e =
    let f = first_some (proper_input b) 0 (fields_of b).inputs i e in
    record {
      counted = omega (arith, f.1);
      improper = λ p. both_ways (proper_input b i) f.2 (proper-in (fields_of b).word (input_row b i) p);
      before = λ j h. proper-out (fields_of b).word (input_row b j) (f.3 j (omega arith) h);
    }

pub head_law : (file : List ℕ) → HeadLaw file
head_law file = record { accepted = accepted; refused = refused }
  where
    accepted : (h : Head) → head_of file ≡ Ok h → Sound h
    accepted h e =
        let a = then_ok (records_of file) _ h e in
        let b = then_ok (header_record (split_record a.0)) head_from h a.2 in
        let s = b.0 in
        let c = then_ok (checked_fields s.front) _ h b.2 in
        let f = fields-ok s.front c.0 c.1 in
        let made : head_with s c.0 ≡ h = cc c.2 in
        subst Sound (ap (head_with s) (sym f.2) ∙ made) (sound s f.0 f.1)

    found : (i : ℕ) (xs : List ℕ) (s : Split) → records_of file ≡ Ok xs → header_record (split_record xs) ≡ Ok s
        → (checked_fields s.front ≡ Err (InputWire i)) ⊎ ((h : Fields) × (checked_fields s.front ≡ Ok h) × (◌≡◌ {A = Result Head Refusal} (Ok (head_with s h)) (Err (InputWire i))))
        → FirstFault (header_bytes file) i
    found i xs s p q (inl r) =
        let front = (record-ok xs s q).2 ∙ ap (λ ys. take (u16_at ys 0) (drop 2 ys)) (records-ok file xs p) in
        subst (λ b. FirstFault b i) front (fault s.front i (fields-err s.front i r))
    found i xs s p q (inr r) = let z : ◌≡◌ {A = ℕ} 0 1 = cc r.2 in absurd (omega arith)

    from : (i : ℕ) (xs : List ℕ) → records_of file ≡ Ok xs → and_then (header_record (split_record xs)) head_from ≡ Err (InputWire i)
        → FirstFault (header_bytes file) i
    from i xs p e =
        ⊎_elim
        (λ r. absurd (record-err (split_record xs) i r))
        (λ b. found i xs b.0 p b.1 (then-err (checked_fields b.0.front) (λ h. Ok (head_with b.0 h)) (InputWire i) b.2))
        (then-err (header_record (split_record xs)) head_from (InputWire i) e)

    refused : (i : ℕ) → head_of file ≡ Err (InputWire i) → FirstFault (header_bytes file) i
    refused i e =
        ⊎_elim
        (λ r. absurd (records-err file i r))
        (λ a. from i a.0 a.1 a.2)
        (then-err (records_of file) (λ xs. and_then (header_record (split_record xs)) head_from) (InputWire i) e)
