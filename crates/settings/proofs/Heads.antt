-- The parts of an accepted head.
use Rattle.std.proofs.Common.{◌≡◌, ℕ, ◌+◌, ◌*◌, ◌≤◌, Bool, true, false, cond, List, length, get_or, take, drop, Some, None, Ok, Err, Option, Result, sym, refl, ap, ◌∙◌, subst, ap₂, arith, length-drop, length-take}
use Rattle.std.proofs.lemmas.List.{drop-drop}
use Rattle.std.proofs.lemmas.Bool.Decides.{nat_tests}
use Rattle.fixed.specs.declared.row.WireRow.{WireRow}
use Rattle.settings.specs.declared.fields.Fields.{Fields}
use Rattle.settings.specs.declared.refusal.Refusal.{Refusal}
use Rattle.settings.specs.declared.refusal.Refusal.TheVariants.{HeaderLength, HeaderField, InputWire}
use Rattle.fixed.specs.Bytes.{u16_at}
use Rattle.settings.specs.Records.{Split, split_record}
use Rattle.settings.specs.Limits.{fields_of, in_limits}
use Rattle.fixed.specs.Steps.{and_then}
use Rattle.settings.specs.Head.{input_rows, is_header, records_of, header_record, first_improper, unless_improper, limited_fields, checked_inputs, checked_fields, head_with, head_from, head_of}

pub records-ok : (file xs : List ℕ) → records_of file ≡ Ok xs → xs ≡ drop 1 file
records-ok file xs e = grind (arith, nat_tests)

-- a test that stands before a refusal
passed : {A E : Type 0} (t : Bool) (r : Result A E) (e : E) (y : A) → cond t r (Err e) ≡ Ok y → (t ≡ true) × (r ≡ Ok y)
passed true r e y p = (refl, p)
passed false r e y p = let z : ◌≡◌ {A = ℕ} 0 1 = cc in absurd (omega arith)

split-passed : (t : Bool) (s y : Split) → header_record (cond t (Some s) None) ≡ Ok y → (t ≡ true) × (is_header s.front ≡ true) × (s ≡ y)
split-passed true s y p = let q = passed (is_header s.front) (Ok s) HeaderLength y p in (refl, q.0, cc q.1)
split-passed false s y p = let z : ◌≡◌ {A = ℕ} 0 1 = cc in absurd (omega arith)

-- a header record is whole, and the rest begins after it
abbrev pub Whole : List ℕ → Split → Type 0
Whole xs s =
    (length s.front ≡ 21 + 12 * get_or s.front 0 0) × (s.rest ≡ drop (2 + length s.front) xs)
    × (s.front ≡ take (u16_at xs 0) (drop 2 xs))

pub record-ok : (xs : List ℕ) (s : Split) → header_record (split_record xs) ≡ Ok s → Whole xs s
record-ok xs s e =
    let n = u16_at xs 0 in
    let q = split-passed _ (record { front = take n (drop 2 xs); rest = drop (2 + n) xs }) s e in
    let h : 2 + n ≤ length xs = grind (arith, nat_tests, q.0) in
    let long : length (take n (drop 2 xs)) ≡ n = simp (length-take, length-drop) (omega arith) in
    subst (Whole xs) q.2 (grind (arith, nat_tests, q.1), ap (λ k. drop (2 + k) xs) (sym long), refl)

pub records-err : (file : List ℕ) (i : ℕ) → records_of file ≡ Err (InputWire i) → ⊥
records-err file i e = grind (arith, nat_tests)

pub record-err : (o : Option Split) (i : ℕ) → header_record o ≡ Err (InputWire i) → ⊥
record-err None i e = let z : ◌≡◌ {A = ℕ} 0 1 = cc in omega arith
record-err (Some s) i e = grind (arith, nat_tests)

pub fields-ok : (b : List ℕ) (h : Fields) → checked_fields b ≡ Ok h → (in_limits (fields_of b) ≡ true) × (first_improper b ≡ None) × (h ≡ fields_of b)
fields-ok b h e = by (in_limits (fields_of b)) (first_improper b) refl refl e
  where
    by : (t : Bool) (o : Option ℕ) → in_limits (fields_of b) ≡ t → first_improper b ≡ o
        → cond t (unless_improper o (fields_of b)) (Err HeaderField) ≡ Ok h → (in_limits (fields_of b) ≡ true) × (first_improper b ≡ None) × (h ≡ fields_of b)
    by true None p q e = (p, q, let i : fields_of b ≡ h = cc in sym i)
    by true (Some i) p q e = let z : ◌≡◌ {A = ℕ} 0 1 = cc in absurd (omega arith)
    by false o p q e = let z : ◌≡◌ {A = ℕ} 0 1 = cc in absurd (omega arith)

pub fields-err : (b : List ℕ) (i : ℕ) → checked_fields b ≡ Err (InputWire i) → first_improper b ≡ Some i
fields-err b i e = by (in_limits (fields_of b)) (first_improper b) refl e
  where
    by : (t : Bool) (o : Option ℕ) → first_improper b ≡ o → cond t (unless_improper o (fields_of b)) (Err HeaderField) ≡ Err (InputWire i) → first_improper b ≡ Some i
    by true None q e = let z : ◌≡◌ {A = ℕ} 0 1 = cc in absurd (omega arith)
    by true (Some j) q e = let s : j ≡ i = cc in q ∙ ap Some s
    by false o q e = let z : ◌≡◌ {A = ℕ} 0 1 = cc in absurd (omega arith)

pub head_ok : (file xs : List ℕ) (s : Split) (h : Fields)
    → records_of file ≡ Ok xs → header_record (split_record xs) ≡ Ok s → checked_fields s.front ≡ Ok h
    → head_of file ≡ Ok (head_with s h)
head_ok file xs s h p q r =
    ap (λ o. and_then o (λ ys. and_then (header_record (split_record ys)) head_from)) p
    ∙ ap (λ o. and_then o head_from) q
    ∙ ap (λ o. and_then o (λ k. Ok (head_with s k))) r

limited : (b : List ℕ) (h : Fields) → limited_fields b ≡ Ok h → (in_limits (fields_of b) ≡ true) × (h ≡ fields_of b)
limited b h e = by (in_limits (fields_of b)) refl e
  where
    by : (t : Bool) → in_limits (fields_of b) ≡ t → cond t (Ok (fields_of b)) (Err HeaderField) ≡ Ok h → (in_limits (fields_of b) ≡ true) × (h ≡ fields_of b)
    by true p q = (p, cc)
    by false p q = let z : ◌≡◌ {A = ℕ} 0 1 = cc in absurd (omega arith)

-- fields and rows that are read one after the other
pub read-ok : (b : List ℕ) (h : Fields) (rows : List WireRow) → limited_fields b ≡ Ok h → checked_inputs b h ≡ Ok rows
    → (checked_fields b ≡ Ok h) × (rows ≡ input_rows b h.inputs)
read-ok b h rows l e =
    let t = limited b h l in
    subst (λ (k : Fields). (checked_fields b ≡ Ok k) × (rows ≡ input_rows b k.inputs)) (sym t.1)
    (by (first_improper b) refl t.0 (subst (λ (k : Fields). checked_inputs b k ≡ Ok rows) t.1 e))
  where
    by : (o : Option ℕ) → first_improper b ≡ o → in_limits (fields_of b) ≡ true → unless_improper o (input_rows b (fields_of b).inputs) ≡ Ok rows
        → (checked_fields b ≡ Ok (fields_of b)) × (rows ≡ input_rows b (fields_of b).inputs)
    by None p t q = (ap₂ (λ k o. cond k (unless_improper o (fields_of b)) (Err HeaderField)) t p, cc)
    by (Some i) p t q = let z : ◌≡◌ {A = ℕ} 0 1 = cc in absurd (omega arith)

pub read-err : (b : List ℕ) (h : Fields) (e : Refusal) → limited_fields b ≡ Ok h → checked_inputs b h ≡ Err e → checked_fields b ≡ Err e
read-err b h e l q = let t = limited b h l in by (first_improper b) refl t.0 (subst (λ (k : Fields). checked_inputs b k ≡ Err e) t.1 q)
  where
    by : (o : Option ℕ) → first_improper b ≡ o → in_limits (fields_of b) ≡ true → unless_improper o (input_rows b (fields_of b).inputs) ≡ Err e
        → checked_fields b ≡ Err e
    by None p t r = let z : ◌≡◌ {A = ℕ} 0 1 = cc in absurd (omega arith)
    by (Some i) p t r = ap₂ (λ k o. cond k (unless_improper o (fields_of b)) (Err HeaderField)) t p ∙ cc

-- the parts of a file that were read, put together
pub head-read : (file xs : List ℕ) (s : Split) (h : Fields) (rows : List WireRow)
    → records_of file ≡ Ok xs → header_record (split_record xs) ≡ Ok s → limited_fields s.front ≡ Ok h → checked_inputs s.front h ≡ Ok rows
    → (Ok (record { header = h; inputs = rows; rest = s.rest }) ≡ head_of file) × (s.rest ≡ drop (24 + 12 * h.inputs) file)
head-read file xs s h rows p q l e =
    let r = read-ok s.front h rows l e in
    let w = record-ok xs s q in
    let f = ap (λ (k : Fields). k.inputs) (limited s.front h l).1 in (
      ap (λ i. Ok (record { header = h; inputs = i; rest = s.rest })) r.1 ∙ sym (head_ok file xs s h p q r.0),
      w.1 ∙ ap (drop (2 + length s.front)) (records-ok file xs p) ∙ drop-drop (2 + length s.front) 1 file ∙ ap (λ k. drop k file) (omega (arith, w.0, f)),
    )

pub head-err : (file xs : List ℕ) (s : Split) (h : Fields) (e : Refusal)
    → records_of file ≡ Ok xs → header_record (split_record xs) ≡ Ok s → limited_fields s.front ≡ Ok h → checked_inputs s.front h ≡ Err e
    → head_of file ≡ Err e
head-err file xs s h e p q l r =
    ap (λ o. and_then o (λ ys. and_then (header_record (split_record ys)) head_from)) p
    ∙ ap (λ o. and_then o head_from) q
    ∙ ap (λ o. and_then o (λ k. Ok (head_with s k))) (read-err s.front h e l r)
