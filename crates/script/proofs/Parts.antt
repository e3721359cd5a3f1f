-- The parts of a text are what the library's `split` gives.
use Rattle.std.proofs.Common.{◌≡◌, ℕ, ◌+◌, ◌<◌, not, nat_lt, true, false, cond, eqb, List, [], ◌∷◌, ◌++◌, length, take, drop, Some, None, Option, sym, refl, ap, ap₂, ◌∙◌, ⊎_elim, Bor, arith}
use Rattle.std.specs.List.{slice_split, onto_first, position, position_or_len}
use Rattle.std.proofs.lemmas.List.Splits.{slice_split_first}
use Rattle.std.proofs.lemmas.Bool.{cond-true, cond-false, cases_Bool}
use Rattle.std.proofs.lemmas.Bool.Decides.{nat_tests}
use Rattle.script.specs.Parts.{split_from, split, parts_behind}

-- a character in front of the part goes on the first part
split_from-cons : (s c : ℕ) (part cs : List ℕ) → split_from s (c ∷ part) cs ≡ onto_first c (split_from s part cs)
split_from-cons s c part [] = refl
split_from-cons s c part (d ∷ ds) =
    elim (eqb d s) as (λ e. cond e ((c ∷ part) ∷ split_from s [] ds) (split_from s (c ∷ (part ++ d ∷ [])) ds)
    ≡ onto_first c (cond e (part ∷ split_from s [] ds) (split_from s (part ++ d ∷ []) ds))) [
      | true ↦ refl
      | false ↦ split_from-cons s c (part ++ d ∷ []) ds
    ]

pub slice_split-split : (s : ℕ) (cs : List ℕ) → slice_split (λ c. eqb c s) cs ≡ split s cs
slice_split-split s [] = refl
slice_split-split s (c ∷ cs) = simp (slice_split-split s cs, split_from-cons s c [] cs)

-- a text has a part, and so has what stands behind a separator
pub some-part : {Y : Type 0} (F : List (List ℕ) → Y) (y : Y) → ((p : List ℕ) (ps : List (List ℕ)) → F (p ∷ ps) ≡ y) → (s : ℕ) (part cs : List ℕ) → F (split_from s part cs) ≡ y
some-part F y one s part [] = one part []
some-part F y one s part (c ∷ cs) =
    elim (eqb c s) as (λ e. F (cond e (part ∷ split_from s [] cs) (split_from s (part ++ c ∷ []) cs)) ≡ y) [
      | true ↦ one part (split_from s [] cs)
      | false ↦ some-part F y one s (part ++ c ∷ []) cs
    ]

pub part-behind : {Y : Type 0} (F : List (List ℕ) → Y) (y : Y) → ((p : List ℕ) (ps : List (List ℕ)) → F (p ∷ ps) ≡ y)
    → (b : Option (Bor (List ℕ))) (text : Bor (List ℕ)) → b ≡ Some text → F (parts_behind b) ≡ y
part-behind F y one b text e = ap (λ o. F (parts_behind o)) e ∙ some-part F y one 32 [] text.now

-- where there is no separator, the text is the one part
alone-from : (s : ℕ) (cs : List ℕ) → nat_lt (position_or_len (λ c. eqb c s) cs) (length cs) ≡ false → slice_split (λ c. eqb c s) cs ≡ cs ∷ []
alone-from s [] h = refl
alone-from s (c ∷ cs) h =
    elim (eqb c s) as (λ e. nat_lt (cond (not e) (1 + position_or_len (λ c. eqb c s) cs) 0) (length (c ∷ cs)) ≡ false
    → cond e ([] ∷ slice_split (λ c. eqb c s) cs) (onto_first c (slice_split (λ c. eqb c s) cs)) ≡ (c ∷ cs) ∷ []) [
      | true ↦ λ g. let z : ◌≡◌ {A = ℕ} 0 1 = grind (arith, nat_tests) in absurd (omega arith)
      | false ↦ λ g. let r = alone-from s cs (grind (arith, nat_tests)) in ap (onto_first c) r
    ] h

pub cut-none : (s : ℕ) (cs : List ℕ) → None ≡ position (λ c. eqb c s) cs → split s cs ≡ cs ∷ []
cut-none s cs e =
    let n = nat_lt (position_or_len (λ c. eqb c s) cs) (length cs) in
    ⊎_elim
    (λ (yes' : n ≡ true). let z : ◌≡◌ {A = Option ℕ} None (Some (position_or_len (λ c. eqb c s) cs)) = e ∙ cond-true n _ _ yes' in cc)
    (λ (no' : n ≡ false). sym (slice_split-split s cs) ∙ alone-from s cs no')
    (cases_Bool n)

pub cut-some : (s at : ℕ) (cs : List ℕ) → Some at ≡ position (λ c. eqb c s) cs
    → (at < length cs) × (split s cs ≡ take at cs ∷ split s (drop (at + 1) cs))
cut-some s at cs e =
    let k = position_or_len (λ c. eqb c s) cs in
    let n = nat_lt k (length cs) in
    ⊎_elim
    (λ (yes' : n ≡ true).
    let same : at ≡ k = let q : ◌≡◌ {A = Option ℕ} (Some at) (Some k) = e ∙ cond-true n _ _ yes' in cc in
    let l : k < length cs = grind (arith, nat_tests) in
    let cut = slice_split_first (λ c. eqb c s) cs 0 l in
    (omega arith, sym (slice_split-split s cs) ∙ cut ∙ ap₂ (λ i t. take i cs ∷ t) (sym same) (slice_split-split s (drop (k + 1) cs)) ∙ ap (λ i. take at cs ∷ split s (drop (i + 1) cs)) (sym same)))
    (λ (no' : n ≡ false). let z : ◌≡◌ {A = Option ℕ} (Some at) None = e ∙ cond-false n _ _ no' in cc)
    (cases_Bool n)
