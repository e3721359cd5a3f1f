-- The lines of a text, one after another, each with its line feed.
use Rattle.std.proofs.Common.{◌≡◌, ℕ, ◌+◌, ◌<◌, ◌≤◌, min, true, false, cond, eqb, List, [], ◌∷◌, ◌++◌, length, get_or, take, Some, None, Option, MatchOption, Bor, unwrap_or, sym, refl, ap, ◌∙◌, inl, inr, ◌⊎◌, ⊎_elim, append_assoc, append-nil, arith}
use Rattle.std.specs.List.{slice_split, onto_first, IsFirstMatchOrLen, All}
use Rattle.std.proofs.lemmas.List.{get_or_append_left, nil_from_length, take_more, take_all, length-append}
use Rattle.std.proofs.lemmas.List.Splits.{slice_split_at, slice_split_none}
use Rattle.std.proofs.lemmas.Bool.{cases_lt, cond-false, eqb-true, ne_eqb}
use Rattle.script.specs.Scripts.{until_last, lines_of}
use Rattle.script.proofs.Parts.{slice_split-split}

-- the feed of a line goes, if it has one
abbrev pub IsStripped : List ℕ → List ℕ → Type 0
IsStripped line kept = (line ≡ kept ++ 10 ∷ []) ⊎ ((kept ≡ line) × ((front : List ℕ) → line ≡ front ++ 10 ∷ [] → ⊥))

pub stripped : (line : Bor (List ℕ)) (r : Option (Bor (List ℕ))) → MatchOption r ((front : List ℕ) → line.now ≡ front ++ 10 ∷ [] → ⊥) (λ x. line.now ≡ x.now ++ 10 ∷ []) → IsStripped line.now (unwrap_or r line).now
stripped line (Some x) h = inl h
stripped line None h = inr (refl, h)

-- a part is the last one only at the end of the text
until_last-onto_first : (p : List ℕ) (c : ℕ) (ps : List (List ℕ)) → until_last (p ∷ onto_first c ps) ≡ p ∷ until_last (onto_first c ps)
until_last-onto_first p c [] = refl
until_last-onto_first p c (q ∷ ps) = refl

until_last-split : (p cs : List ℕ) → until_last (p ∷ slice_split (λ c. eqb c 10) cs) ≡ p ∷ until_last (slice_split (λ c. eqb c 10) cs)
until_last-split p [] = refl
until_last-split p (c ∷ cs) =
    let ps = slice_split (λ x. eqb x 10) cs in
    elim (eqb c 10) as (λ e. until_last (p ∷ cond e ([] ∷ ps) (onto_first c ps)) ≡ p ∷ until_last (cond e ([] ∷ ps) (onto_first c ps))) [
      | true ↦ refl
      | false ↦ until_last-onto_first p c ps
    ]

-- the first line, where it ends in a line feed or the text does
feed-first : (text kept rest : List ℕ) → text ≡ kept ++ 10 ∷ rest → All (λ c. eqb c 10 ≡ false) kept → lines_of text ≡ kept ∷ lines_of rest
feed-first text kept rest e none =
    simp (← slice_split-split) (ap (λ t. until_last (slice_split (λ c. eqb c 10) t)) e
    ∙ ap until_last (slice_split_at (λ c. eqb c 10) kept 10 rest none refl) ∙ until_last-split kept rest)

last-first : (text : List ℕ) → 0 < length text → All (λ c. eqb c 10 ≡ false) text → lines_of text ≡ text ∷ lines_of []
last-first text some none =
    ap until_last (sym (slice_split-split 10 text) ∙ slice_split_none (λ c. eqb c 10) text none)
    ∙ cond-false (eqb (length text) 0) [] (text ∷ []) (ne_eqb (length text) 0 (omega arith))

pub lines_of_first : (text line rest kept : List ℕ) (i : ℕ) → text ≡ line ++ rest → 0 < length text → length line ≡ min (i + 1) (length text)
    → IsFirstMatchOrLen (λ c. eqb c 10) text i → IsStripped line kept → lines_of text ≡ kept ∷ lines_of rest
lines_of_first text line rest kept i whole some len first (inl feed) =
    let e : text ≡ kept ++ 10 ∷ rest = whole ∙ ap (λ l. l ++ rest) feed ∙ append_assoc kept (10 ∷ []) rest in
    let short : length kept + 1 ≡ length line = simp (feed, length-append) in
    feed-first text kept rest e (λ k d h. simp (e, get_or_append_left kept (10 ∷ rest) d k h) at (first.0 k d (omega arith) (omega arith)))
lines_of_first text line rest kept i whole some len first (inr (same, none)) =
    let sum : length text ≡ length line + length rest = simp (whole, length-append) in
    ⊎_elim
    (λ (h : i < length text).
    let at : get_or line i 0 ≡ 10 = sym (get_or_append_left line rest 0 i (omega arith)) ∙ ap (λ t. get_or t i 0) (sym whole) ∙ eqb-true (get_or text i 0) 10 (first.1 h 0) in
    absurd (none (take i line) (sym (take_all (i + 1) line (omega arith)) ∙ take_more line i 0 (omega arith) ∙ ap (λ c. take i line ++ c ∷ []) at)))
    (λ (h : length text ≤ i).
    let end : rest ≡ [] = nil_from_length rest (omega arith) in
    let e : text ≡ kept = whole ∙ ap (λ r. line ++ r) end ∙ append-nil line ∙ sym same in
    last-first text some (λ k d g. first.0 k d (omega arith) (omega arith)) ∙ ap (λ t. t ∷ lines_of []) e ∙ ap (λ r. kept ∷ lines_of r) (sym end))
    (cases_lt i (length text))
