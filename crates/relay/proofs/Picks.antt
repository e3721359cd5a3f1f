-- Taken frames of an accepted file: their codes, and which of them are picked.
use Rattle.std.proofs.Common.{◌≡◌, ℕ, ◌*◌, Bool, List, [], ◌∷◌, map, get_or, ℤ, pos, Some, None, Ok, Option, Result, sym, refl, ap, ◌∙◌, subst, arith, pow_pos}
use lib.Signed.{le_z}
use Rattle.fixed.specs.Format.{grains_of}
use Rattle.fixed.specs.Steps.{and_then}
use Rattle.stages.specs.Kind.{exactly, Kinds}
use Rattle.stages.specs.Containment.{Inside, Within}
use Rattle.settings.specs.declared.refusal.Refusal.{Refusal}
use Rattle.settings.specs.HeadLaw.{Sound}
use Rattle.verdict.specs.declared.output.Output.{Output}
use Rattle.verdict.specs.Certificate.{output_shape, output_codes, Certified}
use Rattle.verdict.specs.Loaded.{Loaded}
use Rattle.verdict.specs.Output.{frame_fault, output_with, unless_fault, output_of}
use Rattle.verdict.specs.Running.{ran}
use Rattle.relay.specs.Truth.{TrueInputs, own_values, Truths, none, also, exact_values, exact_output, units, sure, possible, Bounded}
use Rattle.relay.proofs.Levels.{Close, sure-picked, picked-possible, within-close}
use Rattle.relay.proofs.Ranges.{no-fault-inside, inside-no-fault, near-held, own-near}
use Rattle.counter.proofs.Tallies.{Tally, start, more, Passing, Passed}

-- an accepted file as the law certifies it
pub record Good (m : Kinds) (l : Loaded) : Type 0 where
  pub certified : Certified m l.head l.bound
  pub sound : Sound l.head

-- a frame whose codes run to a code, which is picked or not
pub record Pick (m : Kinds) (l : Loaded) (codes : List ℤ) (picked : Bool) : Type 0 where
  pub code : ℤ
  pub inside : Inside l.head.inputs codes
  pub runs : output_codes m l.head codes ≡ Ok (code ∷ [])
  pub level : picked ≡ le_z l.head.header.level (grains_of (output_shape m l.head).fraction code)

no-fault : {A : Type 0} (o : Option Refusal) (r : Result A Refusal) (x : A) → unless_fault o r ≡ Ok x → (o ≡ None) × (r ≡ Ok x)
no-fault None r x e = (refl, e)
no-fault (Some d) r x e = let z : ◌≡◌ {A = ℕ} 0 1 = cc in absurd (omega arith)

-- the output of a frame by its one code
abbrev pub output_by : Kinds → Loaded → ℤ → Output
output_by m l y = output_with l.head.header (output_shape m l.head) (y ∷ [])

-- a frame with an output was inside, and ran to one code
pub record Came (m : Kinds) (l : Loaded) (codes : List ℤ) (o : Output) : Type 0 where
  pub code : ℤ
  pub inside : Inside l.head.inputs codes
  pub runs : output_codes m l.head codes ≡ Ok (code ∷ [])
  pub is : o ≡ output_by m l code

pub came : (m : Kinds) (l : Loaded) (codes : List ℤ) (o : Output) → Good m l → output_of m l.head codes ≡ Ok o → Came m l codes o
came m l codes o good e =
    let h = l.head in
    let clear = no-fault (frame_fault h.inputs codes) (and_then (ran (output_codes m h codes)) (λ ds. Ok (output_with h.header (output_shape m h) ds))) o e in
    let inside = no-fault-inside h.inputs codes clear.0 in
    let one = good.certified.runs codes inside in
    let out : ◌≡◌ {A = Result Output Refusal} (Ok (output_by m l one.0)) (Ok o) =
    sym (ap (λ r. and_then (ran r) (λ ds. Ok (output_with h.header (output_shape m h) ds))) one.1) ∙ clear.1 in
    record { code = one.0; inside = inside; runs = one.1; is = cc }

-- and every frame inside has one
pub comes : (m : Kinds) (l : Loaded) (codes : List ℤ) (y : ℤ) → Inside l.head.inputs codes → output_codes m l.head codes ≡ Ok (y ∷ [])
    → output_of m l.head codes ≡ Ok (output_by m l y)
comes m l codes y inside runs =
    let h = l.head in
    ap (λ o. unless_fault o (and_then (ran (output_codes m h codes)) (λ ds. Ok (output_with h.header (output_shape m h) ds)))) (inside-no-fault h.inputs codes inside)
    ∙ ap (λ r. and_then (ran r) (λ ds. Ok (output_with h.header (output_shape m h) ds))) runs

-- the code is within the bound of the exact output
pub bounded : (m : Kinds) (l : Loaded) (codes truth : List ℤ) (y : ℤ) → Good m l → Inside l.head.inputs codes
    → output_codes m l.head codes ≡ Ok (y ∷ []) → TrueInputs l codes truth → Bounded m l y truth
bounded m l codes truth y good inside runs near =
    let h = l.head in
    let t = good.certified.holds (exactly 0 truth) codes y runs (near-held h.header.fraction h.inputs codes truth inside near) in
    let same : t.0 ≡ exact_output m l truth = sym (ap (λ xs. get_or xs 0 (pos 0)) t.1) in
    record {
      single = t.1 ∙ ap (λ X. X ∷ []) same;
      within = subst (λ X. Within (output_shape m h).fraction (exact_values m l truth).depth l.bound y X) same t.2;
    }

close : (m : Kinds) (l : Loaded) (codes truth : List ℤ) (y : ℤ) → Good m l → Inside l.head.inputs codes → output_codes m l.head codes ≡ Ok (y ∷ [])
    → TrueInputs l codes truth → Close l.bound (units m l truth) (grains_of (output_shape m l.head).fraction y) (exact_output m l truth)
close m l codes truth y good inside runs near =
    let f = good.certified.output.0.format in
    within-close (output_shape m l.head).fraction (exact_values m l truth).depth l.bound y (exact_output m l truth) (omega arith)
    (bounded m l codes truth y good inside runs near).within

-- sure frames are picked
pub sure-is-picked : (m : Kinds) (l : Loaded) → Good m l → (codes truth : List ℤ) (p : Bool) → Pick m l codes p → TrueInputs l codes truth → Passing (sure m l) truth p
sure-is-picked m l good codes truth p k near high =
    let g = grains_of (output_shape m l.head).fraction k.code in
    k.level ∙ sure-picked l.head.header.level g (exact_output m l truth) l.bound (units m l truth) (pow_pos (24 * (exact_values m l truth).depth))
    (close m l codes truth k.code good k.inside k.runs near) high

-- picked frames are possible
pub picked-is-possible : (m : Kinds) (l : Loaded) → Good m l → (codes truth : List ℤ) (p : Bool) → Pick m l codes p → TrueInputs l codes truth → Passed (possible m l) truth p
picked-is-possible m l good codes truth p k near on =
    let g = grains_of (output_shape m l.head).fraction k.code in
    picked-possible l.head.header.level g (exact_output m l truth) l.bound (units m l truth)
    (close m l codes truth k.code good k.inside k.runs near) (sym k.level ∙ on)

-- frames by their true inputs
pub truly : (m : Kinds) (l : Loaded) (S : List ℤ → Bool → Type 0) → ((codes truth : List ℤ) (p : Bool) → Pick m l codes p → TrueInputs l codes truth → S truth p)
    → {frames truths : List (List ℤ)} {n : ℕ} {t : Bool} → Tally l.head.header (Pick m l) frames n t → Truths l frames truths → Tally l.head.header S truths n t
truly m l S h start none = start
truly m l S h (more {x = codes} p k c) (also {truth = truth} near ts) = more p (h codes truth p k near) (truly m l S h c ts)

-- frames that were taken have true inputs
pub truths : (m : Kinds) (l : Loaded) {frames : List (List ℤ)} {n : ℕ} {t : Bool} → Tally l.head.header (Pick m l) frames n t → Truths l frames (map (own_values l) frames)
truths m l start = none
truths m l (more {x = codes} p k c) = also (own-near l.head.header.fraction l.head.inputs codes k.inside) (truths m l c)
