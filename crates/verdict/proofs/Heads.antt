-- The inputs of an accepted head.
use Rattle.std.proofs.Common.{◌≡◌, ℕ, suc, ◌<◌, List, [], ◌∷◌, length, get_or, Ok, sym, arith}
use Rattle.fixed.specs.Wire.{Proper, no_row}
use Rattle.fixed.specs.declared.row.WireRow.{WireRow}
use Rattle.stages.specs.Containment.{AllProper, Stands}
use Rattle.settings.specs.Head.{Head, head_of}
use Rattle.settings.specs.HeadLaw.{Sound, HeadLaw}
use Rattle.verdict.specs.Verdict.{shape_in}

all-proper : (w : ℕ) (xs : List WireRow) → ((i : ℕ) → i < length xs → Proper w (get_or xs i no_row)) → AllProper w xs
all-proper w [] h = tt
all-proper w (x ∷ xs) h = (h 0 (omega arith), all-proper w xs (λ i l. h (suc i) (omega arith)))

-- they stand in the header's shape
pub inputs-stand : (h : Head) → Sound h → Stands (shape_in h.header) h.inputs
inputs-stand h s = record {
  sized = record { least = s.counts.0; most = s.counts.1; format = s.words.0 };
  many = s.many;
  proper = all-proper h.header.word h.inputs (λ i l. s.proper i (omega (arith, s.many)));
}

-- the inputs of a head that was opened
pub opened-stand : (file : List ℕ) (h : Head) → HeadLaw file → Ok h ≡ head_of file → Stands (shape_in h.header) h.inputs
opened-stand file h law e = inputs-stand h (law.accepted h (sym e))
