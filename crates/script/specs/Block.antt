-- What is printed of a reply. Assumes nothing.
use Rattle.std.specs.Prelude.{ℕ, ◌+◌, List, [], ◌∷◌, ◌++◌, take, ℤ, codes, decimal, unwrap_or}
use Rattle.std.specs.Fmt.{signed_decimal}
use Rattle.settings.specs.Refusals.{refusal_text}
use Rattle.calls.specs.Call as call
use Rattle.calls.specs.Call.{Call, Answer, Left, asked_stage}
use Rattle.calls.specs.Texts.{status_text, report_text, certified_text}
use Rattle.calls.specs.declared.certificate_row.CertificateRow.{CertificateRow}

-- the bound of an accepted file
abbrev pub bound_text : ℕ → List ℕ
bound_text bound = codes "accepted " ++ (decimal bound ++ codes "\n")

-- the line of wire i
abbrev pub row_text : ℕ → CertificateRow → List ℕ
row_text i r = codes "  " ++ (decimal i ++ (codes ": " ++ (certified_text r ++ codes "\n")))

-- the wires from i on
abbrev pub rows_text : ℕ → List CertificateRow → List ℕ
rows_text i [] = []
rows_text i (r ∷ rs) = row_text i r ++ rows_text (i + 1) rs

-- a space before each code
abbrev pub codes_text : List ℤ → List ℕ
codes_text [] = []
codes_text (z ∷ zs) = codes " " ++ (signed_decimal z ++ codes_text zs)

-- the stage that a call asks about, or 0
abbrev pub stage_of : Call → ℕ
stage_of c = unwrap_or (asked_stage c) 0

-- the first m places of what stage k left in the buffer
abbrev pub written_text : ℕ → ℕ → Left → List ℕ
written_text k m call.nothing = []
written_text k m (call.rows rs) = codes "stage " ++ (decimal k ++ (codes ": " ++ (decimal m ++ (codes " wires\n" ++ rows_text 0 (take m rs)))))
written_text k m (call.codes zs) = codes "stage " ++ (decimal k ++ (codes ":" ++ (codes_text (take m zs) ++ codes "\n")))

-- a call's answer, on one line or more
abbrev pub block_text : Call → Answer → Left → List ℕ
block_text c (call.refused e) l = refusal_text e ++ codes "\n"
block_text c (call.loaded bound) l = bound_text bound
block_text c (call.framed s) l = status_text s ++ codes "\n"
block_text c call.cleared l = codes "reset\n"
block_text c (call.shown r) l = report_text r ++ codes "\n"
block_text c (call.written m) l = written_text (stage_of c) m l
