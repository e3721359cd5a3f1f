-- A file and the line that a second evaluator expects of it. Assumes nothing.
use Rattle.std.specs.Prelude.{◌≡◌, ℕ, List, map, codes}
use Prim.Native.String.{String}
use Rattle.verdict.specs.Verdict.{verdict_of}
use Rattle.verdict.specs.Line.{verdict_line}
use Rattle.kinds.specs.Base.{base_kinds}
use Rattle.cases.specs.Hex.{hex}

pub record Trial : Type 0 where
  pub file : List ℕ
  pub line : List ℕ

-- the file in hexadecimal
abbrev pub trial : String → String → Trial
trial file line = record { file = hex (codes file); line = codes line }

-- the rules give just the expected lines
abbrev pub Agree : List Trial → Type 0
Agree ts = map (λ (t : Trial). verdict_line (verdict_of base_kinds t.file)) ts ≡ map (λ (t : Trial). t.line) ts
