-- A file that is accepted. Assumes nothing.
use Rattle.std.specs.Prelude.{ℕ, List, Some, None, Ok, Err, Option, Result}
use Rattle.stages.specs.Kind.{Kinds}
use Rattle.settings.specs.declared.fields.Fields.{Fields}
use Rattle.settings.specs.declared.refusal.Refusal.{Refusal}
use Rattle.settings.specs.declared.refusal.Refusal.TheVariants.{NoFile}
use Rattle.settings.specs.Head.{Head, head_of}
use Rattle.verdict.specs.Verdict.{verdict_from}

-- what its head says, and its certified bound
pub record Loaded : Type 0 where
  pub head : Head
  pub bound : ℕ

abbrev pub with_bound : Head → Result ℕ Refusal → Option Loaded
with_bound h (Ok b) = Some (record { head = h; bound = b })
with_bound h (Err e) = None

abbrev pub loaded_from : Kinds → Result Head Refusal → Option Loaded
loaded_from m (Ok h) = with_bound h (verdict_from m h)
loaded_from m (Err e) = None

-- what a file holds where the kinds accept it
abbrev pub loaded_in : Kinds → List ℕ → Option Loaded
loaded_in m file = loaded_from m (head_of file)

-- the fields of its header
abbrev pub fields_in : Option Loaded → Option Fields
fields_in None = None
fields_in (Some l) = Some l.head.header

-- a refusal of a call on a file, or that there is none
abbrev pub unless_none : Option Loaded → Refusal → Refusal
unless_none None e = NoFile
unless_none (Some l) e = e
