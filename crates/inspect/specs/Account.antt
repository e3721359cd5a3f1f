-- The account of a settings file's head, as text. Assumes nothing.
use Rattle.std.specs.Prelude.{ℕ, ◌+◌, List, [], ◌∷◌, ◌++◌, ℤ, pos, Ok, Err, codes, decimal, Result}
use Rattle.std.specs.Fmt.{signed_decimal}
use Rattle.fixed.specs.Format.{grains_of}
use Rattle.fixed.specs.Word.{bits_needed}
use Rattle.fixed.specs.declared.row.WireRow.{WireRow}
use Rattle.settings.specs.declared.fields.Fields.{Fields}
use Rattle.settings.specs.declared.refusal.Refusal.{Refusal}
use Rattle.settings.specs.Head.{Head}
use Rattle.settings.specs.Refusals.{refusal_text}
use Rattle.inspect.specs.Decimals.{grains_text}

-- the version, the inputs' count and format, the accumulator and the stages
unfoldable pub format_text : Fields → List ℕ
format_text h =
    codes "version 1\ninputs " ++ (decimal h.inputs ++ (codes "\nword " ++ (decimal h.word ++ (codes ", fraction "
    ++ (decimal h.fraction ++ (codes "\naccumulator " ++ (decimal h.accumulator ++ (codes "\nstages " ++ (decimal h.stages
    ++ codes "\n")))))))))

-- the largest bound that is accepted
unfoldable pub allowed_text : Fields → List ℕ
allowed_text h =
    codes "allowed error " ++ (decimal h.allowed_error ++ (codes " grains, " ++ (grains_text (pos h.allowed_error) ++ codes "\n")))

-- what picks up and trips
unfoldable pub pickup_text : Fields → List ℕ
pickup_text h =
    codes "pickup level " ++ (signed_decimal h.level ++ (codes " grains, " ++ (grains_text h.level ++ (codes "\nrise " ++ (decimal h.rise
    ++ (codes "\nfall " ++ (decimal h.fall ++ (codes "\ndelay " ++ (decimal h.delay ++ codes "\n")))))))))

-- a code with f fraction bits, and its value
unfoldable pub code_text : ℕ → ℤ → List ℕ
code_text f z = signed_decimal z ++ (codes " (" ++ (grains_text (grains_of f z) ++ codes ")"))

unfoldable pub range_text : ℕ → WireRow → List ℕ
range_text f r = codes "low " ++ (code_text f r.low ++ (codes ", high " ++ code_text f r.high))

unfoldable pub error_text : WireRow → List ℕ
error_text r =
    codes "error " ++ (decimal r.error ++ (codes " grains (" ++ (grains_text (pos r.error) ++ (codes "), bits "
    ++ decimal (bits_needed r.low r.high)))))

-- a line on input i
unfoldable pub input_text : ℕ → ℕ → WireRow → List ℕ
input_text f i r = codes "input " ++ (decimal i ++ (codes ": " ++ (range_text f r ++ (codes ", " ++ (error_text r ++ codes "\n")))))

-- the inputs from i on
abbrev pub inputs_text : ℕ → ℕ → List WireRow → List ℕ
inputs_text f i [] = []
inputs_text f i (r ∷ rs) = input_text f i r ++ inputs_text f (i + 1) rs

unfoldable pub fields_text : Fields → List ℕ
fields_text h = format_text h ++ (allowed_text h ++ pickup_text h)

abbrev pub head_text : Fields → List WireRow → List ℕ
head_text h rows = fields_text h ++ inputs_text h.fraction 0 rows

-- the account of a file, or its refusal
abbrev pub account_text : Result Head Refusal → List ℕ
account_text (Ok h) = head_text h.header h.inputs
account_text (Err e) = refusal_text e ++ codes "\n"
