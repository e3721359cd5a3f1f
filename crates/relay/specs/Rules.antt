-- What each call answers and leaves. Assumes nothing.
use Rattle.std.specs.Prelude.{ℕ, List, length, ℤ, Some, None, Ok, Err, Option, Result}
use Rattle.stages.specs.Kind.{Kinds, map_ok, over}
use Rattle.settings.specs.declared.refusal.Refusal.{Refusal}
use Rattle.settings.specs.declared.refusal.Refusal.TheVariants.{NoFile}
use Rattle.verdict.specs.Bench.{bench_in}
use Rattle.verdict.specs.Loaded.{Loaded, loaded_in}
use Rattle.verdict.specs.Output.{output_in}
use Rattle.verdict.specs.Verdict.{verdict_of}
use Rattle.calls.specs.declared.certificate_row.CertificateRow.{CertificateRow}
use Rattle.calls.specs.declared.status.Status.{Status}
use Rattle.calls.specs.declared.status.Report.{Report}
use Rattle.calls.specs.Call as call
use Rattle.calls.specs.Call.{Call, Answer, Left}
use Rattle.calls.specs.Written.{answered}
use Rattle.counter.specs.Counter.{idle, stepped, cleared}
use Rattle.relay.specs.Certificate.{certificate_in}

-- What a relay holds: the file of the last taken load, or none, its certified bound, and the status of the counter.
pub record State : Type 0 where
  pub kept : Option (List ℕ)
  pub bound : ℕ
  pub status : Status

-- a new relay
abbrev pub fresh : State
fresh = record { kept = None; bound = 0; status = idle }

-- the file that is loaded
abbrev pub loaded_by : Kinds → Option (List ℕ) → Option Loaded
loaded_by m None = None
loaded_by m (Some file) = loaded_in m file

-- a load: the verdict on the file, which a taken load keeps
abbrev pub load_after : List ℕ → Result ℕ Refusal → State → State
load_after file (Ok bound) s = record { kept = Some file; bound = bound; status = idle }
load_after file (Err e) s = s

-- a frame: the status that its output leads to
abbrev pub frame_answer : Kinds → State → List ℤ → Result Status Refusal
frame_answer m s cs = map_ok (λ o. stepped o s.status) (output_in m (loaded_by m s.kept) cs)

abbrev pub with_status : Result Status Refusal → State → State
with_status (Ok t) s = record { kept = s.kept; bound = s.bound; status = t }
with_status (Err e) s = s

-- a call that needs no more than that there is a file
abbrev pub if_kept : {A : Type 0} → Option (List ℕ) → A → Result A Refusal
if_kept None x = Err NoFile
if_kept (Some file) x = Ok x

abbrev pub reset_answer : State → Result Status Refusal
reset_answer s = if_kept s.kept (cleared s.status)

abbrev pub state_answer : State → Result Report Refusal
state_answer s = if_kept s.kept (record { bound = s.bound; status = s.status })

abbrev pub certificate_rows : Kinds → State → ℕ → ℕ → Result (List CertificateRow) Refusal
certificate_rows m s k places = certificate_in m (loaded_by m s.kept) k places

abbrev pub bench_codes : Kinds → State → ℕ → List ℤ → ℕ → Result (List ℤ) Refusal
bench_codes m s k cs places = bench_in m (loaded_by m s.kept) k cs places

-- what a call answers, what it leaves in the buffer, and the state after it
pub record Outcome : Type 0 where
  pub answer : Answer
  pub left : Left
  pub after : State

-- One call by the rules.
abbrev pub called : Kinds → State → Call → Outcome
called m s (call.load file) =
    record { answer = answered call.loaded (verdict_of m file); left = call.nothing; after = load_after file (verdict_of m file) s }
called m s (call.frame cs) =
    record { answer = answered call.framed (frame_answer m s cs); left = call.nothing; after = with_status (frame_answer m s cs) s }
called m s call.reset =
    record { answer = answered (λ _. call.cleared) (reset_answer s); left = call.nothing; after = with_status (reset_answer s) s }
called m s call.state = record { answer = answered call.shown (state_answer s); left = call.nothing; after = s }
called m s (call.certificate k buffer) =
    let r = certificate_rows m s k (length buffer) in
    record { answer = answered (λ ys. call.written (length ys)) r; left = call.rows (over r buffer); after = s }
called m s (call.bench k cs buffer) =
    let r = bench_codes m s k cs (length buffer) in
    record { answer = answered (λ ys. call.written (length ys)) r; left = call.codes (over r buffer); after = s }
