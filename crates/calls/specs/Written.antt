-- Calls and answers as a program writes them down. Assumes nothing.
use Rattle.std.specs.Prelude.{replicate, pos, Ok, Err, vec_items, Result}
use Rattle.settings.specs.declared.refusal.Refusal.{Refusal}
use Rattle.calls.specs.declared.request.Request.{Request}
use Rattle.calls.specs.declared.request.Request.TheVariants as ask
use Rattle.calls.specs.declared.reply.Reply.{Reply}
use Rattle.calls.specs.declared.reply.Reply.TheVariants as told
use Rattle.calls.specs.Call.{Call, load, frame, reset, state, certificate, bench, Answer, refused, loaded, framed, cleared, shown, written, Left, nothing, rows, codes, Told, no_certificate}

-- the call that a request stands for; its buffer begins with zeros
abbrev pub call_in : Request → Call
call_in (ask.Load file) = load (vec_items file)
call_in (ask.Frame cs) = frame (vec_items cs)
call_in ask.Reset = reset
call_in ask.State = state
call_in (ask.Certificate stage places) = certificate stage (replicate places no_certificate)
call_in (ask.Bench stage places cs) = bench stage (vec_items cs) (replicate places (pos 0))

-- an answer, or the refusal
abbrev pub answered : {X : Type 0} → (X → Answer) → Result X Refusal → Answer
answered f (Ok x) = f x
answered f (Err e) = refused e

-- the answer that a reply tells
abbrev pub answer_in : Reply → Answer
answer_in (told.Load r) = answered loaded r
answer_in (told.Frame r) = answered framed r
answer_in (told.Reset r) = answered (λ _. cleared) r
answer_in (told.State r) = answered shown r
answer_in (told.Certificate r buffer) = answered written r
answer_in (told.Bench r buffer) = answered written r

-- the buffer that it holds
abbrev pub left_in : Reply → Left
left_in (told.Load r) = nothing
left_in (told.Frame r) = nothing
left_in (told.Reset r) = nothing
left_in (told.State r) = nothing
left_in (told.Certificate r buffer) = rows (vec_items buffer)
left_in (told.Bench r buffer) = codes (vec_items buffer)

-- what it tells in all
abbrev pub told_in : Reply → Told
told_in r = record { answer = answer_in r; left = left_in r }
