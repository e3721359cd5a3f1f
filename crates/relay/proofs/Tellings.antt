-- What calls tell, from what they answer and leave.
use Rattle.std.proofs.Common.{◌≡◌, ℕ, ◌+◌, ◌<◌, List, [], ◌∷◌, ◌++◌, map, reverse, length, get_or, take, Ok, Err, vec_items, Result, Vec, sym, refl, ap, ◌∙◌, ap₂}
use Rattle.std.proofs.lemmas.List.{take_more, map-append, reverse-append, with_items_is}
use Rattle.std.specs.Vec.{with_items}
use Rattle.stages.specs.Kind.{Kinds, map_ok, over}
use Rattle.settings.specs.declared.refusal.Refusal.{Refusal}
use Rattle.calls.specs.declared.reply.Reply.{Reply}
use Rattle.calls.specs.declared.request.Request.{Request}
use Rattle.calls.specs.Call.{Call, Answer, written, Left, Event, Told, told_by}
use Rattle.calls.specs.Written.{answered, call_in, told_in}
use Rattle.relay.specs.Ways.{Run, begun, run_more, run_on}

abbrev pub telling : Answer → Left → Told
telling a l = record { answer = a; left = l }

pub answered-map : {A B : Type 0} (f : B → Answer) (g : A → B) (r : Result A Refusal) → answered f (map_ok g r) ≡ answered (λ x. f (g x)) r
answered-map f g (Ok x) = refl
answered-map f g (Err e) = refl

-- a call that writes into a buffer, which holds what it was made with
written-told : {X : Type 0} (written-by : ℕ → Result (List X) Refusal) (left : List X → Left) (a : Result ℕ Refusal) (out before made : List X) → before ≡ made
    → a ≡ map_ok length (written-by (length before)) → out ≡ over (written-by (length before)) before
    → telling (answered written a) (left out) ≡ telling (answered (λ ys. written (length ys)) (written-by (length made))) (left (over (written-by (length made)) made))
written-told by left a out before made same e l =
    ap₂ (λ r o. telling (answered written r) (left o)) e l
    ∙ ap (λ b. telling (answered written (map_ok length (by (length b)))) (left (over (by (length b)) b))) same
    ∙ ap (λ x. telling x (left (over (by (length made)) made))) (answered-map written length (by (length made)))

-- the same where the buffer is a vector of its own
pub buffered-told : {X Z : Type 0} (v : Vec X Z) (written-by : ℕ → Result (List X) Refusal) (left : List X → Left) (a : Result ℕ Refusal) (out before made : List X)
    → length out ≡ v.len → before ≡ made → a ≡ map_ok length (written-by (length before)) → out ≡ over (written-by (length before)) before
    → telling (answered written a) (left (vec_items (with_items v out)))
    ≡ telling (answered (λ ys. written (length ys)) (written-by (length made))) (left (over (written-by (length made)) made))
buffered-told v by left a out before made long same e l =
    ap (λ xs. telling (answered written a) (left xs)) (with_items_is v out long) ∙ written-told by left a out before made same e l

-- one call more
pub run-push : (m : Kinds) (r : Run) (cs : List Call) (c : Call) → run_on m r (cs ++ c ∷ []) ≡ run_more m (run_on m r cs) c
run-push m r [] c = refl
run-push m r (d ∷ cs) c = run-push m (run_more m r d) cs c

pub run-more : (m : Kinds) (xs : List Request) (i : ℕ) (x : Request) → i < length xs → x ≡ get_or xs i x
    → run_on m begun (map call_in (take (i + 1) xs)) ≡ run_more m (run_on m begun (map call_in (take i xs))) (call_in x)
run-more m xs i x h e =
    ap (λ ys. run_on m begun (map call_in ys)) (take_more xs i x h ∙ ap (λ y. take i xs ++ y ∷ []) (sym e))
    ∙ ap (run_on m begun) (map-append call_in (take i xs) (x ∷ []))
    ∙ run-push m begun (map call_in (take i xs)) (call_in x)

-- and one reply more, at the end
pub told_more : (replies pushed : List Reply) (reply : Reply) (events : List Event) (e : Event) → map told_in replies ≡ map told_by (reverse events)
    → told_in reply ≡ told_by e → pushed ≡ replies ++ reply ∷ [] → map told_in pushed ≡ map told_by (reverse (e ∷ events))
told_more replies pushed reply events e same told p =
    ap (map told_in) p ∙ map-append told_in replies (reply ∷ [])
    ∙ ap₂ (λ ys y. ys ++ y ∷ []) same told
    ∙ sym (ap (map told_by) (reverse-append (e ∷ []) events) ∙ map-append told_by (reverse events) (e ∷ []))
