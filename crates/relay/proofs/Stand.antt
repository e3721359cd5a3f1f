-- The claims stand on every way.
use Rattle.std.proofs.Common.{◌≡◌, ℕ, Bool, true, false, cond, List, [], ◌∷◌, ◌++◌, ℤ, Some, None, Ok, Err, Option, Result, sym, refl, ap, ◌∙◌, subst, arith}
use mathlib.Core.List.{cons≢nil}
use Rattle.stages.specs.Kind.{Kinds, map_ok}
use Rattle.stages.specs.Containment.{Inside, LawfulSet}
use Rattle.settings.specs.declared.refusal.Refusal.{Refusal}
use Rattle.settings.proofs.HeadLaws.{head_law}
use Rattle.verdict.specs.declared.output.Output.{Output}
use Rattle.verdict.specs.Loaded.{Loaded, loaded_in}
use Rattle.verdict.specs.Output.{output_of, output_in}
use Rattle.verdict.specs.Verdict.{verdict_of}
use Rattle.verdict.proofs.Accepted.{loaded-is}
use Rattle.verdict.proofs.Certificates as certificates
use Rattle.verdict.proofs.Judged.{map-ok}
use Rattle.calls.specs.declared.status.Status.{Status}
use Rattle.calls.specs.Call.{Call, load, frame, reset, state, certificate, bench, Answer, framed, Left, nothing, Event}
use Rattle.calls.specs.Written.{answered}
use Rattle.counter.specs.Counter.{stepped, cleared}
use Rattle.relay.specs.Rules.{State, loaded_by, load_after, frame_answer, with_status, if_kept, called}
use Rattle.relay.specs.Ways.{event, Way, new, then, Run, run_more, run_on}
use Rattle.relay.specs.Past.{taken, file_after, loaded_after, frames_since}
use Rattle.relay.specs.Truth.{sure, possible}
use Rattle.relay.specs.Claims.{code_in, Right, Ruled, Claims}
use Rattle.counter.proofs.Tallies.{Tally, start, more, Passing, Passed, must, may}
use Rattle.relay.proofs.Picks.{Good, Pick, output_by, came, comes, bounded, sure-is-picked, picked-is-possible, truly, truths}
use Rattle.relay.proofs.Ranges.{own-near}

-- an accepted file with its bound, and the count and trip of the frames since it was loaded or the counter was reset
record Counting (m : Kinds) (file : List ℕ) (bound : ℕ) (frames : List (List ℤ)) (s : Status) : Type 0 where
  file-is : Loaded
  found : loaded_in m file ≡ Some file-is
  same-bound : file-is.bound ≡ bound
  good : Good m file-is
  tally : Tally file-is.head.header (Pick m file-is) frames s.count s.trip

-- a relay with no file has not tripped
abbrev CountsFor : Kinds → Option (List ℕ) → ℕ → List (List ℤ) → Status → Type 0
CountsFor m None bound frames s = s.trip ≡ false
CountsFor m (Some file) bound frames s = Counting m file bound frames s

-- what holds of a state that events led to
record Led (m : Kinds) (events : List Event) (s : State) : Type 0 where
  file : file_after events ≡ s.kept
  stands : CountsFor m s.kept s.bound (frames_since events) s.status

loads : (m : Kinds) → LawfulSet m → (file : List ℕ) (past : List Event) (s : State) (v : Result ℕ Refusal) → verdict_of m file ≡ v → Led m past s
    → Led m (record { call = load file; answer = answered Answer.loaded v; left = nothing } ∷ past) (load_after file v s)
loads m law file past s (Err e) v led = record { file = led.file; stands = led.stands }
loads m law file past s (Ok b) v led =
    let c = certificates.certificate m law file (Ok b) (sym v) in
    record {
      file = refl;
      stands = record {
        file-is = record { head = c.0; bound = b };
        found = loaded-is m file c.0 b c.1 v;
        same-bound = refl;
        good = record { certified = c.2; sound = (head_law file).accepted c.0 c.1 };
        tally = start;
      };
    }

-- a taken frame counts
counts : (m : Kinds) (codes : List ℤ) (kept : Option (List ℕ)) (bound : ℕ) (frames : List (List ℤ)) (s t : Status) → CountsFor m kept bound frames s
    → map_ok (λ o. stepped o s) (output_in m (loaded_by m kept) codes) ≡ Ok t → CountsFor m kept bound (codes ∷ frames) t
counts m codes None bound frames s t stands e = let z : ◌≡◌ {A = ℕ} 0 1 = cc in absurd (omega arith)
counts m codes (Some file) bound frames s t c e =
    let l = c.file-is in
    let q = sym (ap (λ o. map_ok (λ x. stepped x s) (output_in m o codes)) c.found) ∙ e in
    let out = map-ok (λ o. stepped o s) (output_of m l.head codes) t (sym q) in
    let k = came m l codes out.0 c.good out.1 in
    let after : stepped (output_by m l k.code) s ≡ t = ap (λ (o : Output). stepped o s) (sym k.is) ∙ out.2 in
    subst (Counting m file bound (codes ∷ frames)) after (record {
      file-is = l;
      found = c.found;
      same-bound = c.same-bound;
      good = c.good;
      tally = more _ (record { code = k.code; inside = k.inside; runs = k.runs; level = refl }) c.tally;
    })

frames-on : (m : Kinds) (codes : List ℤ) (past : List Event) (s : State) (r : Result Status Refusal) → frame_answer m s codes ≡ r → Led m past s
    → Led m (record { call = frame codes; answer = answered framed r; left = nothing } ∷ past) (with_status r s)
frames-on m codes past s (Err e) p led = record { file = led.file; stands = led.stands }
frames-on m codes past s (Ok t) p led =
    record { file = led.file; stands = counts m codes s.kept s.bound (frames_since past) s.status t led.stands p }

-- a reset counts from 0
restarts : (m : Kinds) (kept : Option (List ℕ)) (bound : ℕ) (frames : List (List ℤ)) (s t : Status) → CountsFor m kept bound frames s
    → if_kept kept (cleared s) ≡ Ok t → CountsFor m kept bound [] t
restarts m None bound frames s t stands e = let z : ◌≡◌ {A = ℕ} 0 1 = cc in absurd (omega arith)
restarts m (Some file) bound frames s t c e =
    let same : cleared s ≡ t = cc in
    subst (Counting m file bound []) same (record { file-is = c.file-is; found = c.found; same-bound = c.same-bound; good = c.good; tally = start })

resets : (m : Kinds) (past : List Event) (s : State) (r : Result Status Refusal) → if_kept s.kept (cleared s.status) ≡ r → Led m past s
    → Led m (record { call = reset; answer = answered (λ _. Answer.cleared) r; left = nothing } ∷ past) (with_status r s)
resets m past s (Err e) p led = record { file = led.file; stands = led.stands }
resets m past s (Ok t) p led = record { file = led.file; stands = restarts m s.kept s.bound (frames_since past) s.status t led.stands p }

-- a question changes nothing, taken or not
asks : (m : Kinds) (past : List Event) (s : State) (b : Bool) → Led m past s
    → (cond b (file_after past) (file_after past) ≡ s.kept) × CountsFor m s.kept s.bound (cond b (frames_since past) (frames_since past)) s.status
asks m past s true led = (led.file, led.stands)
asks m past s false led = (led.file, led.stands)

goes : (m : Kinds) → LawfulSet m → (c : Call) (past : List Event) (s : State) → Led m past s → Led m (event c (called m s c) ∷ past) (called m s c).after
goes m law (load file) past s led = loads m law file past s (verdict_of m file) refl led
goes m law (frame codes) past s led = frames-on m codes past s (frame_answer m s codes) refl led
goes m law reset past s led = resets m past s (if_kept s.kept (cleared s.status)) refl led
goes m law state past s led =
    let q = asks m past s (taken (called m s state).answer) led in record { file = q.0; stands = q.1 }
goes m law (certificate k b) past s led =
    let q = asks m past s (taken (called m s (certificate k b)).answer) led in record { file = q.0; stands = q.1 }
goes m law (bench k cs b) past s led =
    let q = asks m past s (taken (called m s (bench k cs b)).answer) led in record { file = q.0; stands = q.1 }

led-by : {m : Kinds} {events : List Event} {s : State} → LawfulSet m → Way m events s → Led m events s
led-by law new = record { file = refl; stands = refl }
led-by {m} law (then {past = past} {s = s} w c) = goes m law c past s (led-by law w)

-- the file that is loaded, where there is one
with-file : (m : Kinds) (kept : Option (List ℕ)) (bound : ℕ) (frames : List (List ℤ)) (s : Status) (l : Loaded) → CountsFor m kept bound frames s → loaded_by m kept ≡ Some l
    → Good m l × Tally l.head.header (Pick m l) frames s.count s.trip
with-file m None bound frames s l stands e = let z : ◌≡◌ {A = ℕ} 0 1 = cc in absurd (omega arith)
with-file m (Some file) bound frames s l c e =
    let same : c.file-is ≡ l = cc (c.found, e) in
    (subst (Good m) same c.good, subst (λ (k : Loaded). Tally k.head.header (Pick m k) frames s.count s.trip) same c.tally)

-- every frame inside the ranges was taken, and answered rightly
frame_right : (m : Kinds) (codes : List ℤ) (s : State) (l : Loaded) → Good m l → loaded_by m s.kept ≡ Some l → Inside l.head.inputs codes
    → Right m l codes (called m s (frame codes)).answer
frame_right m codes s l good e inside =
    let one = good.certified.runs codes inside in
    let y = one.0 in
    let out : frame_answer m s codes ≡ Ok (stepped (output_by m l y) s.status) =
    ap (λ o. map_ok (λ x. stepped x s.status) (output_in m o codes)) e ∙ ap (map_ok (λ x. stepped x s.status)) (comes m l codes y inside one.1) in
    record {
      code = y;
      runs = one.1;
      answered = ap (λ r. code_in (answered framed r)) out;
      bounded = λ truth near. bounded m l codes truth y good inside one.1 near;
      inputs_exist = own-near l.head.header.fraction l.head.inputs codes inside;
    }

-- the accepted file of a state that keeps one
accepted : (m : Kinds) (file : List ℕ) (kept : Option (List ℕ)) (bound : ℕ) (frames : List (List ℤ)) (s : Status) → kept ≡ Some file → CountsFor m kept bound frames s
    → (l : Loaded) × (loaded_in m file ≡ Some l) × (l.bound ≡ bound) × Good m l
accepted m file None bound frames s e c = let z : ◌≡◌ {A = ℕ} 0 1 = cc in absurd (omega arith)
accepted m file (Some other) bound frames s e c =
    let same : other ≡ file = cc in (c.file-is, subst (λ f. loaded_in m f ≡ Some c.file-is) same c.found, c.same-bound, c.good)

right : {m : Kinds} {events : List Event} {s : State} → LawfulSet m → Way m events s
    → (later past : List Event) (codes : List ℤ) (answer : Answer) (left : Left) (file : List ℕ)
    → later ++ (record { call = frame codes; answer = answer; left = left } ∷ past) ≡ events → file_after past ≡ Some file
    → (l : Loaded) × (loaded_in m file ≡ Some l) × (Inside l.head.inputs codes → Right m l codes answer)
right law new [] past codes answer left file e kept = absurd (cons≢nil e)
right law new (x ∷ later) past codes answer left file e kept = absurd (cons≢nil e)
right {m} law (then {past = before} {s = s} w c) [] past codes answer left file e kept =
    let same : ◌≡◌ {A = Event} (record { call = frame codes; answer = answer; left = left }) (event c (called m s c)) = cc in
    let call : frame codes ≡ c = ap (λ (x : Event). x.call) same in
    let said : answer ≡ (called m s (frame codes)).answer = subst (λ k. answer ≡ (called m s k).answer) (sym call) (ap (λ (x : Event). x.answer) same) in
    let since : past ≡ before = cc in
    let led = led-by law w in
    let at : s.kept ≡ Some file = sym led.file ∙ subst (λ p. file_after p ≡ Some file) since kept in
    let k = accepted m file s.kept s.bound (frames_since before) s.status at led.stands in
    let l = k.0 in
    (l, k.1, λ inside. subst (Right m l codes) (sym said) (frame_right m codes s l k.3 (ap (loaded_by m) at ∙ k.1) inside))
right law (then w c) (x ∷ later) past codes answer left file e kept = right law w later past codes answer left file (cc) kept

ruled : {m : Kinds} {events : List Event} {s : State} → Way m events s → (later past : List Event) (e : Event) → later ++ (e ∷ past) ≡ events → Ruled m past e
ruled new [] past e p = absurd (cons≢nil p)
ruled new (x ∷ later) past e p = absurd (cons≢nil p)
ruled {m} (then {past = before} {s = s} w c) [] past e p =
    let same : event c (called m s c) ≡ e = cc in
    let since : before ≡ past = cc in
    record {
      before = s;
      way = subst (λ q. Way m q s) since w;
      outcome = subst (λ (x : Event). x ≡ event x.call (called m s x.call)) same refl;
      after = subst (λ (x : Event). Way m (x ∷ past) (called m s x.call).after) same (subst (λ q. Way m (event c (called m s c) ∷ q) (called m s c).after) since (then w c));
    }
ruled (then w c) (x ∷ later) past e p = ruled w later past e (cc)

-- the theorem: the claims hold of every way, for every set that obeys the containment law
pub claims-stand : (m : Kinds) → LawfulSet m → (events : List Event) (s : State) → Way m events s → Claims m events s
claims-stand m law events s w =
    let led = led-by law w in
    let frames = frames_since events in
    let at : (l : Loaded) → loaded_after m events ≡ Some l → Good m l × Tally l.head.header (Pick m l) frames s.status.count s.status.trip =
    λ l e. with-file m s.kept s.bound frames s.status l led.stands (ap (loaded_by m) (sym led.file) ∙ e) in
    record {
      rules_kept = ruled w;
      file_kept = led.file;
      file_accepted = λ file e. let k = accepted m file s.kept s.bound frames s.status (sym led.file ∙ e) led.stands in (k.0, k.1, k.2);
      frames_right = right law w;
      idle = λ e. subst (λ o. CountsFor m o s.bound frames s.status) (sym led.file ∙ e) led.stands;
      must_trip = λ l e truths ts stretch heavy.
          let k = at l e in
          must (sure m l) k.0.sound.times.1 stretch.later stretch.run stretch.earlier
          (truly m l (Passing (sure m l)) (sure-is-picked m l k.0) k.1 ts) stretch.whole heavy;
      may_trip = λ l e truths ts on.
          let k = at l e in may (possible m l) (truly m l (Passed (possible m l)) (picked-is-possible m l k.0) k.1 ts) on;
      truths_exist = λ l e. truths m l (at l e).1;
    }

-- every list of calls is a way
pub run-way : (m : Kinds) (r : Run) (calls : List Call) → Way m r.events r.state → Way m (run_on m r calls).events (run_on m r calls).state
run-way m r [] w = w
run-way m r (c ∷ calls) w = run-way m (run_more m r c) calls (then w c)
