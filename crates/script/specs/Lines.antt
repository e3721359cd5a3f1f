-- What a line of a script asks for. Assumes nothing.
use Rattle.std.specs.Prelude.{ℕ, min, cond, List, [], ◌∷◌, length, replicate, ℤ, pos, Some, None, codes, Option, ◌==◌}
use Rattle.std.specs.Option.{option_map}
use Rattle.std.specs.Str.{bytes_eq}
use Rattle.calls.specs.Call.{Call, load, frame, reset, state, certificate, bench, no_certificate}
use Rattle.script.specs.Parts.{split}
use Rattle.script.specs.Numbers.{unsigned_in, codes_in, bytes_in}

-- the number in the first part, and the parts behind it
abbrev pub first_number : List (List ℕ) → Option ℕ
first_number [] = None
first_number (p ∷ ps) = unsigned_in p

abbrev pub further : List (List ℕ) → List (List ℕ)
further [] = []
further (p ∷ ps) = ps

-- a call that takes nothing
abbrev pub alone : Call → List (List ℕ) → Option Call
alone c [] = Some c
alone c (p ∷ ps) = None

-- no part is an empty file, one part is its bytes
abbrev pub load_of : List (List ℕ) → Option Call
load_of [] = Some (load [])
load_of (p ∷ []) = cond (length p == 0) None (option_map (λ bytes. load bytes) (bytes_in p))
load_of (p ∷ (q ∷ ps)) = None

abbrev pub frame_of : List (List ℕ) → Option Call
frame_of ps = option_map (λ zs. frame zs) (codes_in ps)

-- a stage and the places of a buffer of at most 64
abbrev pub certificate_by : Option ℕ → Option ℕ → List (List ℕ) → Option Call
certificate_by None p ps = None
certificate_by (Some k) None ps = None
certificate_by (Some k) (Some p) ps = alone (certificate k (replicate (min p 64) no_certificate)) ps

abbrev pub certificate_of : List (List ℕ) → Option Call
certificate_of ps = certificate_by (first_number ps) (first_number (further ps)) (further (further ps))

-- the same, and codes
abbrev pub bench_by : Option ℕ → Option ℕ → Option (List ℤ) → Option Call
bench_by None p zs = None
bench_by (Some k) None zs = None
bench_by (Some k) (Some p) zs = option_map (λ cs. bench k cs (replicate (min p 64) (pos 0))) zs

abbrev pub bench_of : List (List ℕ) → Option Call
bench_of ps = bench_by (first_number ps) (first_number (further ps)) (codes_in (further (further ps)))

-- the call by its word and what follows it
abbrev pub call_by : List ℕ → List (List ℕ) → Option Call
call_by word ps =
    cond (bytes_eq word (codes "load")) (load_of ps)
    (cond (bytes_eq word (codes "frame")) (frame_of ps)
    (cond (bytes_eq word (codes "reset")) (alone reset ps)
    (cond (bytes_eq word (codes "state")) (alone state ps)
    (cond (bytes_eq word (codes "certificate")) (certificate_of ps)
    (cond (bytes_eq word (codes "bench")) (bench_of ps)
    None)))))

abbrev pub call_of_parts : List (List ℕ) → Option Call
call_of_parts [] = None
call_of_parts (word ∷ ps) = call_by word ps

-- the call of a line, or none where it is malformed: its parts stand between single spaces
abbrev pub call_of : List ℕ → Option Call
call_of line = call_of_parts (split 32 line)
