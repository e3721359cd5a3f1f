-- Grains as decimals with eight places, rounded to the nearest. Assumes nothing.
use Rattle.std.specs.Prelude.{ℕ, ◌+◌, ◌*◌, ◌/◌, ◌%◌, cond, List, ◌++◌, ℤ, pos, codes, decimal, int_lt, unsigned_abs}

-- m grains in units of 10^-8: a grain is 2^-24
abbrev pub in_places : ℕ → ℕ
in_places m = (m * 100000000 + 8388608) / 16777216

-- the eight digits of q after the point
abbrev pub places : ℕ → List ℕ
places q =
    decimal (q / 10000000 % 10) ++ (decimal (q / 1000000 % 10) ++ (decimal (q / 100000 % 10) ++ (decimal (q / 10000 % 10)
    ++ (decimal (q / 1000 % 10) ++ (decimal (q / 100 % 10) ++ (decimal (q / 10 % 10) ++ decimal (q % 10)))))))

abbrev pub unsigned_text : ℕ → List ℕ
unsigned_text q = decimal (q / 100000000) ++ (codes "." ++ places q)

-- a sign, the whole units, a point and eight places
unfoldable pub grains_text : ℤ → List ℕ
grains_text z = cond (int_lt z (pos 0)) (codes "-" ++ unsigned_text (in_places (unsigned_abs z))) (unsigned_text (in_places (unsigned_abs z)))
