-- Decimal numbers and hexadecimal bytes. Assumes nothing.
use Rattle.std.specs.Prelude.{ℕ, ◌+◌, ◌-◌, ◌*◌, Bool, cond, ◌&&◌, List, [], ◌∷◌, ℤ, pos, neg_ℤ, Some, None, Option, ◌==◌, nat_le}
use Rattle.std.specs.Option.{option_map}
use Rattle.script.specs.Parts.{onto}

abbrev pub is_decimal_digit : ℕ → Bool
is_decimal_digit c = nat_le 48 c && nat_le c 57

-- the number that digits give, where n was read before them
abbrev pub read_on : ℕ → List ℕ → Option ℕ
read_on n [] = Some n
read_on n (c ∷ cs) = cond (is_decimal_digit c) (read_on (10 * n + (c - 48)) cs) None

-- one digit or more
abbrev pub number_in : List ℕ → Option ℕ
number_in [] = None
number_in (c ∷ cs) = read_on 0 (c ∷ cs)

-- a number of at most m
abbrev pub up_to : ℕ → Option ℕ → Option ℕ
up_to m None = None
up_to m (Some n) = cond (nat_le n m) (Some n) None

-- a number of 32 bits
abbrev pub unsigned_in : List ℕ → Option ℕ
unsigned_in part = up_to 4294967295 (number_in part)

-- a signed number of 32 bits, with a minus in front if it is below 0
abbrev pub signed_in : List ℕ → Option ℤ
signed_in [] = None
signed_in (c ∷ cs) =
    cond (c == 45) (option_map (λ n. neg_ℤ (pos n)) (up_to 2147483648 (number_in cs))) (option_map (λ n. pos n) (up_to 2147483647 (number_in (c ∷ cs))))

-- a code in each part
abbrev pub codes_in : List (List ℕ) → Option (List ℤ)
codes_in [] = Some []
codes_in (p ∷ ps) = onto (signed_in p) (codes_in ps)

-- 0 to 9, a to f and A to F, by their character codes
abbrev pub hex_digit : ℕ → Option ℕ
hex_digit c =
    cond (nat_le 48 c && nat_le c 57) (Some (c - 48)) (cond (nat_le 97 c && nat_le c 102) (Some (c - 87)) (cond (nat_le 65 c && nat_le c 70) (Some (c - 55)) None))

abbrev pub byte_by : Option ℕ → Option ℕ → Option ℕ
byte_by None low = None
byte_by (Some h) None = None
byte_by (Some h) (Some l) = Some (16 * h + l)

-- two digits to a byte
abbrev pub bytes_in : List ℕ → Option (List ℕ)
bytes_in [] = Some []
bytes_in (h ∷ []) = None
bytes_in (h ∷ (l ∷ rest)) = onto (byte_by (hex_digit h) (hex_digit l)) (bytes_in rest)
