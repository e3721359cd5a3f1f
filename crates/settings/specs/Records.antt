-- Records, each led by its length. Assumes nothing.
use Rattle.std.specs.Prelude.{ℕ, ◌+◌, cond, ◌&&◌, List, length, take, drop, Some, None, Option, nat_le}
use Rattle.fixed.specs.Bytes.{u16_at}

-- A record, and the bytes after it.
pub record Split : Type 0 where
  pub front : List ℕ
  pub rest : List ℕ

-- A record is led by its length in two bytes, which counts the bytes after them. None where it runs past the end.
abbrev pub split_record : List ℕ → Option Split
split_record xs =
    cond (nat_le 2 (length xs) && nat_le (2 + u16_at xs 0) (length xs))
    (Some (record { front = take (u16_at xs 0) (drop 2 xs); rest = drop (2 + u16_at xs 0) xs }))
    None
