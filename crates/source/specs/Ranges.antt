-- Which ranges there are.
use Rattle.std.specs.Prelude.{ℕ, cond, ◌&&◌, nat_le}

-- a range from 1 to 32 as it is, and 1 for any other number
abbrev pub range_or_one : ℕ → ℕ
range_or_one range = cond (nat_le 1 range && nat_le range 32) range 1
