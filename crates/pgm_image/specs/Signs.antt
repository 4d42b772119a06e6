-- The bytes that headers and plain samples are made of.
use Rattle.std.specs.Prelude.{ℕ, Bool, ◌+◌, ◌-◌, ◌*◌, ◌==◌, ◌||◌, ◌&&◌, nat_lt, nat_le}
use Rattle.std.specs.Prelude.{if◌then◌else◌}

-- blank, TAB, CR, LF
abbrev pub is_space : ℕ → Bool
is_space b = (b == 32) || (b == 9) || (b == 13) || (b == 10)

abbrev pub is_line_end : ℕ → Bool
is_line_end b = (b == 13) || (b == 10)

abbrev pub is_digit : ℕ → Bool
is_digit b = nat_le 48 b && nat_le b 57

-- above every limit of a header's numbers
abbrev pub number_cap : ℕ
number_cap = 10000000

-- numbers are kept up to the cap
abbrev pub cap : ℕ → ℕ
cap n = if nat_lt n number_cap then n else number_cap

-- one more digit, and no more than the cap
abbrev pub with_digit : ℕ → ℕ → ℕ
with_digit n b = if nat_lt n number_cap then cap (10 * n + (b - 48)) else number_cap
