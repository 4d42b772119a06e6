-- How large the numbers of a table may be that is tested.
use Rattle.std.specs.Prelude.{ℕ}

-- the greatest size of a number, 10^18: the sum of two fits 64 bits with its sign, and tables whose
-- numbers are sums or products of many numbers of an energy may be tested too
abbrev pub entry_limit : ℕ
entry_limit = 1000000000000000000
