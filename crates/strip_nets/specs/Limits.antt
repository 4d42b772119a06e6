-- How large the borders of a strip are.
use Rattle.std.specs.Prelude.{ℕ}

-- the most that the borders of a strip come to: a surplus of 2 * 10^7 for each end of 2^22 pairs
abbrev pub borders_limit : ℕ
borders_limit = 167772160000000
