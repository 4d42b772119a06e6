-- How large the numbers are that sites are decided by.
use Rattle.std.specs.Prelude.{ℕ}

-- the greatest bound of a site, 5 * 10^17: far above a cost of a label and all surpluses together,
-- far below 2^62
abbrev pub bound_limit : ℕ
bound_limit = 500000000000000000
