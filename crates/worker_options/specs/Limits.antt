-- How large the numbers of the workers may be.
use Rattle.std.specs.Prelude.{ℕ}

-- the most threads: more than a processor has that this was made for
abbrev pub thread_limit : ℕ
thread_limit = 64

-- the most messages that a ring has room for, 2^16: two rings for each two of 256 blocks then stay
-- far from the bounds of memory's addresses
abbrev pub ring_limit : ℕ
ring_limit = 65536

-- the most turns that are drawn in a round, so that the events of a round are counted in 64 bits
abbrev pub turn_limit : ℕ
turn_limit = 1000000

-- the most rounds
abbrev pub round_limit : ℕ
round_limit = 10000
