-- How large a net in blocks may be.
use Rattle.std.specs.Prelude.{ℕ, ◌^◌}

-- the most blocks: more than there are processors to work on them
abbrev pub block_limit : ℕ
block_limit = 256

-- the most arcs of a net that is split, so that a place among their directions is a `u32`
abbrev pub arc_limit : ℕ
arc_limit = 2 ^ 31
