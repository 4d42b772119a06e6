-- How large a net may be.
use Rattle.std.specs.Prelude.{ℕ, ◌-◌, ◌^◌}

-- the most nodes: a node's number, and its label up to two more than there are nodes, is a `u32`
abbrev pub node_limit : ℕ
node_limit = 2 ^ 24

-- the most that all capacities may be together, so that they stay below 2^62: then two sums of
-- capacities, flows or excess are together a `u64`, and the capacity of a cut is an `i64` with room
-- for a constant
abbrev pub capacity_limit : ℕ
capacity_limit = 2 ^ 62 - 1
