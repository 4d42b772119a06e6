-- How large the parts of a move's form are at most.
use Rattle.std.specs.Prelude.{ℕ, ◌*◌, ◌^◌}
use Rattle.cost_store.specs.Limits.{pair_cost_limit}

-- the greatest surplus of a pair, 2 * 10^7: what two of its costs are together
abbrev pub surplus_limit : ℕ
surplus_limit = 2 * pair_cost_limit

-- the most that the weights of all open sites come to without their signs, 3 * 10^14: of each of
-- 2^20 sites a cost, and of each end of 2^22 pairs a cost and a surplus; far below the size of as
-- many terms
abbrev pub weights_limit : ℕ
weights_limit = 3 * 10 ^ 14
