-- How large the form and the net of an energy are.
use Rattle.std.specs.Prelude.{ℕ, ◌+◌, ◌*◌}
use Rattle.pseudo_bool.specs.Limits.{variable_limit, term_limit, value_limit, constant_limit}

-- the most nodes: one for each variable, and a hidden one for each term of three
abbrev pub form_nodes : ℕ
form_nodes = variable_limit + term_limit

-- the most that the weights and the arcs of one term come to: a term of three has 20 times a number
-- of its table in weights, 12 times in arcs between variables, and 24 times in arcs of its hidden
-- node
abbrev pub term_size : ℕ
term_size = 56 * value_limit

-- the most that all weights and arcs together come to, below 2^59
abbrev pub form_size : ℕ
form_size = term_size * term_limit

-- the most that the constants of the energy and of its terms come to, below 2^54
abbrev pub form_constant : ℕ
form_constant = constant_limit + value_limit * term_limit

-- the greatest size of a net's constant, below 2^59: that of the form, less its weights below 0
abbrev pub compiled_constant : ℕ
compiled_constant = form_constant + form_size
