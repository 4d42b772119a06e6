-- How large an energy may be.
use Rattle.std.specs.Prelude.{ℕ, ◌*◌, ◌^◌}

-- the most variables, 2^21: two for each pixel of an image of 1,024 by 1,024
abbrev pub variable_limit : ℕ
variable_limit = 2 ^ 21

-- the most terms, 2^23: four for each variable, eight for each pixel of such an image
abbrev pub term_limit : ℕ
term_limit = 4 * variable_limit

-- the greatest size of a number of a table, and of a constant in one call, 10^9: it fits 32 bits
-- with its sign, and all the numbers of all terms together stay far below 2^62
abbrev pub value_limit : ℕ
value_limit = 10 ^ 9

-- the greatest size of the sum of the constants, 10^15: a million calls at the greatest size
abbrev pub constant_limit : ℕ
constant_limit = 1000000 * value_limit
