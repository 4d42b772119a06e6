-- How large costs may be.
use Rattle.std.specs.Prelude.{ℕ, ℤ, pos, ◌*◌}
use Rattle.label_field.specs.Limits.{site_limit, label_limit, pair_limit, weight_limit}

-- the greatest cost of a label at a site, 10^7, as a natural number: with it and the next limits
-- every energy stays below 2^62
abbrev pub site_cost_limit : ℕ
site_cost_limit = 10000000

-- the same as an integer
abbrev pub data_limit : ℤ
data_limit = pos site_cost_limit

-- the greatest cost of two labels at a pair of weight 1, 10^4: with a weight of 1,000 a pair costs
-- at most 10^7, as a label does
abbrev pub smooth_limit : ℤ
smooth_limit = pos 10000

-- the greatest cost of a label by itself, as that of a label at a site
abbrev pub label_cost_limit : ℕ
label_cost_limit = site_cost_limit

-- the greatest cost of a pair, 10^7: the greatest weight, 1,000, times the greatest smooth cost
abbrev pub pair_cost_limit : ℕ
pair_cost_limit = weight_limit * 10000

-- what the labels cost the sites at most: 2^20 sites, 10^7 each
abbrev pub data_energy_limit : ℕ
data_energy_limit = site_limit * site_cost_limit

-- what they cost the pairs at most: 2^22 pairs, 10^7 each
abbrev pub smooth_energy_limit : ℕ
smooth_energy_limit = pair_limit * pair_cost_limit

-- what labels cost by themselves at most: 2^8 labels, 10^7 each
abbrev pub label_energy_limit : ℕ
label_energy_limit = label_limit * label_cost_limit
