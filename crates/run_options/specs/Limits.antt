-- How large the numbers of a run may be.
use Rattle.std.specs.Prelude.{ℕ, ℤ, pos, ◌≤ℤ◌}

-- the greatest cost of two labels at the sites of a pair of weight 1, 10^4
abbrev pub greatest_smooth_cost : ℕ
greatest_smooth_cost = 10000

-- the greatest cost of a label at a site, 10^7: as much as a pair costs at the greatest weight,
-- 1,000
abbrev pub greatest_data_cost : ℕ
greatest_data_cost = 10000000

-- the greatest cost of a label by itself, as that of a label at a site
abbrev pub greatest_label_cost : ℕ
greatest_label_cost = greatest_data_cost

-- the greatest number at which a cost by distance may be cut off, so that what is cut off is a cost
-- in range
abbrev pub trunc_limit : ℕ
trunc_limit = greatest_smooth_cost

-- the most cycles of a run
abbrev pub cycle_limit : ℕ
cycle_limit = 1000

-- the greatest number at which the cost of a label at a pixel may be cut off: that of a cost of a
-- label at a site
abbrev pub cap_limit : ℕ
cap_limit = greatest_data_cost

-- the greatest sample of a picture, which is the greatest maxval, 2^16 - 1
abbrev pub greatest_sample : ℕ
greatest_sample = 65535

-- a cost of two labels in its range
abbrev pub IsSmoothCost : ℤ → Type 0
IsSmoothCost cost = (pos 0 ≤ℤ cost) × (cost ≤ℤ pos greatest_smooth_cost)

-- a cost of a label by itself in its range
abbrev pub IsLabelCost : ℤ → Type 0
IsLabelCost cost = (pos 0 ≤ℤ cost) × (cost ≤ℤ pos greatest_label_cost)
