-- The greatest numbers of sites, labels and pairs, and the greatest weight. With costs in their
-- limits they keep the energy of every labelling, and all capacities of a move's network together,
-- far below 2^62.
use Rattle.std.specs.Prelude.{ℕ, ◌*◌, ◌^◌}

-- 2^20, one for each pixel of a picture of 1,024 by 1,024
abbrev pub site_limit : ℕ
site_limit = 2 ^ 20

-- a label below it takes one byte
abbrev pub label_limit : ℕ
label_limit = 2 ^ 8

-- 2^22, four for each site: of a picture whose sites have eight neighbours, each pair once
abbrev pub pair_limit : ℕ
pair_limit = 4 * site_limit

-- times a cost of two labels, which is at most 10,000, it is at most 10,000,000, which is also the
-- greatest cost of a label at a site
abbrev pub weight_limit : ℕ
weight_limit = 1000

-- a column or row of 4,096 is the longest; the product of two such sides is below 2^32
abbrev pub side_limit : ℕ
side_limit = 4096
