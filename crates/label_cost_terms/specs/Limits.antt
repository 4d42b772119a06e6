-- How large what labels cost by themselves makes a form at most.
use Rattle.std.specs.Prelude.{ℕ}

-- the most terms that one label's cost comes to: the greatest cost at 2^20 nodes and once more is
-- at most 10,486 times the greatest number of a term, and those of 256 labels leave room for the
-- terms of 2^20 sites and 2^22 pairs
abbrev pub label_terms : ℕ
label_terms = 10486
