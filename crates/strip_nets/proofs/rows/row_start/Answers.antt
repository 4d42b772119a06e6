use Rattle.std.proofs.Common.{ℕ, List, ap, slice_index}
use Rattle.strip_nets.proofs.rows.row_start.Goals as goal

pub returns : goal.returns
returns c = ap (λ (xs : List ℕ). slice_index xs c.args.site) c.requires.places.starts
