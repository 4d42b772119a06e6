use Rattle.strip_nets.proofs.Degrees.{AreFirstBegun}
use Rattle.strip_nets.proofs.rows.begin_rows.Given as goal

abbrev pub invariant-loop-index : goal.invariant-loop-index
invariant-loop-index l = AreFirstBegun l.material l.sites l.index l.starts.items l.total
