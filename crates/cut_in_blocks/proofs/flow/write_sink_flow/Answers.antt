use Rattle.std.proofs.Common.{rules}
use Rattle.cut_in_blocks.proofs.flow.write_sink_flow.Goals as goal

pub nodes-preserved : goal.nodes-preserved
nodes-preserved c = search rules
