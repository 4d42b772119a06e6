use Rattle.std.proofs.Common.{rules}
use Rattle.one_move.proofs.workspace.Workspace.assign.Goals as goal

pub assign_listed-requires : goal.assign_listed-requires
assign_listed-requires c = search rules
