use Rattle.std.proofs.lemmas.Grind.{common_steps}
use Rattle.std.proofs.Common.{arith}
use Rattle.block_state.proofs.rooms.Rooms.count_arc.Goals as goal

pub add_two-requires-2-clause-to : goal.add_two-requires-2-clause-to
add_two-requires-2-clause-to c = grind (arith, common_steps)
