use Rattle.std.proofs.Common.{◌+◌, ◌*◌}
use Rattle.part_threads.proofs.by_threads.+hands.Given as goal

abbrev pub decreases-draw_beside : goal.decreases-draw_beside
decreases-draw_beside g l = 2 * l.others

abbrev pub decreases-rest : goal.decreases-rest
decreases-rest g l = 2 * l.left + 1
