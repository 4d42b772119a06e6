use Rattle.part_threads.specs.Drawing.{OfDrawnParts}
use Rattle.part_threads.proofs.drawing.draw_parts.Given as goal

abbrev pub invariant-loop : goal.invariant-loop
invariant-loop g l = OfDrawnParts (λ i answer. (goal.Fn-dyn g).post l.work.now (i, tt) answer) l.parts.items
