use Rattle.std.proofs.Common.{◌∙◌, ap, inl, inr}
use Rattle.one_move.specs.Refusals.{cut_told}
use Rattle.moves.proofs.laws.alone_refuses_memory.Goals as goal

pub returns : goal.returns
returns c = λ e may. elim may [
  | inl is ↦ is
  | inr told ↦ told.2 ∙ ap cut_told told.1
]
