use Rattle.persistency.proofs.Told.{AreTold}
use Rattle.persistency.proofs.telling.add_strip.Given as goal

abbrev pub invariant-loop-place : goal.invariant-loop-place
invariant-loop-place l = AreTold l.sites l.lower l.upper l.fn.choices l.place l.choices
