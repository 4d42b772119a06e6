use Rattle.kept_labels.proofs.Turning.{AreSummed}
use Rattle.kept_labels.proofs.rises.last_rises.Given as goal

abbrev pub invariant-loop-site : goal.invariant-loop-site
invariant-loop-site l = AreSummed l.form l.rises l.site
