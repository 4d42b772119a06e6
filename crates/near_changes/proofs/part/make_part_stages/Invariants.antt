use Rattle.near_changes.specs.SideBySide.{IsPartReady, KeepsZerosOf}
use Rattle.near_changes.proofs.part.make_part_stages.Given as goal

abbrev pub invariant-loop-stage : goal.invariant-loop-stage
invariant-loop-stage l = record {
  ready : IsPartReady l.form.pairs.now l.form.ends.now l.part;
  zeros : KeepsZerosOf l.form l.fn.part.variables.choices.items l.part.variables.choices.items;
}
