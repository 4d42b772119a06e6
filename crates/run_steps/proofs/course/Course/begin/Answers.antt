use Rattle.std.proofs.Common.{refl, inl, inr, arith, sym, ◌∙◌}
use Rattle.label_energies.specs.Chains.{moves_of}
use Rattle.run_steps.proofs.Courses.{begin_stands}
use Rattle.run_steps.proofs.course.Course.begin.Goals.{then-allowed-eq0, else-allowed-eq0+then-count-eq0, else-allowed-eq0+else-count-eq0}
use Rattle.run_steps.proofs.course.Course.begin.Goals as goal

pub returns-clause-stands : goal.returns-clause-stands
returns-clause-stands c = λ m f.
    begin_stands m (moves_of c.args.moves c.args.labels) c.args.allowed _ f c.if-allowed-eq0.ended refl refl c.count-count.ensures refl
    (elim c.if-allowed-eq0.branch [
      | then-allowed-eq0 w ↦ inl (w.if-allowed-eq0.true, w.ended-is)
      | else-allowed-eq0+then-count-eq0 w ↦ inr (inl (omega (arith, w.if-allowed-eq0.false), sym c.count-count.ensures ∙ w.if-count-eq0.true, w.ended-is))
      | else-allowed-eq0+else-count-eq0 w ↦ inr (inr (omega (arith, w.if-allowed-eq0.false), w.ended-is))
    ])
