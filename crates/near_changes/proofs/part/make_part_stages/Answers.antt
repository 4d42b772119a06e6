use Rattle.near_changes.proofs.part.make_part_stages.Goals as goal

pub returns-then-len-most-clause-zeros : goal.returns-then-len-most-clause-zeros
returns-then-len-most-clause-zeros c = c.loop-stage.invariant.zeros

pub returns-then-not-branch-clause-zeros : goal.returns-then-not-branch-clause-zeros
returns-then-not-branch-clause-zeros c = λ m move told is was.
    c.in_ok-make_part_stage.ensures.zeros m move told is (c.loop-stage.invariant.zeros m move told is was)

pub loop-stage-preserved : goal.loop-stage-preserved
loop-stage-preserved c = record {
  ready = c.in_ok-make_part_stage.ensures.ready;
  zeros = λ m move told is was. c.in_ok-make_part_stage.ensures.zeros m move told is (c.loop-stage.invariant.zeros m move told is was);
}
