use Rattle.near_swaps.proofs.looking.make_stage.Goals as goal

pub open_front-requires-clause-inside : goal.open_front-requires-clause-inside
open_front-requires-clause-inside c = c.in_ok-end_near.ensures.front

pub returns-then-branch-clause-least : goal.returns-then-branch-clause-least
returns-then-branch-clause-least c = λ m move told yes. c.in_ok-end_near.ensures.least m move told c.if-branch.true
