use Rattle.std.proofs.Common.{true, ◌∙◌}
use Rattle.cut_in_blocks.proofs.Taking.{accept_taken, refuse_taken, settle_by, from_same, none_taken}
use Rattle.cut_in_blocks.proofs.messages.take_front.Goals as goal

pub returns-then-perform-clause-taken : goal.returns-then-perform-clause-taken
returns-then-perform-clause-taken c =
    accept_taken c.args.state.now c.perform.new.self c.args.from c.args.to c.perform.ensures.sound c.if-perform.ensures.happens

pub returns-then-perform-2-clause-taken : goal.returns-then-perform-2-clause-taken
returns-then-perform-2-clause-taken c =
    from_same c.args.state.now c.perform.new.self c.perform-2.new.self true c.if-perform.ensures.happens.1
    (refuse_taken c.perform.new.self c.perform-2.new.self c.args.from c.args.to c.perform-2.ensures.sound c.if-perform-2.ensures.happens)

pub returns-clause-taken : goal.returns-clause-taken
returns-clause-taken c =
    from_same c.args.state.now c.perform-2.new.self c.perform-3.new.self c.perform-3.result (c.if-perform-2.ensures.happens.1 ∙ c.if-perform.ensures.happens.1)
    (settle_by c.perform-2.new.self c.perform-3.new.self c.args.from c.args.to c.perform-3.result c.perform-3.ensures.sound c.perform-3.ensures.happens)

pub returns-clause-none : goal.returns-clause-none
returns-clause-none c =
    none_taken c.args.state.now c.perform.new.self c.perform-2.new.self c.perform-3.new.self c.args.from c.args.to c.perform-3.result c.perform.ensures.sound
    c.if-perform.ensures.happens c.if-perform-2.ensures.happens c.perform-3.ensures.happens
