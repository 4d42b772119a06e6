use Rattle.net_in_blocks.proofs.Lowering.{search_starts, search_exact}
use Rattle.net_in_blocks.proofs.blocks.Blocks.find_labels.Goals as goal

pub passes-init : goal.passes-init
passes-init c = search_starts _ _ c.cut_off.ensures.rest c.cut_off.ensures.len c.cut_off.ensures.tops

pub returns-clause-exact : goal.returns-clause-exact
returns-clause-exact c =
    rw (c.lower_all.ensures.lowered.still c.passes-test.false)
    (search_exact c.args.self.now c.passes.self c.cut_off.ensures.long.net c.passes.invariant.rest c.passes.invariant.len c.passes.invariant.reached (c.lower_all.ensures.stable c.passes-test.false))
