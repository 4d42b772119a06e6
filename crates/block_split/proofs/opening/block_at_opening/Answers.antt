use Rattle.std.proofs.Common.{◌+◌, ◌∙◌, sym, ap, subst, arith}
use Rattle.block_net.specs.Views.{IsBlock}
use Rattle.block_split.proofs.opening.block_at_opening.Goals as goal
use Rattle.block_split.proofs.Ordered.{starts_length, starts_rise, outer_length, outer_rise}
use Rattle.block_split.proofs.Opened.{opened_block, made_is_block}

pub outer_starts-requires : goal.outer_starts-requires
outer_starts-requires c = omega (arith, starts_length c.args.net.now c.args.blocks c.args.starts.now c.requires.starts)

pub starts_from-requires-clause-within : goal.starts_from-requires-clause-within
starts_from-requires-clause-within c =
    omega (arith, c.bounds-first.ensures.within, outer_length c.args.net.now c.args.blocks c.args.starts.now c.outer_starts.result.now c.requires.starts c.outer_starts.ensures)

pub starts_from-requires-clause-grow : goal.starts_from-requires-clause-grow
starts_from-requires-clause-grow c = λ v low high.
    outer_rise c.args.net.now c.args.blocks c.bounds-first.result.0 v c.args.starts.now c.outer_starts.result.now c.requires.starts c.outer_starts.ensures low (omega (arith, high, c.bounds-first.ensures.within))

pub starts_from-requires-2-clause-within : goal.starts_from-requires-2-clause-within
starts_from-requires-2-clause-within c =
    omega (arith, c.bounds-first.ensures.within, starts_length c.args.net.now c.args.blocks c.args.starts.now c.requires.starts)

pub starts_from-requires-2-clause-grow : goal.starts_from-requires-2-clause-grow
starts_from-requires-2-clause-grow c = λ v low high.
    starts_rise c.args.net.now c.args.blocks c.bounds-first.result.0 v c.args.starts.now c.requires.starts low (omega (arith, high, c.bounds-first.ensures.within))

pub new-requires : goal.new-requires
new-requires c =
    let is = opened_block c.args.net.now c.args.blocks c.args.block c.bounds-first.result.0 c.bounds-first.result.1 (c.nodes.result + 2) c.args.starts.now c.outer_starts.result.now
    c.in_ok-nodes.nodes.excess.items c.in_ok-nodes.nodes.labels.items c.in_ok-nodes.nodes.rooms.items c.in_ok-starts.starts.items c.args.lanes.items
    c.in_ok-border_starts.border_starts.items c.args.borders.items c.bounds-first.ensures.first c.bounds-first.ensures.next c.requires.starts c.outer_starts.ensures
    (ap (λ n. n + 2) c.nodes.ensures.value) c.in_ok-nodes.ensures.excess c.in_ok-nodes.ensures.labels c.in_ok-nodes.ensures.rooms c.in_ok-starts.ensures
    c.requires.lanes c.in_ok-border_starts.ensures c.requires.borders in
    subst IsBlock (sym is) (made_is_block c.args.net.now c.args.blocks c.args.block c.bounds-first.ensures.limits c.requires.split c.requires.block)

pub returns : goal.returns
returns c =
    c.in_ok-cells.ensures
    ∙ opened_block c.args.net.now c.args.blocks c.args.block c.bounds-first.result.0 c.bounds-first.result.1 (c.nodes.result + 2) c.args.starts.now c.outer_starts.result.now
    c.in_ok-nodes.nodes.excess.items c.in_ok-nodes.nodes.labels.items c.in_ok-nodes.nodes.rooms.items c.in_ok-starts.starts.items c.args.lanes.items
    c.in_ok-border_starts.border_starts.items c.args.borders.items c.bounds-first.ensures.first c.bounds-first.ensures.next c.requires.starts c.outer_starts.ensures
    (ap (λ n. n + 2) c.nodes.ensures.value) c.in_ok-nodes.ensures.excess c.in_ok-nodes.ensures.labels c.in_ok-nodes.ensures.rooms c.in_ok-starts.ensures
    c.requires.lanes c.in_ok-border_starts.ensures c.requires.borders
