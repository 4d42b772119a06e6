use Rattle.std.proofs.Common.{◌+◌, ◌∙◌, ℕ, List, slice_index, cond, ap, arith}
use Rattle.flow_network.specs.Cut.{nodes}
use Rattle.block_events.specs.States.{is_border}
use Rattle.block_split.specs.Split.{starts_made}
use Rattle.block_split.proofs.Ordered.{starts_length}
use Rattle.block_split.proofs.slots.base_for.Goals as goal

pub bounds-split-before : goal.bounds-split-before
bounds-split-before c =
    let split = c.args.split.now in
    omega (arith, c.starts_before-before.ensures.within, c.near_first-first.ensures.within, starts_length split.net.now split.blocks split.starts.now c.requires.numbers.starts_are)

pub returns : goal.returns
returns c =
    let split = c.args.split.now in
    let net = split.net.now in
    let kind = cond (is_border net split.blocks c.args.direction) (nodes net) 0 in
    ap (λ (xs : List ℕ). slice_index xs (c.starts_before-before.result + c.near_first-first.result)) c.requires.numbers.starts_are
    ∙ (ap (λ (k : ℕ). slice_index (starts_made net split.blocks) (k + c.near_first-first.result)) c.starts_before-before.ensures.value
    ∙ ap (λ (k : ℕ). slice_index (starts_made net split.blocks) (kind + k)) c.near_first-first.ensures.value)
