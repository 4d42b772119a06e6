use Rattle.std.proofs.Common.{List, ℕ, sym, subst}
use Rattle.block_split.specs.Split.{rows_made, IsSplit}
use Rattle.block_split.proofs.Splitting.{split_is}
use Rattle.block_split.proofs.Ordered.{rows_grouped}
use Rattle.block_split.proofs.parts.Parts.split.Goals as goal

pub returns : goal.returns
returns c =
    let net = c.args.net.now in
    let blocks = c.args.blocks in
    let rows = rows_made net blocks in
    let limits = c.in_ok-firsts.ensures.limits in
    subst (λ (slots : List ℕ). IsSplit net blocks c.in_ok-firsts.firsts.items slots c.in_ok-blocks.field-0.blocks.items) (sym c.in_ok-blocks.ensures.slots)
    (split_is net blocks rows c.in_ok-firsts.firsts.items c.in_ok-blocks.field-0.blocks.items limits c.requires (rows_grouped net blocks limits) c.in_ok-firsts.ensures.firsts c.in_ok-blocks.ensures.blocks)
