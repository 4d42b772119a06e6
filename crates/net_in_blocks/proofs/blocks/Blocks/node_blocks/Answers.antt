use Rattle.std.proofs.lemmas.Grind.{common_steps}
use Rattle.std.proofs.Common.{◌≡◌, ℕ, length, subst, arith}
use Rattle.std.specs.Prelude.{IfOk}
use Rattle.block_split.specs.Split.{node_blocks_made}
use Rattle.block_events.specs.Effects.{BlocksView}
use Rattle.net_in_blocks.proofs.blocks.Blocks.node_blocks.Goals as goal

pub node_blocks_of-requires : goal.node_blocks_of-requires
node_blocks_of-requires c =
    let len : c.len.result ≡ length c.self.inside.parts.blocks.items = grind (arith, common_steps) in
    record { arcs = c.self.invariant.arcs; some = omega (arith, len, c.self.invariant.some); few = omega (arith, len, c.self.invariant.few) }

pub returns : goal.returns
returns c =
    let i = c.self.inside in
    let len : c.len.result ≡ length i.parts.blocks.items = grind (arith, common_steps) in
    let made = subst (λ (k : ℕ). IfOk c.node_blocks_of.result (λ node_blocks. node_blocks.items ≡ node_blocks_made i.net k)) len c.node_blocks_of.ensures in
    subst (λ (q : BlocksView). IfOk c.node_blocks_of.result (λ node_blocks. node_blocks.items ≡ node_blocks_made q.net q.blocks)) c.self.view_is made
