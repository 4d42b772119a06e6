-- Which nets workers share, and by which options.
use Rattle.std.specs.Prelude.{◌≡◌, ◌↔◌, ◌⊎◌, ℕ, ◌/◌, ◌<◌, ◌==◌, not, min, max, length, sum_by}
use Rattle.sums.specs.Sums.{count_if}
use Rattle.flow_network.specs.Cut.{Network, nodes}
use Rattle.block_events.specs.States.{block_of}
use Rattle.worker_options.specs.declared.options.Options.{Options}
use Rattle.worker_options.specs.Ranges.{AreInRange}

-- how many arcs lead from one block to another, where the net is split into so many
abbrev pub arcs_between : Network → ℕ → ℕ
arcs_between net blocks = sum_by
    (λ arc. count_if (not (block_of net blocks arc.from == block_of net blocks arc.to)) 1) net.arcs

-- one thread alone may cut the net, it has few nodes or few for each block, or more than one of
-- eight arcs lead from block to block
abbrev pub IsLeftToOneThread : Network → Options → Type 0
IsLeftToOneThread net options =
    (options.threads < 2) ⊎ (nodes net < 4096) ⊎ (nodes net / 256 < options.blocks)
    ⊎ (length net.arcs / 8 < arcs_between net options.blocks)

-- the options for a net of so many nodes: no more turns in a round than one for each 64 nodes, no
-- more rounds than one for each 8,192, of which there is at least one, and all else the same; they
-- are in range exactly where the others are
pub record AreForNodes (nodes : ℕ) (whole options : Options) : Type 0 where
  pub threads : options.threads ≡ whole.threads
  pub blocks : options.blocks ≡ whole.blocks
  pub ring : options.ring ≡ whole.ring
  pub turns : AreInRange whole → options.turns ≡ min whole.turns (nodes / 64)
  pub rounds : AreInRange whole → options.rounds ≡ min whole.rounds (max 1 (nodes / 8192))
  pub range : AreInRange options ↔ AreInRange whole
