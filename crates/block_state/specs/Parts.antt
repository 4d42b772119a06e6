-- A state, and the blocks that show it.
use Rattle.std.specs.Prelude.{◌≡◌}
use Rattle.block_events.specs.States as core
use Rattle.block_split.specs.declared.parts.Parts.{Parts}
use Rattle.block_split.specs.Split.{whole_of}
use Rattle.block_events.specs.Effects.{state_of}
use Rattle.net_in_blocks.specs.Views.{blocks_in, IsLaid}

-- the blocks show the state
pub record IsIn (s : core.State) (p : Parts) : Type 0 where
  pub laid : IsLaid (whole_of s.net p)
  pub shown : state_of (blocks_in (whole_of s.net p)) s.ways s.got ≡ s
