-- What a block keeps from turn to turn.
use Rattle.std.specs.Prelude.{ℕ, ◌<◌, List, length, Contains}
use Rattle.block_net.specs.Views.{CellsView, border_in}

-- the list has each block that a direction leads to
abbrev pub IsKnown : CellsView → List ℕ → Type 0
IsKnown b others = (j : ℕ) → j < length b.borders → Contains others (border_in b j).to
