use Rattle.std.proofs.Common.{◌≡◌, ℕ, ◌<◌, false, true, length, get_or}
use Rattle.block_net.specs.Views.{border_in}
use Rattle.block_rings.proofs.Scanning.{LeadsBefore}
use Rattle.block_rings.proofs.linked_blocks.scan_cells.Given as goal

abbrev pub invariant-loop-j : goal.invariant-loop-j
invariant-loop-j l = record {
  len : length l.flags.items ≡ l.blocks;
  set : (i : ℕ) → i < l.j → (border_in l.cells i).to < l.blocks → get_or l.flags.items (border_in l.cells i).to false ≡ true;
  only : (c : ℕ) → get_or l.flags.items c false ≡ true → LeadsBefore l.cells l.j c;
}
