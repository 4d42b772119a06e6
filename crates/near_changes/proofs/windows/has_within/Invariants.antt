use Rattle.std.proofs.Common.{◌≡◌, take, false}
use Rattle.std.specs.List.{list_any}
use Rattle.near_changes.specs.SideBySide.{is_of}
use Rattle.near_changes.proofs.windows.has_within.Given as goal

abbrev pub invariant-loop-index : goal.invariant-loop-index
invariant-loop-index l = list_any (is_of l.window) (take l.index l.sites) ≡ false
