use Rattle.std.proofs.Common.{◌≡◌, take}
use Rattle.std.specs.Prelude.{filter}
use Rattle.near_changes.specs.SideBySide.{is_of}
use Rattle.near_changes.proofs.windows.list_within.Given as goal

abbrev pub invariant-loop-index : goal.invariant-loop-index
invariant-loop-index l = l.list.items ≡ filter (is_of l.window) (take l.index l.sites)
