use Rattle.std.proofs.Common.{◌≡◌, slice_index}
use Rattle.plain_cut.specs.State.{IsUnlabelled}
use Rattle.plain_cut.proofs.opening.send_first.Given as goal

abbrev pub invariant-row : goal.invariant-row
invariant-row l = record {
  work : IsUnlabelled l.net l.work;
  left : l.left ≡ slice_index l.work.excess.items l.v;
  starts : l.work.rows.starts.items ≡ l.initial.work.rows.starts.items;
  ends : l.work.rows.ends.items ≡ l.initial.work.rows.ends.items;
}
