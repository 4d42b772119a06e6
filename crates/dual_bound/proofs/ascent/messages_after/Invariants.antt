use Rattle.std.proofs.Common.{◌≡◌, ◌*◌, length}
use Rattle.message_bound.specs.PairTables.{ServesPairs}
use Rattle.dual_bound.proofs.ascent.messages_after.Given as goal

abbrev pub invariant-loop-pass : goal.invariant-loop-pass
invariant-loop-pass g l = record {
  serves : ServesPairs g.F.Fn g.V.Fn l.problem l.costs;
  messages : length l.messages.items ≡ length l.problem.pairs.list * l.problem.data_cost.labels;
  sums : length l.sums.items ≡ l.problem.data_cost.labels;
  own : length l.own.items ≡ l.problem.data_cost.labels;
  out : length l.out.items ≡ l.problem.data_cost.labels;
}
