use Rattle.std.proofs.Common.{ℕ, pos, ◌≡◌, ◌<◌, slice_index_or, vec_len, vec_capacity}
use Rattle.cost_store.specs.Promises.{AnswersTable}
use Rattle.cost_store.proofs.data.DataCost.column_of.Given as goal

abbrev pub invariant-loop-site : goal.invariant-loop-site
invariant-loop-site g l = record {
  len : vec_len l.column ≡ l.site;
  room : vec_capacity l.column ≡ l.self.sites;
  each : (cost : ℕ → ℕ → ℕ) → AnswersTable (goal.F-post g l.self.f) cost l.self.sites l.self.labels →
      (a : ℕ) → a < l.site → slice_index_or l.column.items a (pos 0) ≡ pos (cost a l.label);
}
