-- The table of what two labels cost a pair, as messages are passed.
use Rattle.std.specs.Prelude.{◌≡◌, ℕ, ◌+◌, ◌*◌, ◌<◌, false, List, length, slice_index}
use Rattle.label_energies.specs.Energies.{Instance}
use Rattle.cost_store.specs.Posed.{Closure, WhereMeant}
use Rattle.cost_store.specs.declared.problem.Problem.{Problem}
use Rattle.message_bound.specs.Costs.{parts, AreSmoothCosts, IsOfForm}
use Rattle.message_bound.specs.declared.costs.Form.{Form}

-- how many labels there are, what two of them cost, row after row, and of what form that is
pub record PairTable : Type 0 where
  pub labels : ℕ
  pub entries : List ℕ
  pub form : Form

-- the table has a row for each label, and its costs are of its form
pub record IsPairTable (table : PairTable) : Type 0 where
  pub size : length table.entries ≡ table.labels * table.labels
  pub form : IsOfForm table.labels table.entries table.form

-- the table is of the problem's labels; and where its pairs have weights, it is that of a pair of
-- weight 1
pub record ServesPairs {F V : Type 0} (f : Closure F) (v : Closure V) (p : Problem F V)
    (table : PairTable) : Type 0 where
  pub labels : table.labels ≡ p.data_cost.labels
  pub weighted : p.pairs.numbered ≡ false
      → WhereMeant f v p (λ m. AreSmoothCosts m p.data_cost.labels table.entries)

-- what two labels cost a pair of this weight, or of this number, is so many times what the table
-- has there, in parts
abbrev pub ArePairCosts : Instance → ℕ → ℕ → List ℕ → ℕ → Type 0
ArePairCosts m labels weight entries times = (a b : ℕ) → a < labels → b < labels
    → times * slice_index entries (a * labels + b) ≡ parts * m.smooth_cost weight a b
