use Rattle.std.proofs.Common.{pos, ℕ, ◌<◌, length, arith}
use Rattle.std.proofs.lemmas.List.Elements.{All-get_or}
use Rattle.cost_store.specs.Promises.{IsCost}
use Rattle.move_energy.proofs.TableSurplus.{surplus_fits, surplus_is}
use Rattle.move_energy.proofs.costs.surplus.Goals as goal

pub overflow_sub-result : goal.overflow_sub-result
overflow_sub-result c =
    let t = c.args.table.now in
    let each = λ (k : ℕ) (l : k < length t). All-get_or (IsCost (pos 10000000)) t k (pos 0) l c.requires in
    surplus_fits _ _ _ _ (each 0 (omega arith)) (each 1 (omega arith)) (each 2 (omega arith)) (each 3 (omega arith))

pub returns-clause-value : goal.returns-clause-value
returns-clause-value c =
    let t = c.args.table.now in
    let each = λ (k : ℕ) (l : k < length t). All-get_or (IsCost (pos 10000000)) t k (pos 0) l c.requires in
    (surplus_is _ _ _ _ (each 0 (omega arith)) (each 1 (omega arith)) (each 2 (omega arith)) (each 3 (omega arith))).0

pub returns-clause-range : goal.returns-clause-range
returns-clause-range c =
    let t = c.args.table.now in
    let each = λ (k : ℕ) (l : k < length t). All-get_or (IsCost (pos 10000000)) t k (pos 0) l c.requires in
    (surplus_is _ _ _ _ (each 0 (omega arith)) (each 1 (omega arith)) (each 2 (omega arith)) (each 3 (omega arith))).1
