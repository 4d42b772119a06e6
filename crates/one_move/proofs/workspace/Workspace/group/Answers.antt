use Rattle.std.proofs.Common.{◌∙◌, List, ℕ, length, vec_len, ap, sym, arith}
use Rattle.move_energy.proofs.SiteSums.{test_true}
use Rattle.one_move.proofs.workspace.Workspace.group.Goals as goal

pub returns-else-is_empty-clause-grouped : goal.returns-else-is_empty-clause-grouped
returns-else-is_empty-clause-grouped g c = c.requires.of_problem.0 (λ none.
    let starts = c.args.self.now.deciding.ends.starts in
    let count = ap (λ (xs : List ℕ). length xs) none in
    let empty = test_true (vec_len starts) 0 (omega (arith, count, starts.ok.0)) in
    let not_empty = sym c.is_empty.ensures ∙ c.if-is_empty.false in
    absurd (cc (empty, not_empty)))
