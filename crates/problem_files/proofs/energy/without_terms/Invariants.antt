use Rattle.std.proofs.Common.{◌≡◌, []}
use Rattle.problem_files.proofs.energy.without_terms.Given as goal

abbrev pub invariant-loop : goal.invariant-loop
invariant-loop l = l.energy ≡ record { constant = l.fn.constant; variables = l.counter; terms = [] }
