use Rattle.std.proofs.Common.{◌≡◌, Ok, rules}
use Rattle.toml.specs.View.{table_view}
use Rattle.problem_files.specs.Problem.{energy_of_table}
use Rattle.problem_files.proofs.StatedLemmas.{stated}
use Rattle.problem_files.proofs.energy.energy_of.Goals as goal

pub returns-clause-stated : goal.returns-clause-stated
returns-clause-stated c =
    let named : energy_of_table (table_view c.args.table.now) ≡ Ok c.add_terms.new.energy = search rules in
    stated (table_view c.args.table.now) c.add_terms.new.energy named

pub returns-in_err-variables-clause-refused : goal.returns-in_err-variables-clause-refused
returns-in_err-variables-clause-refused c = search rules

pub returns-in_err-constant-clause-refused : goal.returns-in_err-constant-clause-refused
returns-in_err-constant-clause-refused c = search rules

pub returns-in_err-add_terms-clause-refused : goal.returns-in_err-add_terms-clause-refused
returns-in_err-add_terms-clause-refused c = search rules
