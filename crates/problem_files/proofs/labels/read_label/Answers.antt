use Rattle.std.proofs.Common.{◌≡◌, IfOk, Ok, rules}
use Rattle.problem_files.specs.Names.{problem_in, problem_view}
use Rattle.problem_files.proofs.StatedLabelLemmas.{all_texts}
use Rattle.problem_files.proofs.labels.read_label.Goals as goal

pub returns-in-Err-OutOfMemory-clause-refused : goal.returns-in-Err-OutOfMemory-clause-refused
returns-in-Err-OutOfMemory-clause-refused c = search rules

pub returns-in-Err-OutOfMemory-clause-text : goal.returns-in-Err-OutOfMemory-clause-text
returns-in-Err-OutOfMemory-clause-text c = search rules

pub returns-clause-stated : goal.returns-clause-stated
returns-clause-stated c =
    let named : IfOk c.problem_of.result (λ p. problem_in c.args.bytes.now ≡ Ok (problem_view p)) = search rules in
    all_texts c.args.bytes.now c.problem_of.result named
