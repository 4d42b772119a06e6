use Rattle.std.proofs.Common.{◌≡◌, IfOk, Ok, rules}
use Rattle.problem_files.specs.Text.{energy_in}
use Rattle.problem_files.proofs.StatedLemmas.{all_texts}
use Rattle.problem_files.proofs.energy.read_energy.Goals as goal

pub returns-clause-stated : goal.returns-clause-stated
returns-clause-stated c =
    let named : IfOk c.energy_of.result (λ e. energy_in c.args.bytes.now ≡ Ok e) = search rules in
    all_texts c.args.bytes.now c.energy_of.result named
