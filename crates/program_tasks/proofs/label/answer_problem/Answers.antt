use Rattle.std.proofs.Common.{rules}
use Rattle.problem_files.specs.Names.{problem_view}
use Rattle.vision.proofs.Coming.{any_run}
use Rattle.program_tasks.proofs.LabelFaults.{run_fault}
use Rattle.program_tasks.proofs.label.answer_problem.Goals as goal

pub move_fault-requires : goal.move_fault-requires
move_fault-requires g c = any_run (g.H.How.refuses c.args.how.now) c.in-Err.error c.in-Err.ensures.refused

pub returns-in-Err-clause-refused : goal.returns-in-Err-clause-refused
returns-in-Err-clause-refused g c =
    run_fault (g.H.How.refuses c.args.how.now) (problem_view c.args.problem) c.in-Err.error c.move_fault.result c.in-Err.ensures.run c.in-Err.ensures.refused c.move_fault.ensures

pub returns-in_ok-run_text-in-Ok-clause-told : goal.returns-in_ok-run_text-in-Ok-clause-told
returns-in_ok-run_text-in-Ok-clause-told g c = search rules
