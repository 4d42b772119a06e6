-- The problem that a table names, or its first fault.
use Rattle.std.specs.Prelude.{ℕ, ◌*◌, ℤ, false, List, Option, Some, None, Result, Ok, Err}
use Rattle.toml.specs.Data.{Members}
use Rattle.toml.specs.Parse.{parse_document}
use Rattle.label_field.specs.LabelFields.{LabelField}
use Rattle.label_field.specs.PairLists.{PairList}
use Rattle.label_field.specs.Limits.{site_limit, label_limit}
use Rattle.problem_files.specs.LabelFieldNames.{and_then}
use Rattle.problem_files.specs.LabelCostFields.{costs_told, label_costs_in}
use Rattle.problem_files.specs.ListFields.{data_in}
use Rattle.problem_files.specs.MoveFields.{moves_in}
use Rattle.problem_files.specs.NumberFields.{number_in, number_or}
use Rattle.problem_files.specs.PairFields.{pairs_in}
use Rattle.problem_files.specs.SmoothFields.{smooth_in}
use Rattle.problem_files.specs.StartFields.{start_in}
use Rattle.problem_files.specs.declared.label_fault.LabelKey.TheVariants.{Sites, Labels, Trunc}
use Rattle.problem_files.specs.declared.label_fault.LabelKey.TheVariants.{Cycles}
use Rattle.problem_files.specs.declared.label_fault.LabelFault.{LabelFault}
use Rattle.problem_files.specs.declared.label_fault.LabelFault.TheVariants.{BadToml}
use Rattle.problem_files.specs.declared.label_problem.LabelProblem.{LabelProblem}
use Rattle.run_options.specs.Limits.{trunc_limit, cycle_limit}
use Rattle.label_energies.specs.declared.cycles.Moves.{Moves}

-- what a problem says
pub record Problem : Type 0 where
  pub sites : ℕ
  pub labels : ℕ
  pub data_costs : List ℕ
  pub smooth_costs : List ℤ
  pub pairs : PairList
  pub start : LabelField
  pub moves : Moves
  pub cycles : ℕ
  pub label_costs : Option (List ℤ)

-- what the problem that was read says
abbrev pub problem_view : LabelProblem → Problem
problem_view p = record {
  sites = p.sites;
  labels = p.labels;
  data_costs = p.«data».items;
  smooth_costs = p.smooth.items;
  pairs = p.pairs;
  start = p.start;
  moves = p.moves;
  cycles = p.cycles;
  label_costs = costs_told p.label_costs;
}

-- the problem of these sizes and costs whose other fields a table names
abbrev pub names_rest : Members → ℕ → ℕ → List ℕ → List ℤ → Result Problem LabelFault
names_rest ms sites labels data_costs smooth_costs =
    and_then (pairs_in ms sites) (λ list.
    and_then (start_in ms sites labels) (λ start.
    and_then (moves_in ms) (λ moves.
    and_then (number_or ms Cycles 0 cycle_limit 100) (λ cycles.
    and_then (label_costs_in ms labels) (λ label_costs.
    Ok (record {
      sites = sites;
      labels = labels;
      data_costs = data_costs;
      smooth_costs = smooth_costs;
      pairs = record { sites = sites; list = list; numbered = false };
      start = start;
      moves = moves;
      cycles = cycles;
      label_costs = label_costs;
    }))))))

-- the problem that a table names: the fields in this order, and the first fault of the first that
-- has one
abbrev pub problem_of_table : Members → Result Problem LabelFault
problem_of_table ms =
    and_then (number_in ms Sites 0 site_limit) (λ sites.
    and_then (number_in ms Labels 1 label_limit) (λ labels.
    and_then (data_in ms (sites * labels)) (λ data_costs.
    and_then (smooth_in ms labels) (λ table.
    and_then (number_or ms Trunc 1 trunc_limit 1) (λ most.
    names_rest ms sites labels data_costs (table most))))))

abbrev pub named_by : Option Members → Result Problem LabelFault
named_by None = Err BadToml
named_by (Some ms) = problem_of_table ms

-- the problem that the bytes of a text name
abbrev pub problem_in : List ℕ → Result Problem LabelFault
problem_in bytes = named_by (parse_document bytes)
