-- All that a call tells beside its status: of each record every field, 0 where nothing is said.
use Rattle.std.specs.Prelude.{ℕ, ℤ, Bool, cond, pos, List, Option, Some, None}
use Rattle.label_energies.specs.Energies.{Instance, labelling, data_energy, smooth_energy}
use Rattle.label_energies.specs.Energies.{label_energy}
use Rattle.moves.specs.declared.bound.Bound.{Bound}
use Rattle.gco_arrays.specs.Statuses.{fixed_of, labels_of, told_place}
use Rattle.gco_calls.specs.declared.minimise.GcoMinimum.{GcoMinimum}
use Rattle.gco_calls.specs.declared.outcome.GcoOutcome.{GcoOutcome}
use Rattle.gco_arrays.specs.declared.refusal.Refusal.{Refusal}

-- nothing is told
abbrev pub nothing_told : GcoOutcome
nothing_told = record {
  «data» = pos 0;
  smooth = pos 0;
  label = pos 0;
  place = 0;
  vmin = 0;
  vmax = 0;
  cycles = 0;
  settled = 0;
  changed = 0;
  alpha = 0;
  beta = 0;
}

-- a refusal is told: the place and the labels of the move that it names
abbrev pub refusal_told : Refusal → GcoOutcome
refusal_told refusal =
    record nothing_told {
      place = told_place refusal;
      alpha = (labels_of refusal).0;
      beta =
          (labels_of refusal).1;
    }

-- the three parts of an energy are told
abbrev pub outcome_of_parts : ℤ → ℤ → ℤ → GcoOutcome
outcome_of_parts data_part smooth_part label_part =
    record nothing_told { «data» = data_part; smooth = smooth_part; label = label_part }

-- those of the energy of labels
abbrev pub energy_told : Instance → List ℕ → GcoOutcome
energy_told m labels =
    outcome_of_parts (pos (data_energy m (labelling labels)))
    (pos (smooth_energy m (labelling labels)))
    (pos (label_energy m (labelling labels)))

-- the two numbers of a bound, or 0 and 0
abbrev pub bound_numbers : Option Bound → ℕ × ℕ
bound_numbers None = (0, 0)
bound_numbers (Some bound) = (bound.vmin, bound.vmax)

-- beside the parts of the energy where a run ended: its cycles, whether it settled, and its bound,
-- where it has one
abbrev pub run_told : GcoOutcome → ℕ → Bool → Option Bound → GcoOutcome
run_told parts cycles settled bound = record parts {
  cycles = cycles;
  settled = cond settled 1 0;
  vmin = (bound_numbers bound).0;
  vmax = (bound_numbers bound).1;
}

-- beside the parts of the energy where one move ended: whether it changed a label
abbrev pub move_told : GcoOutcome → Bool → GcoOutcome
move_told parts changed = record parts { changed = cond changed 1 0 }

-- a least value is told: no place, and nothing that is fixed, which is 3 and 0
abbrev pub value_told : ℤ → GcoMinimum
value_told value = record { value = value; place = 0; fixed = 3; fixed_at = 0 }

-- a refusal of terms is told: the place, and what is fixed, where the refusal names these
abbrev pub term_told : Refusal → GcoMinimum
term_told refusal =
    record (value_told (pos 0))
    { place = told_place refusal; fixed = (fixed_of refusal).0; fixed_at = (fixed_of refusal).1 }
