use Rattle.std.specs.Prelude.{ℕ}
use Rattle.pseudo_bool.specs.declared.error.EnergyError.{EnergyError}
use Rattle.pseudo_bool.specs.declared.error.EnergyError.TheVariants as energy
use Rattle.problem_files.specs.declared.energy_fault.EnergyFault.{EnergyFault}
use Rattle.problem_files.specs.declared.energy_fault.EnergyFault.TheVariants as fault

-- the fault of the term at place i that an energy refuses
abbrev pub refusal_of : ℕ → EnergyError → EnergyFault
refusal_of i energy.NoSuchVariable = fault.NoSuchVariable i
refusal_of i energy.SameVariable = fault.SameVariable i
refusal_of i energy.ValueRange = fault.ValueRange i
refusal_of i energy.TooManyTerms = fault.TooManyTerms
refusal_of i energy.OutOfMemory = fault.OutOfMemory
