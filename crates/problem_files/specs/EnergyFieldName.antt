-- The keys of a problem file.
use Rattle.std.specs.Prelude.{ℕ, List, codes}
use Rattle.problem_files.specs.declared.energy_fault.EnergyKey.{EnergyKey}
use Rattle.problem_files.specs.declared.energy_fault.EnergyKey.TheVariants.{Variables, Constant}
use Rattle.problem_files.specs.declared.energy_fault.EnergyKey.TheVariants.{Terms}

abbrev pub field_name : EnergyKey → List ℕ
field_name Variables = codes "variables"
field_name Constant = codes "constant"
field_name Terms = codes "terms"
