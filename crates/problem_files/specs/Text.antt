-- The energy that a text names, or its first fault.
use Rattle.std.specs.Prelude.{◌≡◌, ℕ, List, Option, Some, None, Result, Ok, Err, IsUtf8, ⊤}
use Rattle.toml.specs.Data.{Members}
use Rattle.toml.specs.Parse.{parse_document}
use Rattle.pseudo_bool.specs.Energies.{Energy}
use Rattle.problem_files.specs.declared.energy_fault.EnergyFault.{EnergyFault}
use Rattle.problem_files.specs.declared.energy_fault.EnergyFault.TheVariants.{BadToml, OutOfMemory}
use Rattle.problem_files.specs.Problem.{energy_of_table}
use Rattle.problem_files.specs.Stated.{States}

abbrev pub named_by : Option Members → Result Energy EnergyFault
named_by None = Err BadToml
named_by (Some ms) = energy_of_table ms

-- the energy that the bytes of a text name, or the text's first fault
abbrev pub energy_in : List ℕ → Result Energy EnergyFault
energy_in bytes = named_by (parse_document bytes)

-- the bytes are a text, and name this energy
abbrev pub NamesEnergy : List ℕ → Energy → Type 0
NamesEnergy bytes energy = IsUtf8 bytes × (energy_in bytes ≡ Ok energy)

-- the bytes are a TOML text, whose table states the energy
abbrev pub TextStates : List ℕ → Energy → Type 0
TextStates bytes energy = (ms : Members) × (parse_document bytes ≡ Some ms) × States ms energy

-- The bytes have this fault: they are no TOML text, or a text with this first fault. Memory may
-- always be refused.
abbrev pub HasFault : List ℕ → EnergyFault → Type 0
HasFault bytes OutOfMemory = ⊤
HasFault bytes BadToml = IsUtf8 bytes → energy_in bytes ≡ Err BadToml
HasFault bytes fault = IsUtf8 bytes × (energy_in bytes ≡ Err fault)
