-- What the libraries refuse, as the program tells it: memory as memory, whoever asked for it.
use Rattle.std.specs.Prelude.{◌≡◌, ◌⊎◌}
use Rattle.byte_streams.specs.declared.input.ReadError.{ReadError}
use Rattle.byte_streams.specs.declared.input.ReadError.TheVariants as read
use Rattle.problem_files.specs.declared.energy_fault.EnergyFault.{EnergyFault}
use Rattle.problem_files.specs.declared.energy_fault.EnergyFault.TheVariants as energy
use Rattle.problem_files.specs.declared.label_fault.LabelFault.{LabelFault}
use Rattle.problem_files.specs.declared.label_fault.LabelFault.TheVariants as label
use Rattle.cut_ways.specs.declared.solve_error.SolveError.{SolveError}
use Rattle.cut_ways.specs.declared.solve_error.SolveError.TheVariants as solve
use Rattle.program_texts.specs.declared.fault.Fault.{Fault}
use Rattle.program_texts.specs.declared.fault.Fault.TheVariants.{OutOfMemory, EnergyFile}
use Rattle.program_texts.specs.declared.fault.Fault.TheVariants.{LabelFile, Workers, BadOptions}
use Rattle.program_texts.specs.declared.fault.Fault.TheVariants.{ReadFailed, InputTooLong}

-- why an input was not read
abbrev pub read_fault : ReadError → Fault
read_fault read.OutOfMemory = OutOfMemory
read_fault read.ReadFailed = ReadFailed
read_fault read.InputTooLong = InputTooLong

-- why a file names no energy
abbrev pub energy_fault : EnergyFault → Fault
energy_fault energy.OutOfMemory = OutOfMemory
energy_fault reason = EnergyFile reason

-- why a file names no problem of labels
abbrev pub label_fault : LabelFault → Fault
label_fault label.OutOfMemory = OutOfMemory
label_fault reason = LabelFile reason

-- why a cut was refused
abbrev pub cut_fault : SolveError → Fault
cut_fault solve.OutOfMemory = OutOfMemory
cut_fault solve.Workers = Workers
cut_fault solve.BadOptions = BadOptions

-- the fault tells an error of which this holds
abbrev pub TellsError : {E : Type 0} → (E → Fault) → (E → Type 0) → Fault → Type 0
TellsError {E} told Holds fault = (error : E) × Holds error × (fault ≡ told error)

-- the cut was refused so: memory may always be
abbrev pub IsCutFault : (SolveError → Type 0) → Fault → Type 0
IsCutFault refuses fault = (fault ≡ OutOfMemory) ⊎ TellsError cut_fault refuses fault
