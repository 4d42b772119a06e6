-- What `gco energy` is.
use Rattle.std.specs.Prelude.{◌≡◌, ◌≤◌, ◌⊎◌, ℕ, List, length}
use Rattle.byte_streams.specs.Input.{IsReadRefusal, input_limit}
use Rattle.pseudo_bool.specs.Energies.{Energy}
use Rattle.cut_ways.specs.declared.solve_error.SolveError.{SolveError}
use Rattle.regular.specs.Regularity.{IsFirstFailing, IsRegular}
use Rattle.regular.specs.declared.fixed.NotRegular.{NotRegular}
use Rattle.problem_files.specs.Text.{HasFault, NamesEnergy, TextStates}
use Rattle.program_texts.specs.declared.fault.Fault.{Fault}
use Rattle.program_texts.specs.declared.fault.Fault.TheVariants.{TermNotRegular}
use Rattle.program_texts.specs.Answer.{AnswersEnergy}
use Rattle.program_texts.specs.Faults.{IsCutFault, TellsError, energy_fault, read_fault}

-- the input is not too long, names this energy, and states it
abbrev pub HoldsEnergy : List ℕ → Energy → Type 0
HoldsEnergy input e = (length input ≤ input_limit) × NamesEnergy input e × TextStates input e

-- the text is the answer to the energy that the input names
abbrev pub AnswersInput : List ℕ → List ℕ → Type 0
AnswersInput input text = (e : Energy) × HoldsEnergy input e × AnswersEnergy e text

-- the fault that the reading of the input has: it was not read, or its text has a fault
abbrev pub HasFileFault : List ℕ → Fault → Type 0
HasFileFault input fault = TellsError read_fault (IsReadRefusal input) fault
    ⊎ ((length input ≤ input_limit) × TellsError energy_fault (HasFault input) fault)

-- the energy has no answer: a term is not regular, the first such term; or all are regular, and the
-- cut was refused
abbrev pub IsUnsolved : (SolveError → Type 0) → Energy → Fault → Type 0
IsUnsolved refuses e fault =
    ((failing : NotRegular) × IsFirstFailing e failing.term failing.fixed
    × (fault ≡ TermNotRegular failing))
    ⊎ (IsRegular e × IsCutFault refuses fault)

-- the fault that the input has: one of its reading, or the energy that it names has no answer
abbrev pub HasEnergyFault : (SolveError → Type 0) → List ℕ → Fault → Type 0
HasEnergyFault refuses input fault = HasFileFault input fault
    ⊎ ((e : Energy) × HoldsEnergy input e × IsUnsolved refuses e fault)
