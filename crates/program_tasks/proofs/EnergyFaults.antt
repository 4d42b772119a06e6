-- What refuses an energy is a fault that its bytes have.
use Rattle.std.proofs.Common.{◌≡◌, ◌≤◌, ℕ, List, ◌⊎◌, IfSome, inl, inr, length, refl}
use Rattle.byte_streams.specs.Input.{IsReadRefusal, input_limit}
use Rattle.byte_streams.specs.Streams.{Stream}
use Rattle.byte_streams.specs.declared.input.ReadError.{ReadError}
use Rattle.cut_ways.specs.declared.solve_error.SolveError.{SolveError}
use Rattle.cut_ways.specs.declared.solve_error.SolveError.TheVariants.{OutOfMemory}
use Rattle.problem_files.specs.Text.{HasFault}
use Rattle.problem_files.specs.declared.energy_fault.EnergyFault.{EnergyFault}
use Rattle.pseudo_bool.specs.Energies.{Energy}
use Rattle.regular.specs.Regularity.{IsFirstFailing, IsRegular}
use Rattle.regular.specs.declared.fixed.NotRegular.{NotRegular}
use Rattle.program_tasks.specs.Energy.{HasEnergyFault, HasFileFault, HoldsEnergy}
use Rattle.program_texts.specs.Faults.{IsCutFault}
use Rattle.program_texts.specs.Faults.{cut_fault, energy_fault, read_fault}
use Rattle.program_tasks.specs.Inputs.{OfSomeInput}
use Rattle.program_texts.specs.declared.fault.Fault.{Fault}
use Rattle.program_texts.specs.declared.fault.Fault.TheVariants.{TermNotRegular}
use Rattle.program_tasks.proofs.InputLemmas.{IsWhole, of_read, of_refusal}

-- a refused cut has the fault of its refusal
pub cut_told : (refuses : SolveError → Type 0) (e : SolveError) → (e ≡ OutOfMemory) ⊎ refuses e → IsCutFault refuses (cut_fault e)
cut_told refuses e (inl is) = inl (λ i. cut_fault (is i))
cut_told refuses e (inr h) = inr (e, h, refl)

-- an input that was not read, and one whose text has a fault
pub unread_file : (source : Stream) (error : ReadError) → IfSome source.bytes (λ input. IsReadRefusal input error)
    → OfSomeInput source (λ input. HasFileFault input (read_fault error))
unread_file source error is = let h = of_refusal source error is in (h.0, h.1, inl (error, h.2, refl))

pub file_told : (source : Stream) (items : List ℕ) (error : EnergyFault) → IsWhole items source → length items ≤ input_limit
    → HasFault items error → OfSomeInput source (λ input. HasFileFault input (energy_fault error))
file_told source items error whole limit has =
    of_read source items (λ input. HasFileFault input (energy_fault error)) whole (inr (limit, (error, has, refl)))

-- a fault of the reading is one of the command
pub file_stands : (refuses : SolveError → Type 0) (source : Stream) (f : Fault) → OfSomeInput source (λ input. HasFileFault input f)
    → OfSomeInput source (λ input. HasEnergyFault refuses input f)
file_stands refuses source f h = (h.0, h.1, inl h.2)

-- so is a term that is not regular of the energy that the input names, and a refused cut
pub irregular_stands : (refuses : SolveError → Type 0) (source : Stream) (e : Energy) (failing : NotRegular) → OfSomeInput source (λ input. HoldsEnergy input e)
    → IsFirstFailing e failing.term failing.fixed → OfSomeInput source (λ input. HasEnergyFault refuses input (TermNotRegular failing))
irregular_stands refuses source e failing h first = (h.0, h.1, inr (e, h.2, inl (failing, first, refl)))

pub cut_stands : (refuses : SolveError → Type 0) (source : Stream) (e : Energy) (f : Fault) → OfSomeInput source (λ input. HoldsEnergy input e)
    → IsRegular e → IsCutFault refuses f → OfSomeInput source (λ input. HasEnergyFault refuses input f)
cut_stands refuses source e f h regular is = (h.0, h.1, inr (e, h.2, inr (regular, is)))
