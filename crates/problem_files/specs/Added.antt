-- What adding terms to an energy does.
use Rattle.std.specs.Prelude.{◌≡◌, ◌≢◌, [], ◌∷◌, ◌++◌, List, Result, Ok, Err}
use Rattle.pseudo_bool.specs.declared.term.Term.{Term}
use Rattle.pseudo_bool.specs.Energies.{Energy}
use Rattle.problem_files.specs.declared.energy_fault.EnergyFault.{EnergyFault}
use Rattle.problem_files.specs.declared.energy_fault.EnergyFault.TheVariants.{OutOfMemory}

-- there is a term, and the energy has it at the end of its list
abbrev pub Gains : Energy → Energy → Result Term EnergyFault → Type 0
Gains old new (Ok term) = new ≡ record old { terms = old.terms ++ term ∷ [] }
Gains old new (Err fault) = ⊥

-- there are terms, and the energy has them at the end of its list
abbrev pub GainsAll : Energy → Energy → Result (List Term) EnergyFault → Type 0
GainsAll old new (Ok terms) = new ≡ record old { terms = old.terms ++ terms }
GainsAll old new (Err fault) = ⊥

-- the fault is the one that was found first, unless memory was refused
abbrev pub IsFirstOf : {A : Type 0} → Result A EnergyFault → EnergyFault → Type 0
IsFirstOf found fault = fault ≢ OutOfMemory → found ≡ Err fault
