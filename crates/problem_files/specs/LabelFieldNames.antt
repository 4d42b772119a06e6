-- The keys of a problem file, and the faults of its fields.
use Rattle.std.specs.Prelude.{◌≡◌, ◌≢◌, ℕ, List, Option, Some, None, Result, Ok, Err, codes}
use Rattle.problem_files.specs.declared.label_fault.LabelKey.{LabelKey}
use Rattle.problem_files.specs.declared.label_fault.LabelKey.TheVariants.{Sites, Labels, Data}
use Rattle.problem_files.specs.declared.label_fault.LabelKey.TheVariants.{Smooth, Trunc, Pairs}
use Rattle.problem_files.specs.declared.label_fault.LabelKey.TheVariants.{Start, Moves, Cycles}
use Rattle.problem_files.specs.declared.label_fault.LabelKey.TheVariants.{LabelCosts}
use Rattle.problem_files.specs.declared.label_fault.LabelFault.{LabelFault}
use Rattle.problem_files.specs.declared.label_fault.LabelFault.TheVariants.{CostRange, NoSuchLabel}
use Rattle.problem_files.specs.declared.label_fault.LabelFault.TheVariants.{OutOfMemory}

abbrev pub field_name : LabelKey → List ℕ
field_name Sites = codes "sites"
field_name Labels = codes "labels"
field_name Data = codes "data"
field_name Smooth = codes "smooth"
field_name Trunc = codes "trunc"
field_name Pairs = codes "pairs"
field_name Start = codes "start"
field_name Moves = codes "moves"
field_name Cycles = codes "cycles"
field_name LabelCosts = codes "label_costs"

-- the fault of a number out of its range, at a place of a field's list
abbrev pub out_of_range : LabelKey → ℕ → LabelFault
out_of_range Start i = NoSuchLabel i
out_of_range field i = CostRange field i

-- what is read next, unless there was a fault
abbrev pub and_then : {A B : Type 0} → Result A LabelFault → (A → Result B LabelFault)
    → Result B LabelFault
and_then (Ok x) next = next x
and_then (Err fault) next = Err fault

-- the fault of the place, if there is one, and else the answer
abbrev pub unless : {A : Type 0} → Option ℕ → (ℕ → LabelFault) → Result A LabelFault
    → Result A LabelFault
unless (Some i) fault answer = Err (fault i)
unless None fault answer = answer

-- the fault is the one that was found first, unless memory was refused
abbrev pub IsFirstFault : {A : Type 0} → Result A LabelFault → LabelFault → Type 0
IsFirstFault found fault = fault ≢ OutOfMemory → found ≡ Err fault
