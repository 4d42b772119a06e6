-- What adding pairs to a list does.
use Rattle.std.specs.Prelude.{◌≡◌, ℕ, [], ◌∷◌, ◌++◌, Result, Ok, Err}
use Rattle.label_field.specs.declared.pair.Pair.{Pair}
use Rattle.label_field.specs.PairLists.{PairList}
use Rattle.label_field.specs.declared.error.LabelFieldError.{LabelFieldError}
use Rattle.label_field.specs.declared.error.LabelFieldError.TheVariants as list
use Rattle.problem_files.specs.declared.label_fault.LabelFault.{LabelFault}
use Rattle.problem_files.specs.declared.label_fault.LabelFault.TheVariants as fault

-- there is a pair, and the list has it at its end
abbrev pub Gains : PairList → PairList → Result Pair LabelFault → Type 0
Gains old new (Ok pair) = new ≡ record old { list = old.list ++ pair ∷ [] }
Gains old new (Err fault) = ⊥

-- the fault of the pair at place i that a list refuses
abbrev pub refusal_of : ℕ → LabelFieldError → LabelFault
refusal_of i list.NoSuchSite = fault.NoSuchSite i
refusal_of i list.SamePair = fault.SamePair i
refusal_of i list.TooManyPairs = fault.TooManyPairs
refusal_of i list.WeightRange = fault.WeightRange i
refusal_of i list.NoSuchLabel = fault.OutOfMemory
refusal_of i (list.OutOfMemory _) = fault.OutOfMemory
