-- Which moves what labels cost by themselves lets be made.
use Rattle.std.specs.Prelude.{List, ℤ}
use Rattle.label_energies.specs.declared.change.Move.{Move}
use Rattle.label_energies.specs.declared.change.Move.TheVariants.{Expand, Swap}
use Rattle.label_energies.specs.Energies.{Instance, AreLabelsFree}
use Rattle.cost_store.specs.LabelCosts.{AreFree}

-- a swap asks that no label costs anything by itself
abbrev pub IsFreeFor : Move → List ℤ → Type 0
IsFreeFor (Expand a) costs = Unit {0}
IsFreeFor (Swap a b) costs = AreFree costs

-- the same of a problem
abbrev pub IsTaken : Instance → Move → Type 0
IsTaken m (Expand a) = Unit {0}
IsTaken m (Swap a b) = AreLabelsFree m
