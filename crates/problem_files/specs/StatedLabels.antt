-- What a table states of a problem of labels: each of its numbers, as it stands, or what is due
-- where a field is missing.
use Rattle.std.specs.Prelude.{◌≡◌, ◌⊎◌, ℕ, ℤ, pos, List, [], ◌∷◌, map, replicate, Option, Some}
use Rattle.std.specs.Prelude.{None, codes}
use Rattle.toml.specs.Data.{Data, string, integer, array, Items, no_items, item, Members}
use Rattle.toml.specs.Data.{get_member}
use Rattle.toml.specs.Parse.{parse_document}
use Rattle.label_field.specs.declared.pair.Pair.{Pair}
use Rattle.label_energies.specs.declared.cycles.Moves.{Moves}
use Rattle.label_energies.specs.declared.cycles.Moves.TheVariants.{Expansion, Swap}
use Rattle.run_options.specs.Shapes.{shape_table}
use Rattle.run_options.specs.declared.shape.Shape.TheVariants.{Potts, Linear, Quadratic}
use Rattle.problem_files.specs.Names.{Problem}
use Rattle.problem_files.specs.Stated.{StatesList, integers}

-- the value is the list of these numbers
abbrev pub StatesNumbers : Data → List ℕ → Type 0
StatesNumbers d ns = d ≡ array (integers (map pos ns))

-- a number, or what is due where it is missing
abbrev pub StatesNumber : Option Data → ℕ → ℕ → Type 0
StatesNumber None due n = n ≡ due
StatesNumber (Some d) due n = d ≡ integer (pos n)

-- `smooth` for k labels, where costs by distance are cut off at the most: nothing, which is as
-- `"potts"`; one of three names, and the costs are those of the name; or the list of the costs
abbrev pub StatesSmooth : Option Data → ℕ → ℕ → List ℤ → Type 0
StatesSmooth None most k costs = costs ≡ shape_table Potts k most
StatesSmooth (Some d) most k costs =
    ((d ≡ string (codes "potts")) × (costs ≡ shape_table Potts k most))
    ⊎ (((d ≡ string (codes "linear")) × (costs ≡ shape_table Linear k most))
    ⊎ (((d ≡ string (codes "quadratic")) × (costs ≡ shape_table Quadratic k most))
    ⊎ (d ≡ array (integers costs))))

-- an item of `pairs`: two sites and the weight, or two sites alone, whose weight is 1
abbrev pub StatesPair : Data → Pair → Type 0
StatesPair d pair =
    (d ≡ array (integers (pos pair.first ∷ pos pair.second ∷ pos pair.weight ∷ [])))
    ⊎ ((d ≡ array (integers (pos pair.first ∷ pos pair.second ∷ []))) × (pair.weight ≡ 1))

-- `start`: nothing where each of so many sites has label 0, or the list of the labels
abbrev pub StatesStart : Option Data → ℕ → List ℕ → Type 0
StatesStart None sites at = at ≡ replicate sites 0
StatesStart (Some d) sites at = StatesNumbers d at

-- `moves`: nothing, which is as `"expansion"`, or one of two names
abbrev pub StatesMoves : Option Data → Moves → Type 0
StatesMoves None moves = moves ≡ Expansion
StatesMoves (Some d) moves =
    ((d ≡ string (codes "expansion")) × (moves ≡ Expansion))
    ⊎ ((d ≡ string (codes "swap")) × (moves ≡ Swap))

-- `label_costs`: nothing where no label costs something by itself, or the list of the costs
abbrev pub StatesLabelCosts : Option Data → Option (List ℤ) → Type 0
StatesLabelCosts None costs = costs ≡ None
StatesLabelCosts (Some d) costs = (zs : List ℤ) × (costs ≡ Some zs) × (d ≡ array (integers zs))

-- what stands in the table where the costs by distance are cut off, and the costs of two labels
pub record StatesCosts (ms : Members) (k : ℕ) (costs : List ℤ) : Type 0 where
  pub most : ℕ
  pub trunc : StatesNumber (get_member (codes "trunc") ms) 1 most
  pub smooth : StatesSmooth (get_member (codes "smooth") ms) most k costs

-- the table states the problem
pub record StatesProblem (ms : Members) (p : Problem) : Type 0 where
  pub sites : get_member (codes "sites") ms ≡ Some (integer (pos p.sites))
  pub labels : get_member (codes "labels") ms ≡ Some (integer (pos p.labels))
  pub costs : (d : Data) × (get_member (codes "data") ms ≡ Some d) × StatesNumbers d p.data_costs
  pub smooth : StatesCosts ms p.labels p.smooth_costs
  pub pairs : StatesList StatesPair (get_member (codes "pairs") ms) p.pairs.list
  pub start : StatesStart (get_member (codes "start") ms) p.sites p.start.at
  pub moves : StatesMoves (get_member (codes "moves") ms) p.moves
  pub cycles : StatesNumber (get_member (codes "cycles") ms) 100 p.cycles
  pub label_costs : StatesLabelCosts (get_member (codes "label_costs") ms) p.label_costs

-- the bytes are a TOML text, whose table states the problem
abbrev pub TextStatesProblem : List ℕ → Problem → Type 0
TextStatesProblem bytes p = (ms : Members) × (parse_document bytes ≡ Some ms) × StatesProblem ms p
