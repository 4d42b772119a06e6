-- What a table states of an energy: each of its numbers, as it stands.
use Rattle.std.specs.Prelude.{◌≡◌, ⊤, ℤ, pos, List, [], ◌∷◌, Option, Some, None, codes}
use Rattle.toml.specs.Data.{Data, integer, array, Items, no_items, item, Members, get, get_member}
use Rattle.pseudo_bool.specs.declared.term.Term.{Term}
use Rattle.pseudo_bool.specs.declared.term.Term.TheVariants.{One, Two, Three}
use Rattle.pseudo_bool.specs.Energies.{Energy}

-- the items that are these integers
abbrev pub integers : List ℤ → Items
integers [] = no_items
integers (z ∷ zs) = item (integer z) (integers zs)

-- the item has the variables of the term under `on`, and its table under `values`
abbrev pub StatesTerm : Data → Term → Type 0
StatesTerm d (One x table) =
    (get (codes "on") d ≡ Some (array (integers (pos x ∷ []))))
    × (get (codes "values") d ≡ Some (array (integers table)))
StatesTerm d (Two x y table) =
    (get (codes "on") d ≡ Some (array (integers (pos x ∷ pos y ∷ []))))
    × (get (codes "values") d ≡ Some (array (integers table)))
StatesTerm d (Three x y z table) =
    (get (codes "on") d ≡ Some (array (integers (pos x ∷ pos y ∷ pos z ∷ []))))
    × (get (codes "values") d ≡ Some (array (integers table)))

-- each of the items states one of these, in their order
abbrev pub StateEach : {T : Type 0} → (Data → T → Type 0) → Items → List T → Type 0
StateEach States no_items [] = ⊤
StateEach States (item d ds) (x ∷ xs) = States d x × StateEach States ds xs
StateEach States no_items (x ∷ xs) = ⊥
StateEach States (item d ds) [] = ⊥

-- what stands under the key of a list: nothing where the list is empty, or items that state it
abbrev pub StatesList : {T : Type 0} → (Data → T → Type 0) → Option Data → List T → Type 0
StatesList States None xs = xs ≡ []
StatesList States (Some d) xs = (ds : Items) × (d ≡ array ds) × StateEach States ds xs

-- what stands under `constant`: nothing where it is 0, or the constant
abbrev pub StatesConstant : Option Data → ℤ → Type 0
StatesConstant None constant = constant ≡ pos 0
StatesConstant (Some d) constant = d ≡ integer constant

-- the table states the energy
pub record States (ms : Members) (e : Energy) : Type 0 where
  pub variables : get_member (codes "variables") ms ≡ Some (integer (pos e.variables))
  pub constant : StatesConstant (get_member (codes "constant") ms) e.constant
  pub terms : StatesList StatesTerm (get_member (codes "terms") ms) e.terms
