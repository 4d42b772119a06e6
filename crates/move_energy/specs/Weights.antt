-- What the open sites of a partly decided move weigh, and what pairs of two of them save.
use Rattle.std.specs.Prelude.{◌≡◌, ◌==◌, ◌&&◌, ◌++◌, ◌∷◌, [], ℕ, zero, suc, ◌+◌, ◌-◌, ◌<◌, Bool}
use Rattle.std.specs.Prelude.{true, false, not, cond, List, slice_index_or, ℤ, pos, ◌+ℤ◌, ◌-ℤ◌}
use Rattle.sums.specs.Sums.{count_if}
use Rattle.label_field.specs.declared.pair.Pair.{Pair}
use Rattle.label_energies.specs.declared.change.Move.{Move}
use Rattle.label_energies.specs.Energies.{Instance, plain_energy}
use Rattle.label_energies.specs.Moves.{labelling_made, pair_entry}
use Rattle.pseudo_bool.specs.Energies.{entry}
use Rattle.compile_cut.specs.declared.quadratic.Quadratic.{Quadratic}
use Rattle.move_energy.specs.declared.choice.Choice.{Choice}
use Rattle.move_energy.specs.declared.choice.Choice.TheVariants.{Open}
use Rattle.move_energy.specs.Choices.{bit_of, is_open, open_at}

-- the weight of a site
abbrev pub weight_at : List ℤ → ℕ → ℤ
weight_at weights p = slice_index_or weights p (pos 0)

-- what the sites and the pairs cost where the open sites have these values
abbrev pub open_energy : Instance → Move → (ℕ → ℕ) → (ℕ → Choice) → (ℕ → Bool) → ℤ
open_energy m move f choice x =
    pos (plain_energy m (labelling_made move f (λ p. bit_of (choice p) (x p))))

-- the weight of each open site is by how much that rises where this site turns from 0 to 1, every
-- other open one being at 0
abbrev pub AreWeights : Instance → Move → (ℕ → ℕ) → (ℕ → Choice) → List ℤ → Type 0
AreWeights m move f choice weights = (u : ℕ) → u < m.sites → choice u ≡ Open
    → weight_at weights u
    ≡ open_energy m move f choice (λ p. p == u) -ℤ open_energy m move f choice (λ p. false)

-- by how much a pair's costs at 01 and 10 are together above those at 00 and 11
abbrev pub pair_surplus : Instance → Move → (ℕ → ℕ) → Pair → ℕ
pair_surplus m move f pair =
    pair_entry m move f pair false true + pair_entry m move f pair true false
    - (pair_entry m move f pair false false + pair_entry m move f pair true true)

-- are both ends of the pair open?
abbrev pub are_open : (ℕ → Choice) → Pair → Bool
are_open choice pair = is_open (choice pair.first) && is_open (choice pair.second)

-- what of the surplus of a pair of two open sites is not saved: all of it, unless both are at 1
abbrev pub unsaved_surplus : Instance → Move → (ℕ → ℕ) → (ℕ → Choice) → (ℕ → ℕ)
    → (ℕ → Bool) → Pair → ℕ
unsaved_surplus m move f choice variable x pair =
    count_if (are_open choice pair)
    (count_if (not (x (variable pair.first) && x (variable pair.second)))
    (pair_surplus m move f pair))

-- the weights of the open ones of the first n sites
abbrev pub open_weights : List Choice → List ℤ → ℕ → List ℤ
open_weights choices weights zero = []
open_weights choices weights (suc n) =
    open_weights choices weights n ++ cond (open_at choices n) (weight_at weights n ∷ []) []

-- the form of these weights: its number is 0, and it has no arc
pub record IsOfWeights (weights : List ℤ) (q : Quadratic) : Type 0 where
  pub constant : q.constant ≡ pos 0
  pub weights_are : q.weights.items ≡ weights
  pub arcs : q.arcs.items ≡ []

-- what a pair costs at the values 00, 01, 10 and 11 of its ends
abbrev pub pair_table : Instance → Move → (ℕ → ℕ) → Pair → List ℤ
pair_table m move f pair =
    pos (pair_entry m move f pair false false) ∷ pos (pair_entry m move f pair false true)
    ∷ pos (pair_entry m move f pair true false) ∷ pos (pair_entry m move f pair true true) ∷ []

-- by how much the entries of a table at 01 and 10 are together above those at 00 and 11
abbrev pub surplus_of : List ℤ → ℤ
surplus_of table = (entry table 1 +ℤ entry table 2) -ℤ (entry table 0 +ℤ entry table 3)
