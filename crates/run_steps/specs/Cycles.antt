-- Which moves of a cycle are known, and where a cycle stands.
use Rattle.std.specs.Prelude.{◌≡◌, ℕ, ◌<◌, ◌≤◌, Bool, true, false, List, take, slice_get, Some}
use Rattle.label_energies.specs.declared.change.Move.{Move}
use Rattle.label_energies.specs.Chains.{MovesLead}
use Rattle.label_energies.specs.Energies.{Instance, energy, labelling}
use Rattle.label_energies.specs.Moves.{IsAllowed, IsBest}

-- from this place on, each move of the list has regular terms and changes nothing where it is made
-- from f
abbrev pub AreBestFrom : Instance → List Move → ℕ → List ℕ → Type 0
AreBestFrom m moves place f =
    (i : ℕ) (move : Move) → place ≤ i → slice_get moves i ≡ Some move
    → IsAllowed m move (labelling f) × IsBest m move f f

-- a cycle of these moves from f has come to this place, and stands at g: whether a label changed,
-- and the place of the move that changed one last, in this cycle or before it. Each move since then
-- is known to change nothing
pub record IsSoFar (m : Instance) (moves : List Move) (place : ℕ) (f g : List ℕ) (changed : Bool)
    (last : ℕ) : Type 0 where
  pub leads : MovesLead m (take place moves) f g
  pub lower : changed ≡ true → energy m (labelling g) < energy m (labelling f)
  pub same : changed ≡ false → g ≡ f
  pub passed : changed ≡ true → last < place
  pub known : (i : ℕ) (move : Move) → last ≤ i → (changed ≡ true → i < place)
      → slice_get moves i ≡ Some move → IsAllowed m move (labelling g) × IsBest m move g g
