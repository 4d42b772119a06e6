use Rattle.std.specs.Prelude.{◌≡◌, ℕ, ◌+◌, ◌*◌, ◌<◌, ◌≤◌, ◌⊎◌, Bool, true, false, cond, ◌==◌, ◌||◌}
use Rattle.std.specs.Prelude.{List, length, slice_get, take, Some}
use Rattle.std.specs.List.{All}
use Rattle.label_field.specs.declared.pair.Pair.{Pair}
use Rattle.label_energies.specs.declared.change.Move.{Move}
use Rattle.label_energies.specs.declared.change.Move.TheVariants.{Expand, Swap}
use Rattle.label_energies.specs.Energies.{Instance, energy, labelling}

abbrev pub IsOneOf : ℕ → ℕ → ℕ → Type 0
IsOneOf a b label = (label ≡ a) ⊎ (label ≡ b)

-- may a site's label become another by this move? Expanding a: stay, or become a.
-- Swapping a and b: one of the two becomes one of the two, and any other stays
abbrev pub MayBecome : Move → ℕ → ℕ → Type 0
MayBecome (Expand a) old new = (new ≡ old) ⊎ (new ≡ a)
MayBecome (Swap a b) old new = (IsOneOf a b old → IsOneOf a b new) × (¬ IsOneOf a b old → new ≡ old)

-- g is reached from f by one move
abbrev pub IsReached : Move → ℕ → (ℕ → ℕ) → (ℕ → ℕ) → Type 0
IsReached move n f g = (p : ℕ) → p < n → MayBecome move (f p) (g p)

-- the label whose sites are kept few
abbrev pub favoured_label : Move → ℕ
favoured_label (Expand a) = a
favoured_label (Swap a b) = b

-- each site that has the label in the one labelling has it in the other
abbrev pub LabelsWithin : ℕ → ℕ → (ℕ → ℕ) → (ℕ → ℕ) → Type 0
LabelsWithin n label g h = (p : ℕ) → p < n → g p ≡ label → h p ≡ label

-- g is the best labelling that one move from f reaches: f itself where none is lower than f,
-- else the least one whose sites of the move's label lie within those of every other least one
pub record IsBest (m : Instance) (move : Move) (f g : List ℕ) : Type 0 where
  pub sites : length g ≡ length f
  pub reached : IsReached move m.sites (labelling f) (labelling g)
  pub lowest : (h : ℕ → ℕ) → IsReached move m.sites (labelling f) h
      → energy m (labelling g) ≤ energy m h
  pub kept : energy m (labelling f) ≤ energy m (labelling g) → g ≡ f
  pub smallest : energy m (labelling g) < energy m (labelling f) → (h : ℕ → ℕ)
      → IsReached move m.sites (labelling f) h
      → energy m h ≤ energy m (labelling g)
      → LabelsWithin m.sites (favoured_label move) (labelling g) h

-- the label that a site with this label gets in a move by the value of its variable
abbrev pub label_after : Move → ℕ → Bool → ℕ
label_after (Expand a) old bit = cond bit a old
label_after (Swap a b) old bit = cond ((old == a) || (old == b)) (cond bit b a) old

-- the entry of the term that the move makes of a pair
abbrev pub pair_entry : Instance → Move → (ℕ → ℕ) → Pair → Bool → Bool → ℕ
pair_entry m move f pair x y =
    m.smooth_cost pair.weight (label_after move (f pair.first) x)
    (label_after move (f pair.second) y)

-- the term that the move makes of a pair is regular
abbrev pub IsRegularPair : Instance → Move → (ℕ → ℕ) → Pair → Type 0
IsRegularPair m move f pair =
    pair_entry m move f pair false false + pair_entry m move f pair true true
    ≤ pair_entry m move f pair false true + pair_entry m move f pair true false

-- the move makes only regular terms
abbrev pub IsAllowed : Instance → Move → (ℕ → ℕ) → Type 0
IsAllowed m move f = All (IsRegularPair m move f) m.pairs

-- the pair at this place makes a term that is not regular, and each pair before it a regular one
pub record IsFirstIrregular (m : Instance) (move : Move) (f : ℕ → ℕ) (place : ℕ) : Type 0 where
  pub failing : Pair
  pub here : slice_get m.pairs place ≡ Some failing
  pub fails : ¬ IsRegularPair m move f failing
  pub before : All (IsRegularPair m move f) (take place m.pairs)

-- the labels of a move are labels of the problem
abbrev pub IsMoveOf : ℕ → Move → Type 0
IsMoveOf k (Expand a) = a < k
IsMoveOf k (Swap a b) = (a < k) × (b < k)

-- the move is a swap
abbrev pub IsSwap : Move → Type 0
IsSwap (Expand a) = ⊥
IsSwap (Swap a b) = Unit {0}

-- the labelling that a value for each site makes
abbrev pub labelling_made : Move → (ℕ → ℕ) → (ℕ → Bool) → ℕ → ℕ
labelling_made move f x p = label_after move (f p) (x p)
