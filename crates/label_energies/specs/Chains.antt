use Rattle.std.specs.Prelude.{◌≡◌, ◌≢◌, ℕ, zero, suc, ◌+◌, ◌-◌, ◌⊎◌, Bool, true, false, List, []}
use Rattle.std.specs.Prelude.{◌∷◌, ◌++◌, map}
use Rattle.std.specs.List.{flat_map, range_with_len}
use Rattle.label_energies.specs.declared.change.Move.{Move}
use Rattle.label_energies.specs.declared.change.Move.TheVariants.{Expand, Swap}
use Rattle.label_energies.specs.declared.cycles.Moves.{Moves}
use Rattle.label_energies.specs.declared.cycles.Moves.TheVariants.{Expansion, Swap as Swaps}
use Rattle.label_energies.specs.Energies.{Instance, labelling}
use Rattle.label_energies.specs.Moves.{IsAllowed, IsBest}

-- a cycle of expansions takes the labels in rising order
abbrev pub expansions : ℕ → List Move
expansions labels = map Expand (range_with_len 0 labels)

-- a cycle of swaps takes the pairs of labels in dictionary order
abbrev pub swaps : ℕ → List Move
swaps labels =
    flat_map (λ a. map (Swap a) (range_with_len (a + 1) (labels - (a + 1))))
    (range_with_len 0 labels)

-- the moves of a cycle
abbrev pub moves_of : Moves → ℕ → List Move
moves_of Expansion labels = expansions labels
moves_of Swaps labels = swaps labels

-- the moves lead from f to g, each with regular terms, each to the best labelling that it reaches
abbrev pub MovesLead : Instance → List Move → List ℕ → List ℕ → Type 0
MovesLead m [] f g = g ≡ f
MovesLead m (move ∷ moves) f g =
    IsAllowed m move (labelling f) × (h : List ℕ) × IsBest m move f h × MovesLead m moves h g

-- cycles of these moves from f end at g, after so many of the allowed cycles:
-- with the first that changes nothing (settled), or with the last that is allowed
abbrev pub IsChain : Instance → List Move → ℕ → List ℕ → List ℕ → ℕ → Bool → Type 0
IsChain m moves zero f g done settled = (g ≡ f) × (done ≡ 0) × (settled ≡ false)
IsChain m moves (suc allowed) f g done settled =
    (h : List ℕ) × MovesLead m moves f h ×
    (((h ≡ f) × (g ≡ f) × (done ≡ 1) × (settled ≡ true))
    ⊎ ((h ≢ f) × ((others : ℕ) × (done ≡ others + 1) × IsChain m moves allowed h g others settled)))

-- g is the last labelling of a beginning of the chain from f, and this is the chain's next move
-- from there
abbrev pub IsBeginning : Instance → List Move → ℕ → List ℕ → List ℕ → Move → Type 0
IsBeginning m moves zero f g next = ⊥
IsBeginning m moves (suc allowed) f g next =
    ((before : List Move) × (after : List Move) × (moves ≡ before ++ next ∷ after)
    × MovesLead m before f g)
    ⊎ ((h : List ℕ) × MovesLead m moves f h × (h ≢ f) × IsBeginning m moves allowed h g next)

-- so many cycles lead from f to g, each of which changes something
abbrev pub Cycles : Instance → List Move → ℕ → List ℕ → List ℕ → Type 0
Cycles m moves zero f g = g ≡ f
Cycles m moves (suc n) f g = (h : List ℕ) × MovesLead m moves f h × (h ≢ f) × Cycles m moves n h g
