-- Labels that stay in use whatever an expansion does, since to give them up would cost the sites
-- and the pairs at least what they cost by themselves.
use Rattle.std.specs.Prelude.{◌≡◌, ◌≢◌, ◌==◌, ◌||◌, ◌⊎◌, ℕ, ◌+◌, ◌<◌, nat_lt, Bool, true, not, ℤ}
use Rattle.std.specs.Prelude.{pos, ◌-ℤ◌, ◌≤ℤ◌}
use Rattle.sums.specs.Sums.{count_if}
use Rattle.label_energies.specs.declared.change.Move.TheVariants.{Expand}
use Rattle.label_energies.specs.Energies.{Instance, plain_energy, energy, is_used}
use Rattle.label_energies.specs.Moves.{labelling_made}
use Rattle.move_energy.specs.MoveValues.{move_value}

-- by how much a function of the sites rises where the sites of a label turn last
abbrev pub last_rise : ((ℕ → Bool) → ℤ) → (ℕ → ℕ) → ℕ → ℤ
last_rise E f label = E (λ p. true) -ℤ E (λ p. not (f p == label))

-- they turn one after another: the values once those below a site have turned
abbrev pub turned_last : (ℕ → ℕ) → ℕ → ℕ → ℕ → Bool
turned_last f label site p = nat_lt p site || not (f p == label)

-- a label stays in use where a site can take the label a: if its sites take a last, this costs the
-- sites and the pairs at least what the label costs by itself
abbrev pub IsKeptLabel : Instance → ℕ → (ℕ → ℕ) → ℕ → Type 0
IsKeptLabel m a f label = pos (m.label_cost label) ≤ℤ last_rise (move_value m (Expand a) f) f label

-- so does each label in use, but for a, that costs something by itself
abbrev pub AreLabelsKept : Instance → ℕ → (ℕ → ℕ) → Type 0
AreLabelsKept m a f =
    (label : ℕ) → label < m.labels → label ≢ a → is_used m.sites f label ≡ true
    → 0 < m.label_cost label → IsKeptLabel m a f label

-- the energy of the labelling that an expansion makes by a value for each site
abbrev pub expanded_value : Instance → ℕ → (ℕ → ℕ) → (ℕ → Bool) → ℤ
expanded_value m a f x = pos (energy m (labelling_made (Expand a) f x))

-- what the expansion pays for its own label: nothing where that is in use already
abbrev pub own_price : Instance → ℕ → (ℕ → ℕ) → ℕ
own_price m a f = count_if (not (is_used m.sites f a)) (m.label_cost a)

-- it pays nothing for it, or the sites and the pairs save more than that
abbrev pub IsWorthIt : Instance → ℕ → (ℕ → ℕ) → (ℕ → Bool) → Type 0
IsWorthIt m a f x =
    (own_price m a f ≡ 0)
    ⊎ (plain_energy m (labelling_made (Expand a) f x) + own_price m a f < plain_energy m f)
