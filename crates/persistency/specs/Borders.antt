-- The border of a strip in a move: of what its pairs to open sites outside it add, the function
-- with those at 1 differs from the function with those at 0 at the strip's own sites alone.
use Rattle.std.specs.Prelude.{◌==◌, ◌&&◌, ◌||◌, ℕ, Bool, true, false, not, nat_lt}
use Rattle.std.specs.List.{sum_by}
use Rattle.sums.specs.Sums.{sum_below, count_if}
use Rattle.label_field.specs.declared.pair.Pair.{Pair}
use Rattle.label_energies.specs.declared.change.Move.{Move}
use Rattle.label_energies.specs.Energies.{Instance}
use Rattle.move_energy.specs.declared.choice.Choice.{Choice}
use Rattle.move_energy.specs.declared.choice.Choice.TheVariants.{Open, Zero, One}
use Rattle.move_energy.specs.Choices.{is_open}
use Rattle.move_energy.specs.Weights.{pair_surplus}

-- the sites from one on, before another
abbrev pub range_of : ℕ → ℕ → ℕ → Bool
range_of from to p = not (nat_lt p from) && nat_lt p to

-- is 1 chosen?
abbrev pub is_one : Choice → Bool
is_one Open = false
is_one Zero = false
is_one One = true

-- is the site open, and of the set? Or open, and outside it?
abbrev pub is_inside : (ℕ → Choice) → (ℕ → Bool) → ℕ → Bool
is_inside choice set p = is_open (choice p) && set p

abbrev pub is_beyond : (ℕ → Choice) → (ℕ → Bool) → ℕ → Bool
is_beyond choice set p = is_open (choice p) && not (set p)

-- all but what is chosen to be 1
abbrev pub not_ones : (ℕ → Choice) → ℕ → Bool
not_ones choice p = not (is_one (choice p))

-- does the pair lead from the site to an open one outside the set?
abbrev pub leads_beyond : (ℕ → Choice) → (ℕ → Bool) → ℕ → Pair → Bool
leads_beyond choice set p pair =
    ((pair.first == p) && is_beyond choice set pair.second)
    || ((pair.second == p) && is_beyond choice set pair.first)

-- the surplus of a pair, if it does
abbrev pub pair_border : Instance → Move → (ℕ → ℕ) → (ℕ → Choice) → (ℕ → Bool) → ℕ → Pair → ℕ
pair_border m move f choice set p pair =
    count_if (leads_beyond choice set p pair) (pair_surplus m move f pair)

-- of all pairs of a site
abbrev pub border_at : Instance → Move → (ℕ → ℕ) → (ℕ → Choice) → (ℕ → Bool) → ℕ → ℕ
border_at m move f choice set p = sum_by (pair_border m move f choice set p) m.pairs

-- and of all open sites of the set that are 1
abbrev pub border_sum : Instance → Move → (ℕ → ℕ) → (ℕ → Choice) → (ℕ → Bool) → (ℕ → Bool) → ℕ
border_sum m move f choice set x =
    sum_below m.sites (λ p.
    count_if (is_inside choice set p && x p) (border_at m move f choice set p))
