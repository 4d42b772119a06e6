-- The lists of a move's numbers.
use Rattle.std.specs.Prelude.{◌≡◌, ℕ, ◌+◌, ◌*◌, ◌<◌, ◌≤◌, Bool, true, false, cond, ℤ, pos}
use Rattle.std.specs.Prelude.{◌-ℤ◌}
use Rattle.std.specs.Prelude.{List, length, slice_index, slice_index_or, unsigned_abs}
use Rattle.std.specs.List.{All}
use Rattle.label_field.specs.Limits.{site_limit, label_limit, weight_limit}
use Rattle.label_energies.specs.declared.change.Move.{Move}
use Rattle.label_energies.specs.Energies.{Instance, labelling}
use Rattle.label_energies.specs.Moves.{label_after}
use Rattle.cost_store.specs.Limits.{site_cost_limit, pair_cost_limit}
use Rattle.move_energy.specs.declared.by_site.Neighbours.{Neighbours}
use Rattle.move_energy.specs.BySite.{neighbours_start, neighbour_at, weight_at, is_first}
use Rattle.move_energy.specs.MoveValues.{data_rise}
use Rattle.move_energy.specs.declared.choice.Choice.{Choice}
use Rattle.move_energy.specs.declared.choice.Choice.TheVariants.{Open, Zero, One}
use Rattle.move_energy.specs.Choices.{bit_of}
use Rattle.move_energy.specs.declared.rises.EndRises.{EndRises}
use Rattle.move_energy.specs.Rising.{entry_place, table_labels, AreRises}
use Rattle.site_forms.specs.declared.by_known.ToldRises.{ToldRises}

-- what a pair of weight 1 costs by a table of costs, whose first end, or its second, has the one
-- label and its other end the other
abbrev pub table_cost : List ℕ → Bool → ℕ → ℕ → ℕ
table_cost smooth true own other = slice_index smooth (own * 256 + other)
table_cost smooth false own other = slice_index smooth (other * 256 + own)

-- by how much a pair of weight 1 rises by that table, whose end of this label turns while the other
-- end has this label
abbrev pub unit_rise : List ℕ → List ℕ → List ℕ → Bool → ℕ → ℕ → ℤ
unit_rise stays turns smooth first own label =
    pos (table_cost smooth first (slice_index turns own) label)
    -ℤ pos (table_cost smooth first (slice_index stays own) label)

-- the rises at a place of a table
abbrev pub rises_in : List EndRises → ℕ → EndRises
rises_in table place = slice_index_or table place (record { low = pos 0; high = pos 0 })

-- those of such an end
abbrev pub unit_rises_at : List EndRises → Bool → ℕ → ℕ → EndRises
unit_rises_at table first own other = rises_in table (entry_place first own other)

-- these are the rises of a pair of weight 1 whose end of the one label turns, while the other end
-- has the other
pub record AreUnitRises (stays turns smooth : List ℕ) (first : Bool) (own other : ℕ)
    (rises : EndRises) : Type 0 where
  pub low : rises.low ≡ unit_rise stays turns smooth first own (slice_index stays other)
  pub high : rises.high ≡ unit_rise stays turns smooth first own (slice_index turns other)

-- each two of 256 labels cost the same in both orders
abbrev pub AreSymmetric : List ℕ → Type 0
AreSymmetric smooth =
    (one other : ℕ) → one < label_limit → other < label_limit
    → slice_index smooth (one * label_limit + other)
    ≡ slice_index smooth (other * label_limit + one)

-- the costs have a row of each label of a list
abbrev pub HaveRowsOf : List ℕ → List ℕ → Type 0
HaveRowsOf list smooth =
    (old : ℕ) → slice_index list old * label_limit + label_limit ≤ length smooth

-- some site has this label
abbrev pub IsSiteLabel : List ℕ → ℕ → Type 0
IsSiteLabel at label = (u : ℕ) × (u < length at) × (labelling at u ≡ label)

-- the move makes this label of some site's
abbrev pub IsMadeLabel : Move → List ℕ → ℕ → Type 0
IsMadeLabel move at label =
    (old : ℕ) × (b : Bool) × IsSiteLabel at old × (label ≡ label_after move old b)

-- the own rise of a site, as a list has it
abbrev pub own_at : List ℤ → ℕ → ℤ
own_at own u = slice_index_or own u (pos 0)

-- the places of n sites: those of a site stand together, and at each is a site
pub record ArePlaces (n : ℕ) (ends : Neighbours) : Type 0 where
  pub few_sites : n ≤ site_limit
  pub starts_len : length ends.starts.items ≡ n + 1
  pub rising : (u : ℕ) → u < n → neighbours_start ends u ≤ neighbours_start ends (u + 1)
  pub within : (u : ℕ) → u ≤ n → neighbours_start ends u ≤ length ends.heads.items
  pub firsts_len : ends.rising ≡ false → length ends.firsts.items ≡ length ends.heads.items
  pub weights_len : ends.even ≡ false → length ends.weights.items ≡ length ends.heads.items
  pub few_places : length ends.heads.items ≤ 8388608
  pub inside : (u place : ℕ) → u < n → neighbours_start ends u ≤ place
      → place < neighbours_start ends (u + 1) → neighbour_at ends place < n

-- the weights there are in their limit
abbrev pub AreLight : ℕ → Neighbours → Type 0
AreLight n ends = (u place : ℕ) → u < n → neighbours_start ends u ≤ place
    → place < neighbours_start ends (u + 1) → weight_at ends place ≤ weight_limit

-- none of the rises is larger than a pair's cost
abbrev pub AreRisesSmall : List EndRises → Type 0
AreRisesSmall rises = (place : ℕ) → (unsigned_abs (rises_in rises place).low ≤ pair_cost_limit)
    × (unsigned_abs (rises_in rises place).high ≤ pair_cost_limit)

-- a list has two rises for each place, none of them large
pub record AreListedRises (ends : Neighbours) (rises : List EndRises) : Type 0 where
  pub size : length rises ≡ length ends.heads.items
  pub small : AreRisesSmall rises

-- what the neighbours say of all places at once
pub record AreFlagsOf (ends : Neighbours) (rising even : Bool) (weight : ℕ) : Type 0 where
  pub rising_is : rising ≡ ends.rising
  pub even_is : even ≡ ends.even
  pub weight_is : weight ≡ ends.weight

-- a label and an own rise for each site, two labels for each label, and a row of costs for each of
-- these, the same in both orders if it is said so; and where there are few labels, a table of what
-- a pair of weight 1 rises by whose ends have labels of sites. None is large
pub record AreReadableLists (own : List ℤ) (at stays turns smooth : List ℕ) (symmetric few : Bool)
    (table : List EndRises) : Type 0 where
  pub own_len : length own ≡ length at
  pub own_small : (u : ℕ) → unsigned_abs (own_at own u) ≤ site_cost_limit
  pub stays_len : length stays ≡ label_limit
  pub turns_len : length turns ≡ label_limit
  pub stays_below : (old : ℕ) → slice_index stays old < label_limit
  pub turns_below : (old : ℕ) → slice_index turns old < label_limit
  pub stays_rows : HaveRowsOf stays smooth
  pub turns_rows : HaveRowsOf turns smooth
  pub costs : (place : ℕ) → slice_index smooth place ≤ 10000
  pub mirrored : symmetric ≡ true → AreSymmetric smooth
  pub table_len : few ≡ true → length table ≡ 8192
  pub few_labels : few ≡ true → (u : ℕ) → u < length at → slice_index at u < table_labels
  pub rises : few ≡ true → (first : Bool) (own other : ℕ) → IsSiteLabel at own
      → IsSiteLabel at other
      → AreUnitRises stays turns smooth first own other (unit_rises_at table first own other)

-- the number of what is known of a variable
abbrev pub code_of : Choice → ℕ
code_of Open = 0
code_of Zero = 1
code_of One = 2

-- where the rises of a pair stand whose first end has the one label, while this is known of its
-- other end, which has the other
abbrev pub known_place : ℕ → ℕ → Choice → ℕ
known_place own other choice = own * 256 + other * 4 + code_of choice

-- the rises at a place of a table
abbrev pub told_in : List ToldRises → ℕ → ToldRises
told_in told place = slice_index_or told place (record { least = pos 0; greatest = pos 0 })

-- by how much a pair of this weight rises whose first end, of the one label, turns, while its other
-- end, of the other label, has this bit
abbrev pub weighed_rise : List ℕ → List ℕ → List ℕ → ℕ → ℕ → ℕ → Bool → ℤ
weighed_rise stays turns smooth weight own other bit =
    pos (weight * table_cost smooth true (slice_index turns own)
    (cond bit (slice_index turns other) (slice_index stays other)))
    -ℤ pos (weight * table_cost smooth true (slice_index stays own)
    (cond bit (slice_index turns other) (slice_index stays other)))

-- these are its rises, at least and at most, where this is known of its other end
pub record AreToldRises (stays turns smooth : List ℕ) (weight own other : ℕ) (choice : Choice)
    (told : ToldRises) : Type 0 where
  pub least : told.least
      ≡ weighed_rise stays turns smooth weight own other (bit_of choice true)
  pub greatest : told.greatest
      ≡ weighed_rise stays turns smooth weight own other (bit_of choice false)
  pub small : (unsigned_abs told.least ≤ pair_cost_limit)
      × (unsigned_abs told.greatest ≤ pair_cost_limit)

-- labels are few, and costs the same in both orders; and a table has the rises of a pair of this
-- weight by the labels of sites
pub record AreToldFor (weight : ℕ) (at stays turns smooth : List ℕ) (symmetric few : Bool)
    (listed : Bool) (told : List ToldRises) : Type 0 where
  pub weighted : listed ≡ false
  pub mirrored : symmetric ≡ true
  pub labels : few ≡ true
  pub rows : (u : ℕ) → u < length at → slice_index at u * 256 + 256 ≤ length told
  pub rises : (own other : ℕ) (choice : Choice) → IsSiteLabel at own → IsSiteLabel at other
      → AreToldRises stays turns smooth weight own other choice
      (told_in told (known_place own other choice))

-- all pairs have the weight that the neighbours say, and such a pair's rises are told
pub record AreUniform (ends : Neighbours) (at stays turns smooth : List ℕ) (symmetric few : Bool)
    (listed : Bool) (told : List ToldRises) : Type 0 where
  pub even : ends.even ≡ true
  pub table : AreToldFor ends.weight at stays turns smooth symmetric few listed told

-- the weights of pairs differ, and the rises of a pair of weight 1 are told
pub record AreScaled (ends : Neighbours) (at stays turns smooth : List ℕ) (symmetric few : Bool)
    (listed : Bool) (told : List ToldRises) : Type 0 where
  pub differ : ends.even ≡ false
  pub table : AreToldFor 1 at stays turns smooth symmetric few listed told

-- by the value of its variable each site keeps its label or gets this one; all pairs have the
-- weight that the neighbours say, and costs the same in both orders; no table has their rises
pub record AreExpanding (ends : Neighbours) (at stays turns : List ℕ) (symmetric few : Bool)
    (listed : Bool) (alpha : ℕ) : Type 0 where
  pub weighted : listed ≡ false
  pub even : ends.even ≡ true
  pub light : ends.weight ≤ weight_limit
  pub mirrored : symmetric ≡ true
  pub many : few ≡ false
  pub stay : (own : ℕ) → IsSiteLabel at own → slice_index stays own ≡ own
  pub turn : (own : ℕ) → IsSiteLabel at own → slice_index turns own ≡ alpha

-- the lists are of these sites and their places: what a pair rises by is told by its weight and the
-- labels of its ends, or else listed at each place; by what is known, if it is said so, for all
-- pairs or for one of weight 1; and in an expansion, if that is said, by its label
pub record AreReadable (ends : Neighbours) (own : List ℤ) (at stays turns smooth : List ℕ)
    (symmetric few : Bool) (table : List EndRises) (uniform scaled : Bool) (told : List ToldRises)
    (listed : Bool) (rises : List EndRises) (expanding : Bool) (alpha : ℕ) : Type 0 where
  pub places : ArePlaces (length at) ends
  pub numbers : AreReadableLists own at stays turns smooth symmetric few table
  pub light : listed ≡ false → AreLight (length at) ends
  pub by_place : listed ≡ true → AreListedRises ends rises
  pub by_known : uniform ≡ true
      → AreUniform ends at stays turns smooth symmetric few listed told
  pub by_unit : scaled ≡ true
      → AreScaled ends at stays turns smooth symmetric few listed told
  pub by_label : expanding ≡ true → AreExpanding ends at stays turns symmetric few listed alpha

-- what the labels that a move makes cost beside one another was read of it
abbrev pub AreCostsRead : Instance → Move → List ℕ → List ℕ → Type 0
AreCostsRead m move at smooth =
    (one other weight : ℕ) → IsMadeLabel move at one → IsMadeLabel move at other
    → weight * slice_index smooth (one * label_limit + other) ≡ m.smooth_cost weight one other

-- what the pair at a place of a site rises by was read of it
abbrev pub AreRisesOf : Instance → Move → Neighbours → List ℕ → ℕ → ℕ → EndRises → Type 0
AreRisesOf m move ends at u place rises =
    AreRises m move (weight_at ends place) (is_first ends u place) (labelling at u)
    (labelling at (neighbour_at ends place)) rises

-- so it was at each place of the first n sites
abbrev pub AreRisesBelow : ℕ → Instance → Move → Neighbours → List ℕ → List EndRises → Type 0
AreRisesBelow n m move ends at rises =
    (u place : ℕ) → u < n → neighbours_start ends u ≤ place
    → place < neighbours_start ends (u + 1)
    → AreRisesOf m move ends at u place (rises_in rises place)

-- and of all
abbrev pub AreRisesRead : Instance → Move → Neighbours → List ℕ → List EndRises → Type 0
AreRisesRead m move ends at rises = AreRisesBelow (length at) m move ends at rises

-- the lists were read of a move from these labels: what each label becomes, and what each site's
-- own rise is
pub record AreReadOf (m : Instance) (move : Move) (own : List ℤ) (at stays turns : List ℕ)
    : Type 0 where
  pub sites : length at ≡ m.sites
  pub labels : All (λ label. label < m.labels) at
  pub after : (old : ℕ) → old < m.labels → (slice_index stays old ≡ label_after move old false)
      × (slice_index turns old ≡ label_after move old true)
  pub own_are : (u : ℕ) → u < length at → own_at own u ≡ data_rise m move (labelling at) u
