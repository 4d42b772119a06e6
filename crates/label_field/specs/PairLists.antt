use Rattle.std.specs.Prelude.{◌≡◌, ◌≢◌, ℕ, suc, ℤ, pos, ◌<◌, ◌≤◌, ◌≤ℤ◌, ◌⊎◌, Bool, true, false}
use Rattle.std.specs.Prelude.{List, [], ◌∷◌, length}
use Rattle.std.specs.List.{All}
use Rattle.label_field.specs.Limits.{site_limit, pair_limit, weight_limit}
use Rattle.label_field.specs.declared.pair.Pair.{Pair}
use Rattle.label_field.specs.declared.error.LabelFieldError.{LabelFieldError}
use Rattle.label_field.specs.declared.error.LabelFieldError.TheVariants.{NoSuchSite, NoSuchLabel}
use Rattle.label_field.specs.declared.error.LabelFieldError.TheVariants.{SamePair, TooManyPairs}
use Rattle.label_field.specs.declared.error.LabelFieldError.TheVariants.{WeightRange, OutOfMemory}

-- how many sites there are, the pairs in their order, and whether they are numbered: then the
-- weight of each is its number, by which it has costs of its own
pub record PairList : Type 0 where
  pub sites : ℕ
  pub list : List Pair
  pub numbered : Bool

-- two unequal sites
pub record IsPair (sites : ℕ) (pair : Pair) : Type 0 where
  pub first : pair.first < sites
  pub second : pair.second < sites
  pub unequal : pair.first ≢ pair.second

-- the same, and a weight in its limit
pub record IsWeightedPair (sites : ℕ) (pair : Pair) : Type 0 where
  pub pair_is : IsPair sites pair
  pub light : pair.weight ≤ weight_limit

-- a pair of the list may have this weight: one in its limit; or, where they are numbered, a number
-- below how many there are
pub record IsWeightIn (pairs : PairList) (weight : ℕ) : Type 0 where
  pub weighted : pairs.numbered ≡ false → weight ≤ weight_limit
  pub numbered : pairs.numbered ≡ true → weight < length pairs.list

-- numbers in their limits, and a list of pairs
pub record IsPairList (pairs : PairList) : Type 0 where
  pub sites : pairs.sites ≤ site_limit
  pub count : length pairs.list ≤ pair_limit
  pub each : All (IsPair pairs.sites) pairs.list
  pub weights : All (λ pair. IsWeightIn pairs pair.weight) pairs.list

-- the pairs with their numbers in place of weights, the first of them having this one
abbrev pub number_pairs : ℕ → List Pair → List Pair
number_pairs k [] = []
number_pairs k (pair ∷ pairs) = record pair { weight = k } ∷ number_pairs (suc k) pairs

-- a weight in its range
abbrev pub IsWeight : ℤ → Type 0
IsWeight weight = (pos 0 ≤ℤ weight) × (weight ≤ℤ pos weight_limit)

-- a pair that may be added: two unequal sites, room in the list, a weight in its range
pub record IsPairAccepted (pairs : PairList) (first second : ℕ) (weight : ℤ) : Type 0 where
  pub first_site : first < pairs.sites
  pub second_site : second < pairs.sites
  pub unequal : first ≢ second
  pub room : length pairs.list < pair_limit
  pub in_range : IsWeight weight

-- why a pair is refused: the first cause that holds, and out of memory only where none does
abbrev pub IsPairRefusal : PairList → ℕ → ℕ → ℤ → LabelFieldError → Type 0
IsPairRefusal pairs first second weight NoSuchSite = (pairs.sites ≤ first) ⊎ (pairs.sites ≤ second)
IsPairRefusal pairs first second weight SamePair = (first < pairs.sites) × (first ≡ second)
IsPairRefusal pairs first second weight TooManyPairs =
    (first < pairs.sites) × (second < pairs.sites) × (first ≢ second)
    × (pair_limit ≤ length pairs.list)
IsPairRefusal pairs first second weight WeightRange =
    (first < pairs.sites) × (second < pairs.sites) × (first ≢ second)
    × (length pairs.list < pair_limit)
    × (¬ IsWeight weight)
IsPairRefusal pairs first second weight (OutOfMemory _) = IsPairAccepted pairs first second weight
IsPairRefusal pairs first second weight NoSuchLabel = ⊥
