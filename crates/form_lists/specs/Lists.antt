-- The lists of which a form is lent.
use Rattle.std.specs.Prelude.{◌≡◌, ℕ, ◌+◌, ◌*◌, ◌<◌, ◌≤◌, Bool, true, false, cond, ℤ, List, []}
use Rattle.std.specs.Prelude.{length, unsigned_abs}
use Rattle.std.specs.Prelude.{slice_index, slice_index_or}
use Rattle.std.specs.List.{All, Contains}
use Rattle.label_field.specs.Limits.{label_limit}
use Rattle.label_field.specs.PairLists.{PairList}
use Rattle.label_energies.specs.declared.change.Move.{Move}
use Rattle.label_energies.specs.declared.change.Move.TheVariants.{Expand, Swap}
use Rattle.label_energies.specs.Energies.{Instance, labelling}
use Rattle.label_energies.specs.Moves.{label_after}
use Rattle.cost_store.specs.Limits.{site_cost_limit}
use Rattle.cost_store.specs.declared.problem.Problem.{Problem}
use Rattle.cost_store.specs.Posed.{Closure, WhereMeant}
use Rattle.move_energy.specs.declared.by_site.Neighbours.{Neighbours}
use Rattle.move_energy.specs.declared.choice.Choice.{Choice}
use Rattle.move_energy.specs.Choices.{Changes}
use Rattle.move_energy.specs.MoveValues.{data_rise}
use Rattle.site_forms.specs.Fields.{AreReadableLists, AreSymmetric, own_at}
use Rattle.site_forms.specs.Fields.{AreListedRises, AreCostsRead, AreRisesRead}
use Rattle.form_lists.specs.PairSides.{AreSidesRead, AreAllSmall}
use Rattle.site_forms.specs.Fields.{AreUniform, AreScaled, AreToldRises, AreExpanding}
use Rattle.site_forms.specs.Fields.{told_in, known_place}
use Rattle.form_lists.specs.declared.by_pair.PairRises.{PairRises}
use Rattle.form_lists.specs.declared.lists.FormLists.{FormLists}
use Rattle.form_lists.specs.declared.smooth_costs.AskedCosts.{AskedCosts}

-- ---- what labels cost beside one another

-- was it asked what this label costs beside each other one that was asked?
abbrev pub was_asked : AskedCosts → ℕ → Bool
was_asked asked label = slice_index_or asked.labels.items label false

-- no cost of a list is above the greatest smooth cost
abbrev pub AreCostsSmall : List ℕ → Type 0
AreCostsSmall costs = (place : ℕ) → slice_index costs place ≤ 10000

-- the list has what the two labels cost a pair of weight 1: a pair costs its weight times that
abbrev pub HasCostOf : Instance → List ℕ → ℕ → ℕ → Type 0
HasCostOf m costs one other =
    (weight : ℕ) → weight * slice_index costs (one * label_limit + other)
    ≡ m.smooth_cost weight one other

-- each such cost that the list had, it has
abbrev pub KeepsCostsOf : Instance → List ℕ → List ℕ → Type 0
KeepsCostsOf m old new =
    (one other : ℕ) → other < label_limit → HasCostOf m old one other → HasCostOf m new one other

-- so it does, and it has this one too
pub record GetsCostOf (m : Instance) (one other : ℕ) (old new : List ℕ) : Type 0 where
  pub cost : HasCostOf m new one other
  pub kept : KeepsCostsOf m old new

-- what each two labels that were asked cost a pair is what they cost in the problem, the same in
-- both orders if it is said so, and no cost is large
pub record AreAskedCosts {F V : Type 0} (f : Closure F) (v : Closure V) (problem : Problem F V)
    (asked : AskedCosts) : Type 0 where
  pub small : AreCostsSmall asked.costs.items
  pub mirrored : asked.symmetric ≡ true → AreSymmetric asked.costs.items
  pub costs : WhereMeant f v problem (λ m. (one other : ℕ) → one < m.labels → other < m.labels
      → was_asked asked one ≡ true → was_asked asked other ≡ true
      → HasCostOf m asked.costs.items one other)

-- there is room for so many labels
abbrev pub HasCostRoom : ℕ → AskedCosts → Type 0
HasCostRoom labels asked =
    (length asked.labels.items ≡ label_limit)
    × (labels * label_limit ≤ length asked.costs.items)

-- each label that was asked stays so, and there is room for so many
pub record KeepsAsked (labels : ℕ) (old new : AskedCosts) : Type 0 where
  pub asked : (label : ℕ) → was_asked old label ≡ true → was_asked new label ≡ true
  pub room : HasCostRoom labels new

-- so it does, and this label was asked too
pub record AsksLabel (labels label : ℕ) (old new : AskedCosts) : Type 0 where
  pub here : was_asked new label ≡ true
  pub kept : KeepsAsked labels old new

-- the labels of a move were asked
abbrev pub AreMoveLabelsAsked : Move → AskedCosts → Type 0
AreMoveLabelsAsked (Expand a) asked = was_asked asked a ≡ true
AreMoveLabelsAsked (Swap a b) asked = (was_asked asked a ≡ true) × (was_asked asked b ≡ true)

-- the lists have what each of so many labels becomes by a move
pub record AreMoveLabels (labels : ℕ) (move : Move) (lists : FormLists) : Type 0 where
  pub stays_len : length lists.stays.items ≡ label_limit
  pub turns_len : length lists.turns.items ≡ label_limit
  pub stays_are : (old : ℕ) → old < labels
      → slice_index lists.stays.items old ≡ label_after move old false
  pub turns_are : (old : ℕ) → old < labels
      → slice_index lists.turns.items old ≡ label_after move old true
  pub stays_below : (old : ℕ) → slice_index lists.stays.items old < labels
  pub turns_below : (old : ℕ) → slice_index lists.turns.items old < labels

-- each label that the move makes of a site's was asked
abbrev pub AreMadeAsked : Move → List ℕ → AskedCosts → Type 0
AreMadeAsked move at asked =
    (u : ℕ) (b : Bool) → u < length at
    → was_asked asked (label_after move (labelling at u) b) ≡ true

-- ---- all lists

-- the smooth costs that the lists have asked are those of the problem
abbrev pub KnowsCosts : {F V : Type 0} → Closure F → Closure V → Problem F V → FormLists → Type 0
KnowsCosts {F} {V} f v problem lists = AreAskedCosts f v problem lists.smooth

-- no smooth cost was asked
abbrev pub HasNoCosts : FormLists → Type 0
HasNoCosts lists = (lists.smooth.labels.items ≡ []) × (lists.smooth.costs.items ≡ [])

-- the lists have numbers for each site, label and two labels, none of them large; and, where the
-- pairs are numbered, for each place
pub record AreFormLists (pairs : PairList) (ends : Neighbours) (at : List ℕ) (lists : FormLists)
    : Type 0 where
  pub numbers : AreReadableLists lists.own.rises.items at lists.stays.items lists.turns.items
      lists.smooth.costs.items lists.smooth.symmetric lists.few lists.table.items
  pub kind : lists.listed ≡ pairs.numbered
  pub by_place : lists.listed ≡ true → AreListedRises ends lists.rises.items
  pub by_known : lists.uniform ≡ true → AreUniform ends at lists.stays.items lists.turns.items
      lists.smooth.costs.items lists.smooth.symmetric lists.few lists.listed lists.told.items
  pub by_unit : lists.scaled ≡ true → AreScaled ends at lists.stays.items lists.turns.items
      lists.smooth.costs.items lists.smooth.symmetric lists.few lists.listed lists.told.items
  pub by_label : lists.expanding ≡ true → AreExpanding ends at lists.stays.items lists.turns.items
      lists.smooth.symmetric lists.few lists.listed lists.alpha

-- with own rises that are not large they have numbers for each site too
abbrev pub AreLabelLists : List ℕ → FormLists → Type 0
AreLabelLists at lists =
    (own : List ℤ) → length own ≡ length at
    → ((u : ℕ) → unsigned_abs (own_at own u) ≤ site_cost_limit)
    → AreReadableLists own at lists.stays.items lists.turns.items
    lists.smooth.costs.items lists.smooth.symmetric lists.few lists.table.items

-- the same but for the own rises
pub record ArePairLists (pairs : PairList) (ends : Neighbours) (at : List ℕ) (lists : FormLists)
    : Type 0 where
  pub numbers : AreLabelLists at lists
  pub kind : lists.listed ≡ pairs.numbered
  pub by_place : lists.listed ≡ true → AreListedRises ends lists.rises.items
  pub by_known : lists.uniform ≡ true → AreUniform ends at lists.stays.items lists.turns.items
      lists.smooth.costs.items lists.smooth.symmetric lists.few lists.listed lists.told.items
  pub by_unit : lists.scaled ≡ true → AreScaled ends at lists.stays.items lists.turns.items
      lists.smooth.costs.items lists.smooth.symmetric lists.few lists.listed lists.told.items
  pub by_label : lists.expanding ≡ true → AreExpanding ends at lists.stays.items lists.turns.items
      lists.smooth.symmetric lists.few lists.listed lists.alpha

-- the table of rises by what is known is of so many labels, for pairs of this weight
pub record IsToldTable (weight labels : ℕ) (lists : FormLists) : Type 0 where
  pub mirrored : lists.smooth.symmetric ≡ true
  pub few : lists.few ≡ true
  pub rows : length lists.told.items ≡ labels * 256
  pub rises : (own other : ℕ) (choice : Choice) → own < labels → other < labels
      → AreToldRises lists.stays.items lists.turns.items lists.smooth.costs.items weight
      own other choice (told_in lists.told.items (known_place own other choice))

-- if a table tells the rises of all pairs by what is known, it is for the weight that all have; and
-- if it tells those of a pair of weight 1, weights differ
pub record IsToldAsSaid (labels : ℕ) (ends : Neighbours) (lists : FormLists) : Type 0 where
  pub even : lists.uniform ≡ true → (ends.even ≡ true) × IsToldTable ends.weight labels lists
  pub unit : lists.scaled ≡ true → (ends.even ≡ false) × IsToldTable 1 labels lists

-- all lists but that of rises by what is known stay
pub record KeepsPairLists (old new : FormLists) : Type 0 where
  pub stays : new.stays ≡ old.stays
  pub turns : new.turns ≡ old.turns
  pub smooth : new.smooth ≡ old.smooth
  pub few : new.few ≡ old.few
  pub table : new.table ≡ old.table
  pub listed : new.listed ≡ old.listed

-- of a move from these labels what its labels become, and what pairs cost, was read
pub record ArePairsRead (m : Instance) (move : Move) (ends : Neighbours) (at : List ℕ)
    (lists : FormLists) : Type 0 where
  pub sites : length at ≡ m.sites
  pub labels : All (λ label. label < m.labels) at
  pub after : (old : ℕ) → old < m.labels
      → (slice_index lists.stays.items old ≡ label_after move old false)
      × (slice_index lists.turns.items old ≡ label_after move old true)
  pub costs : lists.listed ≡ false → AreCostsRead m move at lists.smooth.costs.items
  pub rises : lists.listed ≡ true → AreRisesRead m move ends at lists.rises.items

-- where the pairs are numbered, the rises of each pair were read
pub record HasTermsOf (m : Instance) (move : Move) (at : List ℕ) (lists : FormLists) : Type 0 where
  pub count : lists.listed ≡ true → length lists.sides.items ≡ length m.pairs
  pub read : lists.listed ≡ true → AreSidesRead m move (labelling at) lists.sides.items

-- a list has the rises of each pair of a problem in a move, none of them large
pub record HasSidesOf {F V : Type 0} (f : Closure F) (v : Closure V) (problem : Problem F V)
    (at : List ℕ) (move : Move) (sides : List PairRises) : Type 0 where
  pub count : length sides ≡ length problem.pairs.list
  pub small : AreAllSmall sides
  pub read : WhereMeant f v problem (λ m. AreSidesRead m move (labelling at) sides)

-- and what labels cost the sites
pub record IsReadOf (m : Instance) (move : Move) (ends : Neighbours) (at : List ℕ)
    (lists : FormLists) : Type 0 where
  pub pairs : ArePairsRead m move ends at lists
  pub own_are : (u : ℕ) → u < length at
      → own_at lists.own.rises.items u ≡ data_rise m move (labelling at) u

-- ---- at some sites alone

-- the problem in which labels cost only these sites anything
abbrev pub with_costs_at : (ℕ → Bool) → Instance → Instance
with_costs_at asked m = record {
  sites = m.sites;
  labels = m.labels;
  data_cost = λ p label. cond (asked p) (m.data_cost p label) 0;
  smooth_cost = m.smooth_cost;
  pairs = m.pairs;
  label_cost = m.label_cost;
}

-- the own rises of these sites are those of the problem; each of the others is so too, or 0
pub record AreRisesNear (m : Instance) (move : Move) (at : List ℕ) (own : List ℤ) (sites : List ℕ)
    : Type 0 where
  pub asked : ℕ → Bool
  pub covers : All (λ p. asked p ≡ true) sites
  pub rises : (u : ℕ) → u < length at
      → own_at own u ≡ data_rise (with_costs_at asked m) move (labelling at) u

-- the lists were read of a move from these labels, at these sites and maybe at others
pub record IsReadNear (m : Instance) (move : Move) (ends : Neighbours) (at : List ℕ)
    (lists : FormLists) (sites : List ℕ) : Type 0 where
  pub asked : ℕ → Bool
  pub covers : All (λ p. asked p ≡ true) sites
  pub read : IsReadOf (with_costs_at asked m) move ends at lists

-- these are sites, and each site that the move can change is one of them
pub record CoversChanges (move : Move) (at sites : List ℕ) : Type 0 where
  pub inside : All (λ p. p < length at) sites
  pub each : (u : ℕ) → u < length at → Changes move (labelling at u) → Contains sites u
