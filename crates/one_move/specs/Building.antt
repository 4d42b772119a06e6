-- The energy of a move, and what its least assignment says of the sites.
use Rattle.std.specs.Prelude.{◌≡◌, ◌≢◌, ◌^◌, ◌<◌, ◌≤◌, ◌==◌, ℕ, Bool, true, false, not}
use Rattle.std.specs.Prelude.{List, [], length, vec_len, IsTrue, IsFalse, Result, Ok, Err, ℤ, pos}
use Rattle.std.specs.Prelude.{slice_index, ◌⊎◌, ◌+◌}
use Rattle.std.specs.Global.{Vec}
use Rattle.label_field.specs.LabelFields.{LabelField}
use Rattle.cost_store.specs.declared.problem.Problem.{Problem}
use Rattle.cost_store.specs.Posed.{Closure, IsPosed, IsAsked, FitsProblem, WhereMeant}
use Rattle.label_energies.specs.declared.change.Move.{Move}
use Rattle.label_energies.specs.declared.change.Move.TheVariants.{Expand}
use Rattle.label_energies.specs.Energies.{Instance, labelling, energy, plain_energy}
use Rattle.label_energies.specs.Moves.{IsAllowed, IsSwap, label_after, labelling_made}
use Rattle.pseudo_bool.specs.Energies.{assignment}
use Rattle.label_field.specs.Limits.{site_limit, label_limit}
use Rattle.pseudo_bool.specs.Limits.{term_limit}
use Rattle.compile_cut.specs.declared.quadratic.Quadratic.{Quadratic}
use Rattle.compile_cut.specs.Quadratics.{quadratic_value, IsQuadraticBounded}
use Rattle.compile_cut.specs.Weights.{weights_size}
use Rattle.move_energy.specs.declared.choice.Choice.{Choice}
use Rattle.move_energy.specs.declared.building.MoveEnergy.{MoveEnergy}
use Rattle.move_energy.specs.declared.error.BuildError.{BuildError}
use Rattle.move_energy.specs.Choices.{bit_of, choice_at, open_rank, value_of, AreOpenSites}
use Rattle.move_energy.specs.Choices.{StandsFor}
use Rattle.move_energy.specs.Problems.{IsPrepareRefusal}
use Rattle.move_energy.specs.Limits.{weights_limit}
use Rattle.move_energy.specs.OpenMoves.{IsAllowedFrom}
use Rattle.move_energy.specs.Weights.{AreWeights, open_weights}
use Rattle.label_field.specs.PairLists.{PairList}
use Rattle.move_energy.specs.BySite.{AreBySite, IsListing}
use Rattle.site_bounds.specs.Listed.{AreListed, changes}
use Rattle.site_bounds.specs.Decisions.{IsSmallestLeast}
use Rattle.move_energy.specs.MoveValues.{move_value}
use Rattle.form_lists.specs.Lists.{AreFormLists, IsReadOf, KnowsCosts}
use Rattle.strip_nets.specs.Looking.{IsStageLeast}
use Rattle.one_move.specs.declared.left.Built.{Built}
use Rattle.one_move.specs.declared.left.Left.{Left}
use Rattle.one_move.specs.declared.left.Left.TheVariants.{Form, Values}
use Rattle.one_move.specs.declared.workspace.Workspace.{Workspace}

-- the fewest nodes of a later net that a way with parts cuts: one thread cuts a smaller one in less
-- time than several take to share it
abbrev pub later_nodes : ℕ
later_nodes = 2 ^ 16

-- the workspace is of the problem: the pairs are by their sites, where they are grouped, and the
-- smooth costs that were asked are the problem's
abbrev pub IsOfProblem : {F V : Type 0} → Closure F → Closure V → Problem F V → Workspace → Type 0
IsOfProblem {F} {V} f v problem space =
    (space.deciding.ends.starts.items ≢ [] → AreBySite problem.pairs space.deciding.ends)
    × KnowsCosts f v problem space.deciding.numbers

-- the workspace is that of a posed problem, and the labels are of its sites
pub record IsWorkingOn {F V : Type 0} (f : Closure F) (v : Closure V) (problem : Problem F V)
    (field : LabelField) (space : Workspace) : Type 0 where
  pub posed : IsPosed f v problem
  pub fits : FitsProblem problem field
  pub of_problem : IsOfProblem f v problem space

-- the lists of the workspace are those of the move from f, and its pairs are by their sites
pub record HasListsOfMove (pairs : PairList) (move : Move) (f : List ℕ)
    (space : Workspace) : Type 0 where
  pub by_site : AreBySite pairs space.deciding.ends
  pub lists : AreListed move (labelling f) space.built.variables.choices.items space.deciding.lists

-- what is left of a move is listed: its open sites, and among the changing ones each whose label
-- can still become another
pub record IsRestListed (move : Move) (f : List ℕ) (space : Workspace) : Type 0 where
  pub opened : AreOpenSites space.built.variables.choices.items space.deciding.lists.opened.items
  pub chosen : ℕ → Bool
  pub listed : IsListing chosen (length f) space.deciding.lists.changing.items
  pub each : (p : ℕ) → p < length f
      → changes move (labelling f) space.built.variables.choices.items p ≡ true → chosen p ≡ true

-- it is, where a move is to look at the listed sites alone
abbrev pub IsRestWhereListed : Move → List ℕ → Workspace → Type 0
IsRestWhereListed move f space =
    IsTrue space.deciding.lists.listed → IsRestListed move f space

-- the workspace has a number for each site, and those of the open ones, which are their weights,
-- are in their limit together
abbrev pub AreWeightsSized : ℕ → Workspace → Type 0
AreWeightsSized n space =
    (length space.deciding.bounds.greatest.items ≡ n)
    × (weights_size (open_weights space.built.variables.choices.items
    space.deciding.bounds.greatest.items n) ≤ weights_limit)

-- the weights of the open sites are those of the partly decided move from f
abbrev pub KnowsWeights : Instance → Move → List ℕ → Workspace → Type 0
KnowsWeights m move f space =
    AreWeights m move (labelling f) (choice_at space.built.variables.choices.items)
    space.deciding.bounds.greatest.items

-- the move is asked of a posed problem with few labels, of which the workspace is
pub record IsReadyMove {F V : Type 0} (f : Closure F) (v : Closure V) (problem : Problem F V)
    (at : List ℕ) (move : Move) (space : Workspace) : Type 0 where
  pub posed : IsPosed f v problem
  pub asked : IsAsked problem at move
  pub few : problem.data_cost.labels ≤ label_limit
  pub of_problem : IsOfProblem f v problem space

-- the workspace has the numbers of the move, which is allowed
pub record HasNumbersOf {F V : Type 0} (f : Closure F) (v : Closure V) (problem : Problem F V)
    (at : List ℕ) (move : Move) (space : Workspace) : Type 0 where
  pub sites : length at ≡ problem.pairs.sites
  pub allowed : IsAllowedFrom f v problem at move
  pub lists : AreFormLists problem.pairs space.deciding.ends at space.deciding.numbers
  pub read : WhereMeant f v problem
      (λ m. IsReadOf m move space.deciding.ends at space.deciding.numbers)

-- and its pairs are by their sites, so that the form of the move can be lent of it
pub record HasFormOf {F V : Type 0} (f : Closure F) (v : Closure V) (problem : Problem F V)
    (at : List ℕ) (move : Move) (space : Workspace) : Type 0 where
  pub numbers : HasNumbersOf f v problem at move space
  pub by_site : AreBySite problem.pairs space.deciding.ends

-- the workspace has the numbers of the move, and is of the problem, with a choice for each site and
-- the lists of those that are open
pub record IsReadMove {F V : Type 0} (f : Closure F) (v : Closure V) (problem : Problem F V)
    (at : List ℕ) (move : Move) (space : Workspace) : Type 0 where
  pub numbers : HasNumbersOf f v problem at move space
  pub of_problem : IsOfProblem f v problem space
  pub count : length space.built.variables.choices.items ≡ length at
  pub near : HasListsOfMove problem.pairs move at space

-- and its sites are decided: the workspace has the weights of those that are open
pub record IsWeighedMove {F V : Type 0} (f : Closure F) (v : Closure V) (problem : Problem F V)
    (at : List ℕ) (move : Move) (space : Workspace) : Type 0 where
  pub read : IsReadMove f v problem at move space
  pub sized : AreWeightsSized (length at) space
  pub weights : WhereMeant f v problem (λ m. KnowsWeights m move at space)

-- what is left tells the least values of the move: it has them, with the fewest ones, or a form
-- stands for what is open
abbrev pub TellsLeft : Instance → Move → (ℕ → ℕ) → List Choice → Quadratic → Left → Type 0
TellsLeft m move f choices form Form =
    StandsFor m move f (choice_at choices) form (open_rank choices)
TellsLeft m move f choices form (Values bits) = IsStageLeast m move f choices bits.items

-- a form that is left can be cut, and has at most so many nodes
abbrev pub IsLeftSized : ℕ → Quadratic → Left → Type 0
IsLeftSized nodes form Form =
    IsQuadraticBounded term_limit form × (vec_len form.weights ≤ nodes)
IsLeftSized nodes form (Values bits) = Unit

-- this is what is left of the move, by the workspace
pub record IsLeftOf {F V : Type 0} (f : Closure F) (v : Closure V) (problem : Problem F V)
    (at : List ℕ) (move : Move) (space : Workspace) (left : Left) : Type 0 where
  pub sized : IsLeftSized site_limit space.built.form left
  pub tells : WhereMeant f v problem (λ m. TellsLeft m move (labelling at)
      space.built.variables.choices.items space.built.form left)

-- each site keeps its choice
abbrev pub KeepsChoices : Workspace → Workspace → Type 0
KeepsChoices old new = new.built.variables.choices.items ≡ old.built.variables.choices.items

-- what is left of the move can be cut: it is listed where a move is to look at the listed sites
-- alone, there is a choice for each site, and a form is in its limits
pub record IsReadyToCut (at : List ℕ) (move : Move) (nodes : ℕ) (space : Workspace) (left : Left)
    : Type 0 where
  pub near : IsRestWhereListed move at space
  pub choices : length space.built.variables.choices.items ≡ length at
  pub sized : IsLeftSized nodes space.built.form left

-- the value of each site's variable, once its choice is assigned
abbrev pub site_values : List Choice → ℕ → Bool
site_values choices p = bit_of (choice_at choices p) false

-- do the values change the label of a site?
abbrev pub moves_site : Move → (ℕ → ℕ) → List Choice → ℕ → Bool
moves_site move f choices p = not (labelling_made move f (site_values choices) p == f p)

-- they have a lower energy, label costs left out
abbrev pub LowersEnergy : Instance → Move → List ℕ → List Choice → Type 0
LowersEnergy m move f choices = plain_energy m
    (labelling_made move (labelling f) (site_values choices)) < plain_energy m (labelling f)

-- each site has the label that its value makes
abbrev pub GivesMade : Move → List Choice → List ℕ → List ℕ → Type 0
GivesMade move choices f g = (p : ℕ) → p < length f
    → slice_index g p ≡ label_after move (slice_index f p) (site_values choices p)

-- each site has the label that its value makes in an expansion
abbrev pub HasTaken : ℕ → (ℕ → Bool) → List ℕ → List ℕ → Type 0
HasTaken a took f g = (p : ℕ) → p < length f
    → labelling g p ≡ label_after (Expand a) (labelling f p) (took p)

-- the answer tells whether a label changed
abbrev pub TellsChange : Bool → List ℕ → List ℕ → Type 0
TellsChange changed f g = (IsTrue changed → g ≢ f) × (IsFalse changed → g ≡ f)

-- as many sites and labels as before
abbrev pub KeepsSizes : LabelField → LabelField → Type 0
KeepsSizes old new = (new.labels ≡ old.labels) × (length new.at ≡ length old.at)

-- the sites are listed in rising order
abbrev pub HasListing : ℕ → List ℕ → Type 0
HasListing n sites = (chosen : ℕ → Bool) × IsListing chosen n sites

-- the sites are listed, and among them are all whose labels the values change
pub record HasChanges (move : Move) (f : List ℕ) (choices : List Choice)
    (sites : List ℕ) : Type 0 where
  pub chosen : ℕ → Bool
  pub listed : IsListing chosen (length f) sites
  pub each : (p : ℕ) → p < length f → moves_site move (labelling f) choices p ≡ true
      → chosen p ≡ true

-- so it is in the workspace of an assigned move
abbrev pub AreChangesListed : Move → List ℕ → Workspace → Type 0
AreChangesListed move f space =
    HasChanges move f space.built.variables.choices.items space.deciding.lists.changing.items

-- the energy of the labelling that a value for each site makes
abbrev pub made_value : Instance → Move → (ℕ → ℕ) → (ℕ → Bool) → ℤ
made_value m move f x = pos (energy m (labelling_made move f x))

-- these bits are what is left, where it has the values, or are the least assignment of the form
-- with the fewest ones
abbrev pub LeavesLeast : MoveEnergy → Left → Vec Bool → Type 0
LeavesLeast made Form bits = IsSmallestLeast (vec_len made.form.weights)
    (quadratic_value made.form) (assignment bits.items)
LeavesLeast made (Values least) bits = bits.items ≡ least.items

-- a move that is built, of which this is left, at this price
abbrev pub priced_of : Result Left BuildError → ℕ → Result Built BuildError
priced_of (Ok left) price = Ok (record { left = left; price = price })
priced_of (Err e) price = Err e

-- the values are worth the price: it is 0, or what the sites and the pairs save is more
abbrev pub IsWorthPrice : Instance → Move → (ℕ → ℕ) → ℕ → (ℕ → Bool) → Type 0
IsWorthPrice m move f price x =
    (price ≡ 0) ⊎ (plain_energy m (labelling_made move f x) + price < plain_energy m f)

-- the values tell the least ones with the fewest ones: they are these, if they are worth the price,
-- and else all are 0
pub record IsPricedAnswer (m : Instance) (move : Move) (f : ℕ → ℕ) (price : ℕ) (x : ℕ → Bool)
    : Type 0 where
  pub taken : IsWorthPrice m move f price x → IsSmallestLeast m.sites (made_value m move f) x
  pub left : ¬ IsWorthPrice m move f price x
      → IsSmallestLeast m.sites (made_value m move f) (λ p. false)

-- such bits make values of all sites that tell these
abbrev pub MakesLeast : Instance → Move → List ℕ → MoveEnergy → Built → Type 0
MakesLeast m move f made built = (bits : Vec Bool) → LeavesLeast made built.left bits
    → IsPricedAnswer m move (labelling f) built.price
    (value_of made.variables.choices.items bits.items)

-- what the building of the energy of a move answers
abbrev pub IsBuiltMove : Instance → Move → List ℕ → MoveEnergy → Result Built BuildError → Type 0
IsBuiltMove m move f made (Ok built) =
    IsAllowed m move (labelling f) × MakesLeast m move f made built
IsBuiltMove m move f made (Err e) = IsPrepareRefusal m move (labelling f) e

-- where the price is not 0, the form of the move, an expansion, can be lent
abbrev pub IsPriced : {F V : Type 0} → Closure F → Closure V → Problem F V → List ℕ → Move
    → Workspace → ℕ → Type 0
IsPriced {F} {V} f v problem at move space price =
    price ≢ 0 → (¬ IsSwap move) × HasFormOf f v problem at move space

-- without label costs: such bits make, with what was decided, the least values of all sites with
-- the fewest ones
abbrev pub MakesPlain : Instance → Move → List ℕ → MoveEnergy → Left → Type 0
MakesPlain m move f made left = (bits : Vec Bool) → LeavesLeast made left bits
    → IsSmallestLeast m.sites (move_value m move (labelling f))
    (value_of made.variables.choices.items bits.items)

-- what the building of the energy of such a move answers
abbrev pub IsBuiltPlain : Instance → Move → List ℕ → MoveEnergy → Result Left BuildError → Type 0
IsBuiltPlain m move f made (Ok left) =
    IsAllowed m move (labelling f) × MakesPlain m move f made left
IsBuiltPlain m move f made (Err e) = IsPrepareRefusal m move (labelling f) e

-- what was grouped and decided stays as it is
abbrev pub KeepsDecided : Workspace → Workspace → Type 0
KeepsDecided old new = new.deciding ≡ old.deciding
