-- The laws of closing in, over the definitions alone.
use Rattle.std.specs.Prelude.{◌≡◌, ◌⊎◌, ℕ, ◌<◌, Bool, true, false, List, ℤ, pos, ◌+ℤ◌, vec_len}
use Rattle.std.specs.List.{All}
use Rattle.sums.specs.Sums.{sum_below}
use Rattle.move_energy.specs.declared.by_site.Neighbours.{Neighbours}
use Rattle.label_energies.specs.declared.change.Move.{Move}
use Rattle.label_energies.specs.Energies.{Instance, IsInstance}
use Rattle.label_energies.specs.Moves.{IsAllowed}
use Rattle.pseudo_bool.specs.Energies.{entry}
use Rattle.compile_cut.specs.declared.quadratic.Quadratic.{Quadratic}
use Rattle.compile_cut.specs.Quadratics.{quadratic_value}
use Rattle.move_energy.specs.declared.choice.Choice.{Choice}
use Rattle.move_energy.specs.declared.choice.Choice.TheVariants.{Open, Zero, One}
use Rattle.move_energy.specs.Choices.{choice_at, StandsFor}
use Rattle.move_energy.specs.BySite.{AreNeighboursOf, degree, pair_of}
use Rattle.move_energy.specs.Weights.{weight_at, AreWeights}
use Rattle.move_energy.specs.Assignments.{rise, IsSubmodular, IsOver}
use Rattle.site_bounds.specs.Decisions.{Decision, AreForced}
use Rattle.site_bounds.specs.Decisions.{IsSmallestLeast}
use Rattle.move_energy.specs.MoveValues.{move_value}
use Rattle.site_bounds.specs.Decided.{AreDecided}
use Rattle.site_bounds.specs.Working.{TellsValue, ArePartlyDecided}
use Rattle.site_bounds.specs.declared.bounds.Bounds.{Bounds}
use Rattle.persistency.specs.Fixing.{with_choices, fixed_value, IsLeast, HasZeros, HasOnes}
use Rattle.persistency.specs.Fixing.{OnesLieWithin, AreLeastZeros}
use Rattle.persistency.specs.Agreeing.{Agree, IsAgreed, ChooseMore, AreOfDecisions, TellsOne}
use Rattle.persistency.specs.Agreeing.{with_one, choices_or}
use Rattle.persistency.specs.Strips.{Strip, others_at, lower_value, upper_value, IsStripBounded}
use Rattle.persistency.specs.Strips.{told_by, with_strips, with_batches, AreBatches}
use Rattle.persistency.specs.Borders.{is_inside, not_ones, pair_border, border_at, border_sum}
use Rattle.persistency.specs.Forms.{bits_by_site, IsOneToOne, IsReweighed}

-- ---- bounds

-- of a function fixed in two ways: where what the first fixes to 1 is 1 in a least assignment of
-- the second, and what the second fixes to 0 is 0 in the least one with the fewest ones of the
-- first, that one lies within the other (Topkis 1978)
abbrev pub LeastRises : Type 0
LeastRises =
    (n : ℕ) (E : (ℕ → Bool) → ℤ) (low high : ℕ → Choice) (x y : ℕ → Bool)
    → IsSubmodular E → IsOver n E → IsSmallestLeast n (fixed_value E low) x
    → IsLeast (fixed_value E high) y
    → HasOnes n low (with_choices high y) → HasZeros n high (with_choices low x)
    → OnesLieWithin n (with_choices low x) (with_choices high y)

-- where what is fixed to 0 is 0 in the least assignment with the fewest ones, its ones lie within
-- those of every least assignment of what is left
abbrev pub OnesBoundLeast : Type 0
OnesBoundLeast =
    (n : ℕ) (E : (ℕ → Bool) → ℤ) (choice : ℕ → Choice) (s z : ℕ → Bool)
    → IsSubmodular E → IsOver n E → IsSmallestLeast n E s → HasZeros n choice s
    → IsLeast (fixed_value E choice) z → OnesLieWithin n s (with_choices choice z)

-- where what is fixed to 1 is 1 in a least assignment, its zeros lie within those of the least
-- assignment with the fewest ones of what is left
abbrev pub ZerosBoundLeast : Type 0
ZerosBoundLeast =
    (n : ℕ) (E : (ℕ → Bool) → ℤ) (choice : ℕ → Choice) (s z : ℕ → Bool)
    → IsSubmodular E → IsOver n E → IsLeast E s → HasOnes n choice s
    → IsSmallestLeast n (fixed_value E choice) z → OnesLieWithin n (with_choices choice z) s

-- where what is fixed is fixed as in the least assignment with the fewest ones, that of what is
-- left, with what is fixed, is the whole's
abbrev pub RestAndFixedIsLeast : Type 0
RestAndFixedIsLeast =
    (n : ℕ) (E : (ℕ → Bool) → ℤ) (choice : ℕ → Choice) (s z : ℕ → Bool)
    → IsOver n E → IsSmallestLeast n E s → HasZeros n choice s → HasOnes n choice s
    → IsSmallestLeast n (fixed_value E choice) z → IsSmallestLeast n E (with_choices choice z)

-- ---- choices that agree

-- choices agree, if each is open or is what agreeing choices have there
abbrev pub EachAgreedAgree : Type 0
EachAgreedAgree =
    (n : ℕ) (E : (ℕ → Bool) → ℤ) (choice : ℕ → Choice)
    → ((p : ℕ) → p < n → (choice p ≡ Open) ⊎ IsAgreed n E p (choice p)) → Agree n E choice

-- what forced decisions choose agrees
abbrev pub ForcedAgree : Type 0
ForcedAgree =
    (n : ℕ) (E : (ℕ → Bool) → ℤ) (ds : List Decision) (choice : ℕ → Choice)
    → AreForced E ds → AreOfDecisions n ds choice → Agree n E choice

-- with choices that agree, the least assignment with the fewest ones of what is left is that of the
-- whole
abbrev pub RestAgrees : Type 0
RestAgrees =
    (n : ℕ) (E : (ℕ → Bool) → ℤ) (choice : ℕ → Choice) (z : ℕ → Bool)
    → IsSubmodular E → IsOver n E → Agree n E choice
    → IsSmallestLeast n (fixed_value E choice) z → IsSmallestLeast n E (with_choices choice z)

-- what agrees with what is left, put to the choices that it was left by, agrees with the whole
abbrev pub AgreeByRest : Type 0
AgreeByRest =
    (n : ℕ) (E : (ℕ → Bool) → ℤ) (choice more : ℕ → Choice) → IsOver n E
    → Agree n E choice → Agree n (fixed_value E choice) more → Agree n E (choices_or choice more)

-- choices that are the same below n leave the same function
abbrev pub SameChoicesSame : Type 0
SameChoicesSame =
    (n : ℕ) (E : (ℕ → Bool) → ℤ) (choice other : ℕ → Choice) → IsOver n E
    → ((p : ℕ) → p < n → choice p ≡ other p) → (x : ℕ → Bool)
    → fixed_value E choice x ≡ fixed_value E other x

-- ---- strips

-- what a strip has at 1 below it has at 1 above
abbrev pub LowerWithinUpper : Type 0
LowerWithinUpper =
    (n : ℕ) (E : (ℕ → Bool) → ℤ) (choice : ℕ → Choice) (strip : Strip)
    → IsSubmodular E → IsOver n E → IsStripBounded n E choice strip
    → (p : ℕ) → p < n → strip.set p ≡ true → choice p ≡ Open → strip.lower p ≡ true
    → strip.upper p ≡ true

-- where the choices agree, they do with what a strip tells; and each of its sides can be left out
abbrev pub StripAgrees : Type 0
StripAgrees =
    (n : ℕ) (E : (ℕ → Bool) → ℤ) (choice : ℕ → Choice) (strip : Strip)
    → IsSubmodular E → IsOver n E → Agree n E choice → IsStripBounded n E choice strip
    → Agree n E (choices_or choice (told_by strip))

abbrev pub LowerAgrees : Type 0
LowerAgrees =
    (n : ℕ) (E : (ℕ → Bool) → ℤ) (choice : ℕ → Choice) (set z : ℕ → Bool)
    → IsSubmodular E → IsOver n E → Agree n E choice
    → IsSmallestLeast n (lower_value E choice set) z
    → Agree n E (choices_or choice (told_by (record { set = set; lower = z; upper = λ p. true })))

abbrev pub UpperAgrees : Type 0
UpperAgrees =
    (n : ℕ) (E : (ℕ → Bool) → ℤ) (choice : ℕ → Choice) (set w : ℕ → Bool)
    → IsSubmodular E → IsOver n E → Agree n E choice → IsLeast (upper_value E choice set) w
    → Agree n E (choices_or choice (told_by (record { set = set; lower = λ p. false; upper = w })))

-- where what is chosen to be 0 is 0 in the least assignment with the fewest ones, so is what a
-- strip has at 0 above, whatever else is chosen to be 1
abbrev pub UpperZerosAreLeast : Type 0
UpperZerosAreLeast =
    (n : ℕ) (E : (ℕ → Bool) → ℤ) (choice : ℕ → Choice) (set w : ℕ → Bool)
    → IsSubmodular E → IsOver n E → AreLeastZeros n E choice → IsLeast (upper_value E choice set) w
    → AreLeastZeros n E
    (choices_or choice (told_by (record { set = set; lower = λ p. false; upper = w })))

-- and what is 0 in either of two such choices
abbrev pub ZerosOfEitherAreLeast : Type 0
ZerosOfEitherAreLeast =
    (n : ℕ) (E : (ℕ → Bool) → ℤ) (choice more new : ℕ → Choice)
    → AreLeastZeros n E choice → AreLeastZeros n E more
    → ((p : ℕ) → p < n → new p ≡ Zero → (choice p ≡ Zero) ⊎ (more p ≡ Zero))
    → AreLeastZeros n E new

-- the test of one variable is a strip of one
abbrev pub TestedAgree : Type 0
TestedAgree =
    (n : ℕ) (E : (ℕ → Bool) → ℤ) (choice : ℕ → Choice) (p : ℕ) (value : Bool)
    → IsSubmodular E → IsOver n E → Agree n E choice → choice p ≡ Open → TellsOne E choice p value
    → Agree n E (with_one choice p value)

-- a strip that was bounded with choices that agree may add what it tells later, to choices that
-- agree and go on from them
abbrev pub StripAddsLater : Type 0
StripAddsLater =
    (n : ℕ) (E : (ℕ → Bool) → ℤ) (start choice : ℕ → Choice) (strip : Strip)
    → IsSubmodular E → IsOver n E → Agree n E start → Agree n E choice → ChooseMore n start choice
    → IsStripBounded n E start strip
    → Agree n E (choices_or choice (told_by strip))
    × ChooseMore n start (choices_or choice (told_by strip))

-- strips that were bounded with the same choices, which agree, leave choices that agree
abbrev pub StripsSideBySide : Type 0
StripsSideBySide =
    (n : ℕ) (E : (ℕ → Bool) → ℤ) (choice : ℕ → Choice) (strips : List Strip)
    → IsSubmodular E → IsOver n E → Agree n E choice → All (IsStripBounded n E choice) strips
    → Agree n E (with_strips choice strips)

-- after any batches of strips, the least assignment with the fewest ones of what is left is that of
-- the whole
abbrev pub BatchesAndRestAreLeast : Type 0
BatchesAndRestAreLeast =
    (n : ℕ) (E : (ℕ → Bool) → ℤ) (choice : ℕ → Choice) (batches : List (List Strip)) (z : ℕ → Bool)
    → IsSubmodular E → IsOver n E → Agree n E choice → AreBatches n E choice batches
    → IsSmallestLeast n (fixed_value E (with_batches choice batches)) z
    → IsSmallestLeast n E (with_choices (with_batches choice batches) z)

-- ---- of the labellings that a move makes

-- what was decided site by site agrees
abbrev pub DecidedAgree : Type 0
DecidedAgree =
    (m : Instance) (move : Move) (f : ℕ → ℕ) (choice : ℕ → Choice)
    → IsInstance m → IsAllowed m move f → AreDecided m move f choice
    → Agree m.sites (move_value m move f) choice

-- so does what is decided so far, and the bounds of a site tell of it what the test tells
abbrev pub PartlyDecidedAgree : Type 0
PartlyDecidedAgree =
    (m : Instance) (move : Move) (f : ℕ → ℕ) (k : ℕ) (b : Bounds)
    → IsInstance m → IsAllowed m move f → ArePartlyDecided m move f k b
    → Agree m.sites (move_value m move f) (choice_at b.choices.items)

abbrev pub BoundsTellOne : Type 0
BoundsTellOne =
    (m : Instance) (move : Move) (f : ℕ → ℕ) (k : ℕ) (b : Bounds) (p : ℕ) (value : Bool)
    → IsInstance m → ArePartlyDecided m move f k b → p < k → choice_at b.choices.items p ≡ Open
    → TellsValue b p value → TellsOne (move_value m move f) (choice_at b.choices.items) p value

-- after any batches of strips, the least assignment with the fewest ones of what is left is that of
-- the move
abbrev pub BatchesEndMove : Type 0
BatchesEndMove =
    (m : Instance) (move : Move) (f : ℕ → ℕ) (choice : ℕ → Choice)
    (batches : List (List Strip)) (z : ℕ → Bool)
    → IsInstance m → IsAllowed m move f → Agree m.sites (move_value m move f) choice
    → AreBatches m.sites (move_value m move f) choice batches
    → IsSmallestLeast m.sites (fixed_value (move_value m move f) (with_batches choice batches)) z
    → IsSmallestLeast m.sites (move_value m move f) (with_choices (with_batches choice batches) z)

-- the rise of an open site of a strip is lower with the others at 1 than with them at 0, by the
-- surplus of its pairs that lead beyond the strip
abbrev pub UpperRiseIsLower : Type 0
UpperRiseIsLower =
    (m : Instance) (move : Move) (f : ℕ → ℕ) (choice : ℕ → Choice) (set x : ℕ → Bool) (p : ℕ)
    → IsInstance m → IsAllowed m move f → p < m.sites → is_inside choice set p ≡ true
    → rise (upper_value (move_value m move f) choice set) p x
    +ℤ pos (border_at m move f choice set p)
    ≡ rise (lower_value (move_value m move f) choice set) p x

-- a site's border is a sum over its own pairs
abbrev pub BorderBySite : Type 0
BorderBySite =
    (m : Instance) (move : Move) (f : ℕ → ℕ) (choice : ℕ → Choice) (set : ℕ → Bool) (p : ℕ)
    (ends : Neighbours)
    → IsInstance m → AreNeighboursOf m ends → p < m.sites
    → border_at m move f choice set p
    ≡ sum_below (degree ends p) (λ k. pair_border m move f choice set p (pair_of ends p k))

-- but for a fixed number, the upper function is the lower one, less the border of the ones
abbrev pub UpperIsLowerWithBorder : Type 0
UpperIsLowerWithBorder =
    (m : Instance) (move : Move) (f : ℕ → ℕ) (choice : ℕ → Choice) (set : ℕ → Bool)
    → IsInstance m → IsAllowed m move f
    → (rest : ℤ) × ((x : ℕ → Bool) → upper_value (move_value m move f) choice set x
    +ℤ pos (border_sum m move f choice set x)
    ≡ lower_value (move_value m move f) choice set x +ℤ rest)

-- the weights of the open sites are those of a strip with the others at 0; less the border, with
-- the others at 1
abbrev pub WeightsOfStrip : Type 0
WeightsOfStrip =
    (m : Instance) (move : Move) (f : ℕ → ℕ) (choice : ℕ → Choice) (set : ℕ → Bool)
    (weights : List ℤ)
    → AreWeights m move f choice weights → AreWeights m move f (others_at Zero set choice) weights

abbrev pub WeightsLessBorder : Type 0
WeightsLessBorder =
    (m : Instance) (move : Move) (f : ℕ → ℕ) (choice : ℕ → Choice) (set : ℕ → Bool)
    (weights less : List ℤ)
    → IsInstance m → IsAllowed m move f → AreWeights m move f choice weights
    → ((p : ℕ) → p < m.sites → is_inside choice set p ≡ true
    → weight_at weights p ≡ weight_at less p +ℤ pos (border_at m move f choice set p))
    → AreWeights m move f (others_at One set choice) less

-- where more is chosen, the weights of the sites that are still open are less by the surplus of
-- their pairs to sites that are now at 1
abbrev pub WeightsGoOn : Type 0
WeightsGoOn =
    (m : Instance) (move : Move) (f : ℕ → ℕ) (choice more : ℕ → Choice) (weights less : List ℤ)
    → IsInstance m → IsAllowed m move f → AreWeights m move f choice weights
    → ((p : ℕ) → p < m.sites → choice p ≡ Open → more p ≡ Open
    → weight_at weights p ≡ weight_at less p +ℤ pos (border_at m move f choice (not_ones more) p))
    → AreWeights m move f (choices_or choice more) less

-- ---- of the form that stands for a partly decided move

-- the least bits of the form, by site, are the least values of what is left
abbrev pub FormTellsLeast : Type 0
FormTellsLeast =
    (m : Instance) (move : Move) (f : ℕ → ℕ) (choice : ℕ → Choice) (q : Quadratic)
    (variable : ℕ → ℕ) (y : ℕ → Bool)
    → IsInstance m → StandsFor m move f choice q variable → IsLeast (quadratic_value q) y
    → IsLeast (fixed_value (move_value m move f) choice) (bits_by_site choice variable y)

abbrev pub FormTellsSmallestLeast : Type 0
FormTellsSmallestLeast =
    (m : Instance) (move : Move) (f : ℕ → ℕ) (choice : ℕ → Choice) (q : Quadratic)
    (variable : ℕ → ℕ) (y : ℕ → Bool)
    → IsInstance m → StandsFor m move f choice q variable
    → IsSmallestLeast (vec_len q.weights) (quadratic_value q) y
    → IsSmallestLeast m.sites (fixed_value (move_value m move f) choice)
    (bits_by_site choice variable y)

-- a form that is lower by the border of the ones stands for the strip with the others at 1, where
-- the form stands for the strip with the others at 0
abbrev pub FormLessBorder : Type 0
FormLessBorder =
    (m : Instance) (move : Move) (f : ℕ → ℕ) (choice : ℕ → Choice) (set : ℕ → Bool)
    (q less : Quadratic)
    (variable : ℕ → ℕ)
    → IsInstance m → IsAllowed m move f → StandsFor m move f (others_at Zero set choice) q variable
    → vec_len less.weights ≡ vec_len q.weights
    → ((x : ℕ → Bool) → quadratic_value less x
    +ℤ pos (border_sum m move f choice set (λ p. x (variable p)))
    ≡ quadratic_value q x)
    → StandsFor m move f (others_at One set choice) less variable

-- and that is the same form, each weight less the border of its site: the same network, but for
-- more room to the sink
abbrev pub ReweighedLessBorder : Type 0
ReweighedLessBorder =
    (m : Instance) (move : Move) (f : ℕ → ℕ) (choice : ℕ → Choice) (set : ℕ → Bool)
    (q less : Quadratic)
    (variable site : ℕ → ℕ)
    → IsInstance m → IsAllowed m move f → StandsFor m move f (others_at Zero set choice) q variable
    → IsOneToOne m.sites (is_inside choice set) (vec_len q.weights) variable site
    → IsReweighed q less
    → ((k : ℕ) → k < vec_len q.weights
    → entry less.weights.items k +ℤ pos (border_at m move f choice set (site k))
    ≡ entry q.weights.items k)
    → StandsFor m move f (others_at One set choice) less variable
