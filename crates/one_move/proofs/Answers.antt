use Rattle.std.specs.Prelude.{OnOk}
use Rattle.std.proofs.Common.{◌≡◌, Bool, List, ℕ, pos, unsigned_abs, ap, Option, Some, None, Result, Ok, Err, IfErr, sym, subst, length, ◌∙◌, ◌<◌, true, false, cond, inl, inr, arith, ℤ}
use Rattle.label_energies.specs.declared.change.Move.{Move}
use Rattle.label_energies.specs.Energies.{Instance, IsInstance, AreLabelsFree, labelling}
use Rattle.label_energies.specs.Moves.{IsAllowed, label_after, IsMoveOf, IsFirstIrregular}
use Rattle.label_energies.specs.declared.change.Move.TheVariants.{Expand, Swap}
use Rattle.label_energies.proofs.Reaching.{cases_one, swap_one, swap_other}
use Rattle.cut_ways.specs.declared.solve_error.SolveError.{SolveError}
use Rattle.cut_ways.specs.declared.solve_error.SolveError.TheVariants.{OutOfMemory as NoMemory, Workers as NoWorkers, BadOptions as NoOptions}
use Rattle.one_move.specs.Refusals.{cut_told}
use Rattle.one_move.specs.declared.error.MoveError.{MoveError}
use Rattle.one_move.specs.declared.error.MoveError.TheVariants.{NoSuchLabel, LabelCostInSwap, PairNotRegular, Workers, BadOptions, NoBound, OutOfMemory}
use Rattle.pseudo_bool.specs.Energies.{assignment}
use Rattle.move_energy.specs.declared.building.MoveEnergy.{MoveEnergy}
use Rattle.move_energy.specs.declared.error.BuildError.{BuildError}
use Rattle.move_energy.specs.Choices.{open_rank, value_of, AreAllOpen}
use Rattle.move_energy.specs.Problems.{IsPrepared}
use Rattle.one_move.specs.declared.left.Left.{Left}
use Rattle.one_move.specs.declared.left.Left.TheVariants.{Form}
use Rattle.one_move.specs.Building.{IsBuiltPlain, IsBuiltMove, priced_of}
use Rattle.one_move.proofs.Prices.{answer_paid}
use Rattle.cost_store.specs.LabelCosts.{costs_of, AreCosts, AreLabelCosts, HasCosts, AreCostly, AreFree}
use Rattle.one_move.specs.LabelCosts.{IsFreeFor, IsTaken}
use Rattle.cost_store.specs.LabelCosts.{cost_at}
use Rattle.label_cost_terms.specs.LabelCosts.{AreCostsOf}
use Rattle.std.specs.Global.{Vec}
use Rattle.std.proofs.lemmas.Bool.{cases_lt}
use Rattle.std.proofs.lemmas.List.{get_or_past}
use Rattle.one_move.proofs.Least.{open_least, free_least}
use Rattle.one_move.specs.Moved.{IsCutRefusal, IsMoveRefusal, IsCauseOfRefusal, TellsPair}

-- a refused cut is a refusal of the move, once its terms were regular
pub cut_refusal : (refuses : SolveError → Type 0) (m : Instance) (move : Move) (f : List ℕ) (e : MoveError) → IsMoveOf m.labels move → IsAllowed m move (labelling f)
    → IsTaken m move → IsCutRefusal refuses e → IsCauseOfRefusal m move f e
cut_refusal refuses m move f NoSuchLabel below allowed taken refused = absurd refused
cut_refusal refuses m move f LabelCostInSwap below allowed taken refused = absurd refused
cut_refusal refuses m move f (PairNotRegular place alpha beta) below allowed taken refused = absurd refused
cut_refusal refuses m move f Workers below allowed taken refused = (below, allowed, taken)
cut_refusal refuses m move f BadOptions below allowed taken refused = (below, allowed, taken)
cut_refusal refuses m move f NoBound below allowed taken refused = absurd refused
cut_refusal refuses m move f OutOfMemory below allowed taken refused = tt

-- what is told of a refused cut is one of its refusals
told_refused : (refuses : SolveError → Type 0) (failed : SolveError) → refuses failed → IsCutRefusal refuses (cut_told failed)
told_refused refuses NoMemory may = tt
told_refused refuses NoWorkers may = may
told_refused refuses NoOptions may = may

pub cut_refused : (refuses : SolveError → Type 0) (failed : SolveError) (e : MoveError) → e ≡ cut_told failed → refuses failed → IsCutRefusal refuses e
cut_refused refuses failed e is may = (let P : MoveError → Type 0 = λ told. IsCutRefusal refuses told in subst P (sym is) (told_refused refuses failed may))

-- a refused cut is one of those that a move may answer
pub cut_may_come : (refuses : SolveError → Type 0) (labels : ℕ) (move : Move) (e : MoveError) → IsCutRefusal refuses e → IsMoveRefusal refuses labels move e
cut_may_come refuses labels move NoSuchLabel refused = absurd refused
cut_may_come refuses labels move LabelCostInSwap refused = absurd refused
cut_may_come refuses labels move NoBound refused = absurd refused
cut_may_come refuses labels move (PairNotRegular place alpha beta) refused = absurd refused
cut_may_come refuses labels move Workers refused = refused
cut_may_come refuses labels move BadOptions refused = refused
cut_may_come refuses labels move OutOfMemory refused = tt

-- the refusal of a pair
pub pair_may_come : (refuses : SolveError → Type 0) (labels : ℕ) (move : Move) (place : ℕ) (e : MoveError) → TellsPair move place e → IsMoveRefusal refuses labels move e
pair_may_come refuses labels move place NoSuchLabel told = absurd told
pair_may_come refuses labels move place LabelCostInSwap told = absurd told
pair_may_come refuses labels move place NoBound told = absurd told
pair_may_come refuses labels move place (PairNotRegular at alpha beta) told = told.1
pair_may_come refuses labels move place Workers told = absurd told
pair_may_come refuses labels move place BadOptions told = absurd told
pair_may_come refuses labels move place OutOfMemory told = absurd told

-- what the building of a move says of which nothing was decided
pub built_whole : (m : Instance) (move : Move) (f : List ℕ) (made : MoveEnergy) → IsInstance m → length f ≡ m.sites
    → AreAllOpen move f made.variables.choices.items → IsPrepared m move f made (Ok tt) → IsBuiltPlain m move f made (Ok Form)
built_whole m move f made pairs size whole built = (
  built.0,
  (λ bits least. open_least m move f made.variables.choices.items made.form (open_rank made.variables.choices.items) (assignment bits.items)
      pairs size whole built.1 least),
)

chosen_lt : (k a b : ℕ) (bit : Bool) → a < k → b < k → cond bit b a < k
chosen_lt k a b true la lb = lb
chosen_lt k a b false la lb = la

-- a move between labels below k keeps labels below k
pub label_in-lt : (k : ℕ) (move : Move) (old : ℕ) (bit : Bool) → IsMoveOf k move → old < k → label_after move old bit < k
label_in-lt k (Expand a) old true below h = below
label_in-lt k (Expand a) old false below h = h
label_in-lt k (Swap a b) old bit below h = elim (cases_one a b old) [
  | inl one ↦ rw (swap_one a b old bit one) (chosen_lt k a b bit below.0 below.1)
  | inr other ↦ rw (swap_other a b old bit other.0 other.1) h
]

-- a pair whose term is not regular
pub pair_refusal : (m : Instance) (move : Move) (f : List ℕ) (place : ℕ) (e : MoveError) → IsMoveOf m.labels move → IsFirstIrregular m move (labelling f) place
    → IsTaken m move → TellsPair move place e → IsCauseOfRefusal m move f e
pair_refusal m move f place NoSuchLabel below first taken told = absurd told
pair_refusal m move f place LabelCostInSwap below first taken told = absurd told
pair_refusal m move f place (PairNotRegular at alpha beta) below first taken told =
    (below, (let P : ℕ → Type 0 = λ p. IsFirstIrregular m move (labelling f) p in subst P (sym told.0) first), told.1, taken)
pair_refusal m move f place Workers below first taken told = absurd told
pair_refusal m move f place BadOptions below first taken told = absurd told
pair_refusal m move f place NoBound below first taken told = absurd told
pair_refusal m move f place OutOfMemory below first taken told = tt

-- a move that is built without label costs, where no label costs anything by itself
pub built_free : (m : Instance) (move : Move) (f : List ℕ) (made : MoveEnergy) (r : Result Left BuildError) → AreLabelsFree m → IsBuiltPlain m move f made r
    → IsBuiltMove m move f made (priced_of r 0)
built_free m move f made (Ok left) free built =
    let values = λ (bits : Vec Bool). value_of made.variables.choices.items bits.items in
    (built.0, (λ bits least. answer_paid m move (labelling f) (values bits) (free_least m move (labelling f) (values bits) free (built.1 bits least))))
built_free m move f made (Err e) free built = built

-- costs that were found to be above 0, or not
pub costs_free : (m : Instance) (costs : Option (Vec ℤ)) → HasCosts m costs → AreFree (costs_of costs) → AreLabelsFree m
costs_free m costs has free label l = has.each label l ∙ free label

cost_within : (costs : List ℤ) (label : ℕ) → 0 < cost_at costs label → label < length costs
cost_within costs label some = elim (cases_lt label (length costs)) [
  | inl within ↦ within
  | inr past ↦ (let none : cost_at costs label ≡ 0 = ap unsigned_abs (get_or_past costs label (pos 0) past) in absurd (omega (arith, some, none)))
]

pub costs_costly : (m : Instance) (costs : Option (Vec ℤ)) → AreLabelCosts m.labels costs → HasCosts m costs → AreCostly (costs_of costs) → ¬ AreLabelsFree m
costs_costly m None are has some free = absurd (omega (arith, some.1))
costs_costly m (Some costs) are has some free =
    let within : some.0 < m.labels = omega (arith, are.0, cost_within costs.items some.0 some.1) in
    let is = has.each some.0 within in
    omega (arith, some.1, is, free some.0 within)

pub taken_free : (m : Instance) (move : Move) (costs : Option (Vec ℤ)) → HasCosts m costs → IsFreeFor move (costs_of costs) → IsTaken m move
taken_free m (Expand a) costs has free = tt
taken_free m (Swap a b) costs has free = costs_free m costs has free

-- as a list for each label
pub costs_listed : (m : Instance) (costs : Option (Vec ℤ)) → AreCosts m.labels (costs_of costs) → HasCosts m costs → AreCostsOf m (costs_of costs)
costs_listed m costs are has = record { count = are.0; each = has.each }

pub costs_set : (labels : ℕ) (costs : Option (Vec ℤ)) → AreLabelCosts labels costs → AreCostly (costs_of costs) → AreCosts labels (costs_of costs)
costs_set labels None are some = absurd (omega (arith, some.1))
costs_set labels (Some costs) are some = are

-- ---- on the thread of the caller

workers_apart : NoWorkers ≡ NoMemory → ⊥
workers_apart = λ same. cc

options_apart : NoOptions ≡ NoMemory → ⊥
options_apart = λ same. cc

-- what one thread refuses, each way to cut may
pub alone_refused : (refuses : SolveError → Type 0) (e : MoveError) → IsCutRefusal (λ s. s ≡ NoMemory) e → IsCutRefusal refuses e
alone_refused refuses NoSuchLabel told = told
alone_refused refuses LabelCostInSwap told = told
alone_refused refuses NoBound told = told
alone_refused refuses (PairNotRegular place alpha beta) told = told
alone_refused refuses Workers told = absurd (workers_apart told)
alone_refused refuses BadOptions told = absurd (options_apart told)
alone_refused refuses OutOfMemory told = tt

pub refused_alone : {T : Type 0} (refuses : SolveError → Type 0) (r : Result T MoveError) → IfErr r (IsCutRefusal (λ s. s ≡ NoMemory)) → IfErr r (IsCutRefusal refuses)
refused_alone refuses (Ok done) told = told
refused_alone refuses (Err e) told = alone_refused refuses e told

-- what holds of a good answer in each instance that is meant
pub on_ok_all : {T E : Type 0} (r : Result T E) (M P : Instance → Type 0) → ((m : Instance) → M m → OnOk r (P m)) → OnOk r ((m : Instance) → M m → P m)
on_ok_all (Ok v) M P h = h
on_ok_all (Err e) M P h = tt
