-- What is answered of the parts of a problem is answered of what the call was given.
use Rattle.std.proofs.Common.{ℕ, ℤ, List, length, subst, Result}
use Rattle.label_field.specs.LabelFields.{LabelField}
use Rattle.label_field.specs.PairLists.{PairList}
use Rattle.cost_store.specs.Promises.{cost_in}
use Rattle.label_energies.specs.declared.change.Move.{Move}
use Rattle.moves.specs.declared.tables.Run.{Run}
use Rattle.moves.specs.Instances.{instance_of}
use Rattle.moves.specs.Runs.{AnswersRun}
use Rattle.one_move.specs.declared.error.MoveError.{MoveError}
use Rattle.cost_store.specs.LabelCosts.{costs_of}
use Rattle.label_energies.specs.declared.cycles.Moves.{Moves}
use Rattle.gco_arrays.specs.Calls.{CallArrays, ArePartsOf, instance_given, list_given}
use Rattle.gco_arrays.specs.declared.ready.Ready.{Ready}
use Rattle.dual_bound.specs.declared.bound.LowerBound.{LowerBound}
use Rattle.dual_bound.specs.declared.error.BoundError.{BoundError}
use Rattle.gco_calls.specs.Bounds.{AnswersBound}
use Rattle.gco_calls.specs.Moved.{IsMovedTo}
use Rattle.gco_calls.specs.declared.moving.Moved.{Moved}

pub run_given : (a : CallArrays) (ready : Ready) → ArePartsOf a ready → (moves : Moves) (cycles : ℕ) (r : Result Run MoveError)
    → AnswersRun (instance_of ready.pairs ready.start.labels (cost_in ready.start.labels a.data_costs) a.smooth_costs (costs_of ready.label_costs)) moves cycles ready.start.at r
    → AnswersRun (instance_given a) moves cycles a.start r
run_given a ready is moves cycles r h =
    let pairs = list_given (length a.start) a.pairs in
    let P : PairList → Type 0 = λ p. AnswersRun (instance_of p ready.start.labels (cost_in ready.start.labels a.data_costs) a.smooth_costs (costs_of ready.label_costs))
    moves cycles ready.start.at r in
    let S : LabelField → Type 0 = λ s. AnswersRun (instance_of pairs s.labels (cost_in s.labels a.data_costs) a.smooth_costs (costs_of ready.label_costs)) moves cycles s.at r in
    let C : List ℤ → Type 0 = λ costs. AnswersRun (instance_of pairs a.label_count (cost_in a.label_count a.data_costs) a.smooth_costs costs) moves cycles a.start r in
    subst C is.costs_are (subst S is.start_is (subst P is.pairs_are h))

pub move_given : (a : CallArrays) (ready : Ready) → ArePartsOf a ready → (move : Move) (r : Result Moved MoveError)
    → IsMovedTo (instance_of ready.pairs ready.start.labels (cost_in ready.start.labels a.data_costs) a.smooth_costs (costs_of ready.label_costs)) move ready.start.at r
    → IsMovedTo (instance_given a) move a.start r
move_given a ready is move r h =
    let pairs = list_given (length a.start) a.pairs in
    let P : PairList → Type 0 = λ p. IsMovedTo (instance_of p ready.start.labels (cost_in ready.start.labels a.data_costs) a.smooth_costs (costs_of ready.label_costs))
    move ready.start.at r in
    let S : LabelField → Type 0 = λ s. IsMovedTo (instance_of pairs s.labels (cost_in s.labels a.data_costs) a.smooth_costs (costs_of ready.label_costs)) move s.at r in
    let C : List ℤ → Type 0 = λ costs. IsMovedTo (instance_of pairs a.label_count (cost_in a.label_count a.data_costs) a.smooth_costs costs) move a.start r in
    subst C is.costs_are (subst S is.start_is (subst P is.pairs_are h))

pub bound_given : (a : CallArrays) (ready : Ready) → ArePartsOf a ready → (allowed : ℕ) (r : Result LowerBound BoundError)
    → AnswersBound (instance_of ready.pairs ready.start.labels (cost_in ready.start.labels a.data_costs) a.smooth_costs (costs_of ready.label_costs)) allowed r
    → AnswersBound (instance_given a) allowed r
bound_given a ready is allowed r h =
    let pairs = list_given (length a.start) a.pairs in
    let P : PairList → Type 0 = λ p. AnswersBound (instance_of p ready.start.labels (cost_in ready.start.labels a.data_costs) a.smooth_costs (costs_of ready.label_costs)) allowed r in
    let S : LabelField → Type 0 = λ s. AnswersBound (instance_of pairs s.labels (cost_in s.labels a.data_costs) a.smooth_costs (costs_of ready.label_costs)) allowed r in
    let C : List ℤ → Type 0 = λ costs. AnswersBound (instance_of pairs a.label_count (cost_in a.label_count a.data_costs) a.smooth_costs costs) allowed r in
    subst C is.costs_are (subst S is.start_is (subst P is.pairs_are h))
