-- What is refused over a metric, and how near a settled run is.
use Rattle.std.proofs.Common.{◌≡◌, ◌<◌, ℕ, List, length, All, Bool, IsTrue, IfErr, IfOk, Result, Ok, Err, refl, sym, subst, inl, inr, arith}
use Rattle.label_field.specs.LabelFields.{LabelField}
use Rattle.label_energies.specs.declared.change.Move.{Move}
use Rattle.label_energies.specs.declared.cycles.Moves.{Moves}
use Rattle.label_energies.specs.declared.cycles.Moves.TheVariants.{Swap as Swaps}
use Rattle.label_energies.specs.Energies.{Instance, IsInstance, IsLabelled, HasMetric, AreLabelsFree, labelling}
use Rattle.label_energies.specs.Moves.{IsMoveOf, IsSwap}
use Rattle.label_energies.specs.Chains.{IsChain, expansions}
use Rattle.label_energies.proofs.Chains.{settled_is_local}
use Rattle.label_energies.proofs.Ratio.{expansion_bound}
use Rattle.cut_ways.specs.declared.solve_error.SolveError.{SolveError}
use Rattle.cut_ways.specs.declared.solve_error.SolveError.TheVariants.{Workers as NoWorkers, BadOptions as NoOptions}
use Rattle.one_move.specs.declared.error.MoveError.{MoveError}
use Rattle.one_move.specs.declared.error.MoveError.TheVariants.{NoSuchLabel, LabelCostInSwap, PairNotRegular, Workers, BadOptions, NoBound, OutOfMemory}
use Rattle.run_steps.specs.declared.course.Ended.{Ended}
use Rattle.moves.specs.Bounds.{IsWithinBound}
use Rattle.run_steps.specs.Problems.{IsRunOfCycles, IsRunRefusal}
use Rattle.one_move.specs.Moved.{IsMoved, IsCauseOfRefusal, IsMoveRefusal}
use Rattle.moves.specs.Refusals.{IsMemoryOrCut, IsRefusalOver}
use Rattle.moves.specs.Runs.{MayMake}
use Rattle.moves.proofs.Refused.{metric_refusal}
use Rattle.moves.proofs.Entries.{metric_run}

-- a move between the labels of a metric is refused for memory or a cut alone
move_refused : (refuses : SolveError → Type 0) (labels : ℕ) (m : Instance) (move : Move) (f : LabelField) (e : MoveError)
    → All (λ label. label < f.labels) f.at → IsInstance m → length f.at ≡ m.sites → f.labels ≡ m.labels → HasMetric m
    → IsMoveOf m.labels move → (IsSwap move → AreLabelsFree m) → IsCauseOfRefusal m move f.at e → IsMoveRefusal refuses labels move e → IsMemoryOrCut refuses e
move_refused refuses labels m move f NoSuchLabel below pairs sites count metric inside free is may = absurd (is inside)
move_refused refuses labels m move f LabelCostInSwap below pairs sites count metric inside free is may = absurd (is.2 (free is.1))
move_refused refuses labels m move f (PairNotRegular place alpha beta) below pairs sites count metric inside free is may =
    absurd (metric_refusal m move f (PairNotRegular place alpha beta) below pairs sites count metric is tt)
move_refused refuses labels m move f Workers below pairs sites count metric inside free is may = inr (NoWorkers, may, refl)
move_refused refuses labels m move f BadOptions below pairs sites count metric inside free is may = inr (NoOptions, may, refl)
move_refused refuses labels m move f NoBound below pairs sites count metric inside free is may = absurd may
move_refused refuses labels m move f OutOfMemory below pairs sites count metric inside free is may = inl refl

pub moved_over_metric : (refuses : SolveError → Type 0) (labels : ℕ) (m : Instance) (move : Move) (f : List ℕ) (g : LabelField) (r : Result Bool MoveError)
    → All (λ label. label < g.labels) g.at → IsInstance m → length g.at ≡ m.sites → g.labels ≡ m.labels
    → IsMoveOf m.labels move → (IsSwap move → AreLabelsFree m) → IsMoved m move f g.at r → IfErr r (IsMoveRefusal refuses labels move) → IfErr r (IsRefusalOver m refuses)
moved_over_metric refuses labels m move f g (Ok changed) below pairs sites count inside free moved may = tt
moved_over_metric refuses labels m move f g (Err e) below pairs sites count inside free moved may = λ metric.
    let P : List ℕ → Type 0 = λ h. IsCauseOfRefusal m move h e in
    move_refused refuses labels m move g e below pairs sites count metric inside free (subst P (sym moved.0) moved.1) may

-- and so is a run of moves that may be made
run_refused : (refuses : SolveError → Type 0) (m : Instance) (moves : List Move) (allowed : ℕ) (f : List ℕ) (g : LabelField) (e : MoveError)
    → All (λ label. label < g.labels) g.at → IsInstance m → length g.at ≡ m.sites → g.labels ≡ m.labels → HasMetric m
    → (e ≡ LabelCostInSwap → AreLabelsFree m) → IsRunOfCycles m moves allowed f g.at (Err e) → IsRunRefusal refuses e → IsMemoryOrCut refuses e
run_refused refuses m moves allowed f g NoSuchLabel below pairs sites count metric free run may = absurd may
run_refused refuses m moves allowed f g LabelCostInSwap below pairs sites count metric free (inl next) may = absurd (next.2.2 (free refl))
run_refused refuses m moves allowed f g LabelCostInSwap below pairs sites count metric free (inr never) may = absurd (never.2 (free refl))
run_refused refuses m moves allowed f g (PairNotRegular place alpha beta) below pairs sites count metric free run may =
    absurd (metric_run m moves allowed f g (PairNotRegular place alpha beta) below pairs sites count metric run tt)
run_refused refuses m moves allowed f g Workers below pairs sites count metric free run may = inr (NoWorkers, may, refl)
run_refused refuses m moves allowed f g BadOptions below pairs sites count metric free run may = inr (NoOptions, may, refl)
run_refused refuses m moves allowed f g NoBound below pairs sites count metric free run may = absurd may
run_refused refuses m moves allowed f g OutOfMemory below pairs sites count metric free run may = inl refl

swaps_free : (m : Instance) (kind : Moves) → kind ≡ Swaps → MayMake m kind → AreLabelsFree m
swaps_free m kind is may = (let P : Moves → Type 0 = λ k. MayMake m k in subst P is may)

pub run_over_metric : (refuses : SolveError → Type 0) (m : Instance) (kind : Moves) (moves : List Move) (allowed : ℕ) (f : List ℕ) (g : LabelField) (r : Result Ended MoveError)
    → All (λ label. label < g.labels) g.at → IsInstance m → length g.at ≡ m.sites → g.labels ≡ m.labels
    → MayMake m kind → IfErr r (λ e. e ≡ LabelCostInSwap → kind ≡ Swaps) → IsRunOfCycles m moves allowed f g.at r → IfErr r (IsRunRefusal refuses)
    → IfErr r (IsRefusalOver m refuses)
run_over_metric refuses m kind moves allowed f g (Ok ended) below pairs sites count make own run may = tt
run_over_metric refuses m kind moves allowed f g (Err e) below pairs sites count make own run may = λ metric.
    run_refused refuses m moves allowed f g e below pairs sites count metric (λ costs. swaps_free m kind (own costs) make) run may

-- a run of expansions that settled is within each bound of every labelling
pub settled_within : (m : Instance) (allowed : ℕ) (f : List ℕ) (g : LabelField) (r : Result Ended MoveError)
    → All (λ label. label < g.labels) g.at → IsInstance m → length g.at ≡ m.sites → g.labels ≡ m.labels
    → IsRunOfCycles m (expansions m.labels) allowed f g.at r → IfOk r (λ ended. IsTrue ended.settled → IsWithinBound m g.at)
settled_within m allowed f g (Err e) below pairs sites count run = tt
settled_within m allowed f g (Ok ended) below pairs sites count run = λ settled bound known h lh.
    let S : Bool → Type 0 = λ b. IsChain m (expansions m.labels) allowed f g.at ended.cycles b in
    let labelled : IsLabelled m (labelling g.at) = λ p l. (let one = below p 0 (omega (arith, l, sites)) in omega (arith, one, count)) in
    expansion_bound m known.metric.table (labelling g.at) h bound.vmin bound.vmax pairs known.metric.weighted known.metric.metric known.ratio known.free labelled lh
    (settled_is_local m allowed f g.at ended.cycles (subst S settled run))
