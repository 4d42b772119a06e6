-- What no move over a metric refuses.
use Rattle.std.proofs.Common.{◌≡◌, Bool, List, ℕ, Result, Ok, Err, IfErr, length, ◌<◌, arith, All}
use Rattle.label_energies.specs.declared.change.Move.{Move}
use Rattle.label_energies.specs.Energies.{Instance, IsInstance, HasMetric, labelling}
use Rattle.label_field.specs.LabelFields.{LabelField}
use Rattle.label_energies.proofs.Metric.{metric_never}
use Rattle.one_move.specs.declared.error.MoveError.{MoveError}
use Rattle.one_move.specs.declared.error.MoveError.TheVariants.{NoSuchLabel, LabelCostInSwap, PairNotRegular, Workers, BadOptions, NoBound, OutOfMemory}
use Rattle.run_steps.specs.Problems.{TellsPairNotRegular}
use Rattle.one_move.specs.Moved.{IsCauseOfRefusal, IsMoved}

-- with a metric no pair's term fails to be regular
pub metric_refusal : (m : Instance) (move : Move) (f : LabelField) (e : MoveError) → All (λ label. label < f.labels) f.at → IsInstance m → length f.at ≡ m.sites → f.labels ≡ m.labels → HasMetric m
    → IsCauseOfRefusal m move f.at e → ¬ TellsPairNotRegular e
metric_refusal m move f NoSuchLabel field pairs sites labels metric refusal told = told
metric_refusal m move f LabelCostInSwap field pairs sites labels metric refusal told = told
metric_refusal m move f NoBound field pairs sites labels metric refusal told = told
metric_refusal m move f (PairNotRegular place alpha beta) field pairs sites labels metric refusal told =
    metric_never m move (labelling f.at) place pairs metric refusal.0
    (λ p l. (let below = field p 0 (omega (arith, l, sites)) in omega (arith, below, labels))) refusal.1
metric_refusal m move f Workers field pairs sites labels metric refusal told = told
metric_refusal m move f BadOptions field pairs sites labels metric refusal told = told
metric_refusal m move f OutOfMemory field pairs sites labels metric refusal told = told

-- what a refused move told, taken from what the move answers
pub metric_of_moved : (m : Instance) (move : Move) (f : LabelField) (g : List ℕ) (r : Result Bool MoveError) → All (λ label. label < f.labels) f.at → IsInstance m → length f.at ≡ m.sites → f.labels ≡ m.labels
    → HasMetric m → IsMoved m move f.at g r → IfErr r (λ e. ¬ TellsPairNotRegular e)
metric_of_moved m move f g (Ok changed) field pairs sites labels metric moved = tt
metric_of_moved m move f g (Err e) field pairs sites labels metric moved = metric_refusal m move f e field pairs sites labels metric moved.1
