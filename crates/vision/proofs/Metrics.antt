-- Which named costs are a metric, and nothing but a move tells a pair.
use Rattle.std.proofs.Common.{◌≡◌, ◌≢◌, ℕ, ◌<◌, ◌≤◌, ◌⊎◌, List, ℤ, inl, inr, refl, subst}
use Rattle.cost_store.specs.Promises.{IsMetricTable, IsTable}
use Rattle.cost_store.proofs.Metrics.{linear_metric, potts_metric, table_of_metric}
use Rattle.label_energies.specs.Energies.{IsMetric}
use Rattle.moves.specs.Problems.{TellsPairNotRegular}
use Rattle.one_move.specs.declared.error.MoveError.{MoveError}
use Rattle.one_move.specs.declared.error.MoveError.TheVariants as move
use Rattle.run_options.specs.Shapes.{shape_cost}
use Rattle.run_options.specs.declared.shape.Shape.{Shape}
use Rattle.run_options.specs.declared.shape.Shape.TheVariants.{Potts, Linear, Quadratic}
use Rattle.pgm_image.specs.Front.{RefusesFront}
use Rattle.pgm_image.specs.declared.error.PgmError.{PgmError}
use Rattle.pgm_image.specs.declared.error.PgmError.TheVariants as image
use Rattle.vision.specs.Faults.{HasNoImage, HasPairError, IsStop, IsOfPair, TellsRun, image_error}
use Rattle.vision.specs.Inputs.{RefusesSecond}
use Rattle.vision.specs.declared.error.VisionError.{VisionError}
use Rattle.vision.specs.declared.error.VisionError.TheVariants.{OutOfMemory, SizesDiffer, LabelCostInSwap, Workers, BadOptions, Write}

-- whatever the costs by distance are cut off at, from 1 on
pub shape_metric : (shape : Shape) (k most : ℕ) → 1 ≤ most → shape ≢ Quadratic → IsMetric k (shape_cost shape most)
shape_metric Potts k most some apart = potts_metric k
shape_metric Linear k most some apart = linear_metric k most some
shape_metric Quadratic k most some apart = absurd (apart refl)

pub shape_metric_table : (shape : Shape) (k most : ℕ) (table : List ℤ) → 0 < k → 1 ≤ most → shape ≢ Quadratic
    → IsTable k k (shape_cost shape most) table → IsMetricTable k table
shape_metric_table shape k most table some cut apart is =
    table_of_metric k (shape_cost shape most) table some is (shape_metric shape k most cut apart)

pub potts_metric_table : (k most : ℕ) (table : List ℤ) → 0 < k → 1 ≤ most → IsTable k k (shape_cost Potts most) table → IsMetricTable k table
potts_metric_table k most table some cut is = shape_metric_table Potts k most table some cut (λ same. cc) is

-- what is one of these tells what that one tells
as_told : (e told : VisionError) → e ≡ told → (¬ IsOfPair told) → ¬ IsOfPair e
as_told e told is none = λ tells. none (subst IsOfPair is tells)

-- a move tells what its own refusal tells
pub move_tells : (error : MoveError) (e : VisionError) → TellsRun error e → (¬ TellsPairNotRegular error) → ¬ IsOfPair e
move_tells move.NoSuchLabel e is none = absurd is
move_tells move.LabelCostInSwap e is none = as_told e LabelCostInSwap is none
move_tells (move.PairNotRegular pair alpha beta) e is none = λ tells. none tt
move_tells move.Workers e is none = as_told e Workers is none
move_tells move.BadOptions e is none = as_told e BadOptions is none
move_tells move.NoBound e is none = absurd is
move_tells move.OutOfMemory e is none = as_told e OutOfMemory is none

reason_tells_none : (reason : PgmError) → ¬ IsOfPair (image_error reason)
reason_tells_none image.OutOfMemory tells = tells
reason_tells_none image.NotPgm tells = tells
reason_tells_none (image.BadHeader at) tells = tells
reason_tells_none image.ZeroSize tells = tells
reason_tells_none image.TooLarge tells = tells
reason_tells_none image.BadMaxval tells = tells
reason_tells_none image.Truncated tells = tells
reason_tells_none (image.SampleAboveMax index) tells = tells
reason_tells_none (image.BadSample at) tells = tells

pub image_tells_none : (Refused : PgmError → Type 0) (e : VisionError) → HasNoImage Refused e → ¬ IsOfPair e
image_tells_none Refused e has = as_told e (image_error has.0) has.2 (reason_tells_none has.0)

pub pair_tells_none : (input : List ℕ) (e : VisionError) → HasPairError input e → ¬ IsOfPair e
pair_tells_none input e (inl has) = image_tells_none (λ reason. RefusesFront input reason ⊎ RefusesSecond input reason) e has
pair_tells_none input e (inr has) = as_told e SizesDiffer has.1 (λ tells. tells)

pub stop_tells_none : (After : ℕ → Type 0) (e : VisionError) → IsStop After e → ¬ IsOfPair e
stop_tells_none After e is = as_told e (Write is.0) is.2 (λ tells. tells)
