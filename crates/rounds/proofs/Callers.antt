-- For those who call: what one thread refuses, as workers refuse it.
use Rattle.std.proofs.Common.{◌≡◌, Result, Ok, Err, sym, subst}
use Rattle.std.specs.Prelude.{IfErr}
use Rattle.cut_ways.specs.declared.solve_error.SolveError.{SolveError}
use Rattle.cut_ways.specs.declared.solve_error.SolveError.TheVariants.{OutOfMemory}
use Rattle.worker_options.specs.declared.options.Options.{Options}
use Rattle.worker_options.specs.Ranges.{AreInRange}
use Rattle.rounds.specs.SolveErrors.{MayFailToSolve}

-- options in their ranges may be refused for memory, as one thread refuses
pub alone_may_fail : {T : Type 0} (options : Options) (r : Result T SolveError) → AreInRange options → IfErr r (λ e. e ≡ OutOfMemory) → IfErr r (MayFailToSolve options)
alone_may_fail {T} options (Ok v) fits refused = tt
alone_may_fail {T} options (Err e) fits refused = (let P : SolveError → Type 0 = λ x. MayFailToSolve options x in subst P (sym refused) fits)
