-- How the refusal of what a command needs becomes that of the command.
use Rattle.std.proofs.Common.{◌≡◌, ℕ, List, inl, inr, Result, Ok, Err, IfErr, refl, sym, subst}
use Rattle.std.specs.Result.{IsErrAnd}
use Rattle.cut_ways.specs.declared.solve_error.SolveError.{SolveError}
use Rattle.command_line.specs.declared.task.Task.{Task}
use Rattle.byte_streams.specs.Streams.{Stream}
use Rattle.program_texts.specs.Writing.{IsCutIn}
use Rattle.program_texts.specs.declared.fault.Fault.{Fault}
use Rattle.program_tasks.specs.Commands.{IsDueFor, IsFaultFor}
use Rattle.program_tasks.specs.Refusals.{Refuses}
use Rattle.program_tasks.proofs.FaultKinds.{task_own}

-- the sink failed within a text that was due
pub cut_in : {T : Type 0} (Due : List ℕ → List ℕ → Type 0) (Is : Fault → Type 0) (old new : Stream) (text items said : List ℕ) (r : Result T Fault)
    → text ≡ items → Due items said → IfErr r (IsCutIn text old new) → IfErr r (Refuses Due Is old new)
cut_in Due Is old new text items said (Ok x) same due cut = tt
cut_in Due Is old new text items said (Err fault) same due cut =
    inr (items, said, due, subst (λ (xs : List ℕ). IsCutIn xs old new fault) same cut)

-- a command was refused before anything was written
pub task_refused : {T : Type 0} (cut : SolveError → Type 0) (task : Task) (source sink : Stream) (fault : Fault) (r : Result T Fault)
    → IsErrAnd r (λ e. e ≡ fault) → IsFaultFor cut task source fault → IfErr r (Refuses (IsDueFor task source) (IsFaultFor cut task source) sink sink)
task_refused cut task source sink fault (Ok x) is stands = tt
task_refused cut task source sink fault (Err e) is stands =
    let P : Fault → Type 0 = λ f. Refuses (IsDueFor task source) (IsFaultFor cut task source) sink sink f in
    subst P (sym is) (inl (stands, (task_own cut task stands.0 fault stands.2).0, refl))
