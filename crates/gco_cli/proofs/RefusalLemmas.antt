-- How the refusal of a command becomes that of a run, and a run's end the run.
use Rattle.std.proofs.Common.{◌≡◌, ℕ, false, List, inl, inr, Result, Ok, Err, IfOk, IfErr, MatchResult, refl, sym, ap, subst, arith}
use Rattle.std.specs.Prelude.{string_bytes}
use Rattle.std.specs.Result.{IsErrAnd}
use Rattle.command_line.specs.Task.{Asks, AsksForHelp, HasText, IsNoTaskFor}
use Rattle.command_line.specs.declared.task.NoTask.{NoTask}
use Rattle.command_line.specs.declared.task.NoTask.TheVariants.{OutOfMemory, Help, Refused, BadOption}
use Rattle.command_line.specs.declared.task.Request.{Request}
use Rattle.program_texts.specs.declared.fault.Fault.{Fault}
use Rattle.program_texts.specs.declared.fault.Fault.TheVariants as fault
use Rattle.program_tasks.proofs.FaultKinds.{task_own}
use Rattle.program_tasks.specs.Commands.{IsDueFor}
use Rattle.gco_cli.specs.Asked.{StandsForAsked, cuts_refuse}
use Rattle.gco_cli.specs.Refusals.{IsRefusalFor}
use Rattle.program_texts.specs.Refusals.{TellsHelp, IsRefusalOf, SaysRefusal, ShowsHelp, exit_status}
use Rattle.gco_cli.specs.Run.{IsDue, IsRun, LeavesSource, Streams}
use Rattle.program_tasks.specs.Refusals.{Refuses, is_failed_read, is_bad_option}
use Rattle.program_texts.specs.Writing.{IsCut, Writes}
use Rattle.byte_streams.specs.Streams.{Stream, Took, failures_after}
use Rattle.program_texts.specs.declared.refusal.Refusal.{Refusal}
use Rattle.program_texts.specs.declared.refusal.Refusal.TheVariants.{Fault as Faulty, Words}

-- an error that was made of a fault is what is said of that fault
pub as_fault : {L : Type 0} (P : Refusal → Type 0) (fault : Fault) (r : Result L Refusal) → IsErrAnd r (λ e. e ≡ Faulty fault)
    → P (Faulty fault) → IfErr r P
as_fault P fault (Ok x) is p = tt
as_fault P fault (Err e) is p = subst P (sym is) p

cut_weaker : (Due Due' : List ℕ → List ℕ → Type 0) (old new : Stream) (fault : Fault)
    → ((text said : List ℕ) → Due text said → Due' text said) → IsCut Due old new fault → IsCut Due' old new fault
cut_weaker Due Due' old new fault due k = (k.0, k.1, due k.0 k.1 k.2, k.3)

leaves : (old new : Stream) (fault : Fault) → is_bad_option fault ≡ false
    → new.failures ≡ failures_after (is_failed_read fault) old.failures → LeavesSource old new fault
leaves old new fault is failed = record { failed = failed; unread = λ is_too. cc }

-- the refusal of a command is for no option
not_asked : (request : Request) (source old new : Stream) (fault : Fault)
    → Refuses (IsDueFor request.task source) (StandsForAsked request source) old new fault → is_bad_option fault ≡ false
not_asked request source old new fault (inl stands) = (task_own (cuts_refuse request.workers) request.task stands.0.0 fault stands.0.2).1
not_asked request source old new fault (inr stops) = ap is_bad_option stops.3.1

-- a refusal of a command that was asked for is one of the run
pub of_command : (words : List (List ℕ)) (request : Request) (source source_new old new : Stream) (fault : Fault) → Asks words request
    → Refuses (IsDueFor request.task source) (StandsForAsked request source) old new fault
    → source_new.failures ≡ failures_after (is_failed_read fault) source.failures
    → IsRefusalFor words source source_new old new (Faulty fault)
of_command words request source source_new old new fault asks refuses read = (
  elim refuses [
    | inl stands ↦ inl (inr (inr (request, asks, stands.0)), stands.1, stands.2)
    | inr stops ↦ inr (cut_weaker (IsDueFor request.task source) (IsDue words source) old new fault
        (λ text said due. inr (request, asks, due)) stops)
  ],
  leaves source source_new fault (not_asked request source old new fault refuses) read,
)

unread : (source : Stream) (fault : Fault) → is_failed_read fault ≡ false → LeavesSource source source fault
unread source fault is = record { failed = rw is refl; unread = λ is_too. refl }

-- help that was cut is a refusal of a run that was asked for help
of_help : (help : List ℕ) (words : List (List ℕ)) (source old new : Stream) (fault : Fault) → AsksForHelp words
    → IsCut (TellsHelp help) old new fault → IsRefusalFor words source source old new (Faulty fault)
of_help help words source old new fault asks stops = (
  inr (cut_weaker (TellsHelp help) (IsDue words source) old new fault (λ text said is. inl (asks, is.1, is.2)) stops),
  unread source fault (rw stops.3.1 refl),
)

-- words without a task: a refusal is one of the run
refused : (words : List (List ℕ)) (no_task : NoTask) (source old new : Stream) (e : Refusal) → IsNoTaskFor words no_task
    → HasText no_task → IsRefusalOf no_task old new e → IsRefusalFor words source source old new e
refused words OutOfMemory source old new e is has of =
    rw of.0 (inl (inl refl, refl, of.1), unread source fault.OutOfMemory refl)
refused words (Help text) source old new (Faulty fault) is has of = of_help (string_bytes text) words source old new fault is of
refused words (Help text) source old new (Words said) is has of = absurd of
refused words (Refused text) source old new e is has of = rw of.0 (is, refl, of.1, has)
refused words (BadOption option) source old new e is has of =
    rw of.0 (inl (inr (inl (option, is, refl)), refl, of.1), unread source (fault.BadOption option) refl)

pub all_refused : {T : Type 0} (words : List (List ℕ)) (no_task : NoTask) (source old new : Stream) (r : Result T Refusal)
    → IsNoTaskFor words no_task → HasText no_task → IfErr r (IsRefusalOf no_task old new) → IfErr r (IsRefusalFor words source source old new)
all_refused words no_task source old new (Ok said) is has of = tt
all_refused words no_task source old new (Err e) is has of = refused words no_task source old new e is has of

-- words without a task: what was shown is what was due
pub all_shown : {T : Type 0} (bytes : T → List ℕ) (words : List (List ℕ)) (no_task : NoTask) (source old new : Stream)
    (r : Result T Refusal) → IsNoTaskFor words no_task → IfOk r (λ said. ShowsHelp no_task old new (bytes said))
    → IfOk r (λ said. Writes (IsDue words source) old new (bytes said) × (source.failures ≡ source.failures))
all_shown bytes words (Help text) source old new (Ok said) is shows = ((shows.0, inl (is, shows.1.1, shows.1.2), shows.2), refl)
all_shown bytes words OutOfMemory source old new (Ok said) is shows = absurd shows
all_shown bytes words (Refused text) source old new (Ok said) is shows = absurd shows
all_shown bytes words (BadOption option) source old new (Ok said) is shows = absurd shows
all_shown bytes words no_task source old new (Err e) is shows = tt

-- the end of a run, and what was said of it, is the run
pub run_of : {T : Type 0} (bytes : T → List ℕ) (words : List (List ℕ)) (old new : Streams) (end : Result T Refusal)
    → MatchResult end (λ said. Took old.faults new.faults (bytes said)) (SaysRefusal old.faults new.faults)
    → IfOk end (λ said. Writes (IsDue words old.source) old.sink new.sink (bytes said)
    × (new.source.failures ≡ old.source.failures))
    → IfErr end (IsRefusalFor words old.source new.source old.sink new.sink)
    → IsRun words old new (exit_status end)
run_of bytes words old new (Ok said) told done refused = record {
  done = λ is. record { said = bytes said; written = done.0; told = told; read = done.1 };
  refused = λ is. absurd (omega (arith, is));
  rejected = λ is. absurd (omega (arith, is));
  range = omega arith;
}
run_of bytes words old new (Err (Faulty fault)) told done refused = record {
  done = λ is. absurd (omega (arith, is));
  refused = λ is. record { fault = fault; stands = refused.0; told = told; read = refused.1 };
  rejected = λ is. absurd (omega (arith, is));
  range = omega arith;
}
run_of bytes words old new (Err (Words text)) told done refused = record {
  done = λ is. absurd (omega (arith, is));
  refused = λ is. absurd (omega (arith, is));
  rejected = λ is. record { text = text; refused = refused.0; some = refused.3; told = told; read = refused.1; written = refused.2 };
  range = omega arith;
}
