-- A run under way after a step.
use Rattle.std.proofs.Common.{◌≡◌, ◌+◌, ◌<◌, ℕ, Bool, false, List, length, slice_get, Option, Some, None, Result, Ok, Err, IfOk, refl, sym, ◌∙◌, subst, inl}
use Rattle.std.specs.Option.{is_some}
use Rattle.label_field.specs.LabelFields.{LabelField}
use Rattle.cost_store.specs.declared.problem.Problem.{Problem}
use Rattle.cost_store.specs.Posed.{Closure, IsMeant}
use Rattle.label_energies.specs.declared.change.Move.{Move}
use Rattle.label_energies.specs.declared.cycles.Moves.{Moves}
use Rattle.label_energies.specs.Energies.{Instance, labelling}
use Rattle.label_energies.specs.Chains.{IsBeginning, moves_of}
use Rattle.one_move.specs.Building.{TellsChange}
use Rattle.one_move.specs.Moved.{IsCauseOfRefusal}
use Rattle.one_move.specs.declared.error.MoveError.{MoveError}
use Rattle.one_move.specs.declared.workspace.Workspace.{Workspace}
use Rattle.near_changes.specs.declared.changes.Changes.{Changes}
use Rattle.run_steps.specs.declared.course.Ended.{Ended}
use Rattle.run_steps.specs.declared.course.Course.{Course}
use Rattle.run_steps.specs.declared.under_way.RunUnderWay.{RunUnderWay}
use Rattle.run_steps.specs.Problems.{IsRunOfCycles}
use Rattle.run_steps.specs.Courses.{IsBetweenMoves, StandsOnCourse, LeadsBest, cycle_of, moves_made}
use Rattle.run_steps.proofs.Courses.{beginning_at, has_come}
use Rattle.run_steps.specs.Remembered.{AreMovesStamped, IsUnderWay}
use Rattle.one_move.specs.Building.{IsWorkingOn}
use Rattle.run_steps.specs.Bookmarks.{IsRunOver, IsRunIn, LeadMoves}
use Rattle.run_steps.specs.UnderWay.{IsRunFrom, IsStepOf, ended_of}

-- the moves of its cycles are those of the problem's labels
pub cycle_is : (m : Instance) (kind : Moves) (n : ℕ) (course : Course) → course.moves ≡ kind → course.labels ≡ n → m.labels ≡ n → cycle_of course ≡ moves_of kind m.labels
cycle_is m kind n course kinds labels same = (λ j. moves_of (kinds j) ((labels ∙ sym same) j))

-- a run that has not ended
pub still_open : (ended : Option Ended) → false ≡ is_some ended → ended ≡ None
still_open None is = refl
still_open (Some e) is = absurd (cc is)

-- a run that begins
pub begins_here : (m : Instance) (kind : Moves) (cycles n : ℕ) (start : List ℕ) (course : Course) → course.moves ≡ kind → course.labels ≡ n → m.labels ≡ n
    → StandsOnCourse m (cycle_of course) cycles course start start course.ended → StandsOnCourse m (moves_of kind m.labels) cycles course start start course.ended
begins_here m kind cycles n start course kinds labels same stands =
    let C : List Move → Type 0 = λ moves. StandsOnCourse m moves cycles course start start course.ended in
    subst C (cycle_is m kind n course kinds labels same) stands

-- after a move
pub goes_on_after : (m : Instance) (kind : Moves) (cycles n : ℕ) (start at new : List ℕ) (was course next : Course) (change : Move) (turned : Bool)
    → course ≡ was → was.moves ≡ kind → was.labels ≡ n → was.allowed ≡ cycles → m.labels ≡ n → was.ended ≡ None
    → StandsOnCourse m (moves_of kind m.labels) cycles was start at was.ended
    → slice_get (cycle_of was) was.place ≡ Some change → LeadsBest m change at new → TellsChange turned at new
    → (slice_get (cycle_of course) course.place ≡ Some change → IsBetweenMoves m (cycle_of course) course start at → LeadsBest m change at new
    → TellsChange turned at new → StandsOnCourse m (cycle_of course) course.allowed next start new next.ended)
    → StandsOnCourse m (moves_of kind m.labels) cycles next start new next.ended
goes_on_after m kind cycles n start at new was course next change turned is kinds labels allowed same going stands here best told pass =
    let cycle = cycle_is m kind n was kinds labels same in
    let E : Option Ended → Type 0 = λ e. StandsOnCourse m (moves_of kind m.labels) cycles was start at e in
    let goes : IsBetweenMoves m (moves_of kind m.labels) was start at = subst E going stands in
    let G : List Move → Type 0 = λ moves. IsBetweenMoves m moves was start at in
    let P : Course → Type 0 = λ c. slice_get (cycle_of c) c.place ≡ Some change → IsBetweenMoves m (cycle_of c) c start at → LeadsBest m change at new
    → TellsChange turned at new → StandsOnCourse m (cycle_of c) c.allowed next start new next.ended in
    let after = subst P is pass here (subst G (sym cycle) goes) best told in
    let B : ℕ → Type 0 = λ k. StandsOnCourse m (cycle_of was) k next start new next.ended in
    let C : List Move → Type 0 = λ moves. StandsOnCourse m moves cycles next start new next.ended in
    subst C cycle (subst B allowed after)

-- the move is one more of the chain
pub moved_after : (m : Instance) (kind : Moves) (cycles n : ℕ) (start at new : List ℕ) (was course next : Course) (change : Move) (turned : Bool)
    → course ≡ was → was.moves ≡ kind → was.labels ≡ n → m.labels ≡ n → was.ended ≡ None
    → StandsOnCourse m (moves_of kind m.labels) cycles was start at was.ended
    → slice_get (cycle_of was) was.place ≡ Some change → LeadsBest m change at new → TellsChange turned at new
    → (slice_get (cycle_of course) course.place ≡ Some change → IsBetweenMoves m (cycle_of course) course start at → LeadsBest m change at new
    → TellsChange turned at new → StandsOnCourse m (cycle_of course) course.allowed next start new next.ended
    × LeadMoves m (cycle_of course) (moves_made course + 1) start new)
    → LeadMoves m (moves_of kind m.labels) (moves_made was + 1) start new
moved_after m kind cycles n start at new was course next change turned is kinds labels same going stands here best told pass =
    let cycle = cycle_is m kind n was kinds labels same in
    let E : Option Ended → Type 0 = λ e. StandsOnCourse m (moves_of kind m.labels) cycles was start at e in
    let goes : IsBetweenMoves m (moves_of kind m.labels) was start at = subst E going stands in
    let G : List Move → Type 0 = λ moves. IsBetweenMoves m moves was start at in
    let P : Course → Type 0 = λ c. slice_get (cycle_of c) c.place ≡ Some change → IsBetweenMoves m (cycle_of c) c start at → LeadsBest m change at new
    → TellsChange turned at new → StandsOnCourse m (cycle_of c) c.allowed next start new next.ended
    × LeadMoves m (cycle_of c) (moves_made c + 1) start new in
    let after = subst P is pass here (subst G (sym cycle) goes) best told in
    let L : List Move → Type 0 = λ moves. LeadMoves m moves (moves_made was + 1) start new in
    subst L cycle after.1

-- where the next move is refused
pub refused_here : (m : Instance) (kind : Moves) (cycles n : ℕ) (start at new : List ℕ) (was : Course) (change : Move) (e : MoveError)
    → was.moves ≡ kind → was.labels ≡ n → was.allowed ≡ cycles → m.labels ≡ n → was.ended ≡ None
    → StandsOnCourse m (moves_of kind m.labels) cycles was start at was.ended
    → slice_get (cycle_of was) was.place ≡ Some change → new ≡ at → IsCauseOfRefusal m change at e
    → IsRunOfCycles m (moves_of kind m.labels) cycles start new (Err e)
refused_here m kind cycles n start at new was change e kinds labels allowed same going stands here kept cause =
    let E : Option Ended → Type 0 = λ e. StandsOnCourse m (moves_of kind m.labels) cycles was start at e in
    let goes : IsBetweenMoves m (moves_of kind m.labels) was start at = subst E going stands in
    let S : List Move → Type 0 = λ moves. slice_get moves was.place ≡ Some change in
    let B : List ℕ → Type 0 = λ x. IsBeginning m (moves_of kind m.labels) cycles start x change in
    let R : List ℕ → Type 0 = λ x. IsCauseOfRefusal m change x e in
    let R2 : ℕ → Type 0 = λ k. was.done < k in
    let begins = beginning_at m (moves_of kind m.labels) cycles was start at change (subst R2 allowed (was.room going)) goes
    (subst S (cycle_is m kind n was kinds labels same) here) in
    inl (change, subst B (sym kept) begins, subst R (sym kept) cause)

-- a run that stands as another does
pub stands_too : (m : Instance) (kind : Moves) (cycles : ℕ) (start at new : List ℕ) (was course : Course) → course ≡ was → new ≡ at
    → StandsOnCourse m (moves_of kind m.labels) cycles was start at was.ended → StandsOnCourse m (moves_of kind m.labels) cycles course start new course.ended
stands_too m kind cycles start at new was course is kept stands =
    let C : Course → Type 0 = λ c. StandsOnCourse m (moves_of kind m.labels) cycles c start at c.ended in
    let L : List ℕ → Type 0 = λ x. StandsOnCourse m (moves_of kind m.labels) cycles course start x course.ended in
    subst L (sym kept) (subst C (sym is) stands)

-- a run at labels where it stands in its chain
pub run_from : {F V : Type 0} (f : Closure F) (v : Closure V) (problem : Problem F V) (kind : Moves) (cycles : ℕ) (start : List ℕ) (field : LabelField)
    (run : RunUnderWay) → IsUnderWay f v problem field run.space run.changes run.swaps → run.course.moves ≡ kind → run.course.labels ≡ problem.data_cost.labels
    → run.course.allowed ≡ cycles
    → ((m : Instance) → IsMeant f v problem m → StandsOnCourse m (moves_of kind m.labels) cycles run.course start field.at run.course.ended)
    → IsRunFrom f v problem kind cycles start field run
run_from {F} {V} f v problem kind cycles start field run under_way kinds labels allowed stands =
    let course = run.course in
    let A : ℕ → Type 0 = λ k. course.done < k in record {
      come = λ m meant.
          let I : List Move → Type 0 = λ moves. course.place < length moves in
          has_come m (moves_of kind m.labels) cycles course start field.at course.ended
          (λ going. subst A allowed (course.room going))
          (λ going. subst I (cycle_is m kind problem.data_cost.labels course kinds labels meant.labels_are) (course.inside going))
          (stands m meant);
      under_way = under_way;
      kind_is = kinds;
      labels_are = labels;
      allowed_is = allowed;
      stands = stands;
    }

-- a run is what it works with, what it remembers and where it stands
pub run_kept : {F V : Type 0} (f : Closure F) (v : Closure V) (problem : Problem F V) (kind : Moves) (cycles : ℕ) (start : List ℕ) (field : LabelField)
    (old new : RunUnderWay) → new.space ≡ old.space → new.changes ≡ old.changes → new.swaps ≡ old.swaps → new.course ≡ old.course
    → IsRunFrom f v problem kind cycles start field old → IsRunFrom f v problem kind cycles start field new
run_kept {F} {V} f v problem kind cycles start field old new space changes swaps course run =
    let S : Workspace → Type 0 = λ s. IsUnderWay f v problem field s old.changes old.swaps in
    let C : Changes → Type 0 = λ c. IsUnderWay f v problem field new.space c old.swaps in
    let W : Changes → Type 0 = λ c. IsUnderWay f v problem field new.space new.changes c in
    let K : Course → Type 0 = λ c. c.moves ≡ kind in
    let L : Course → Type 0 = λ c. c.labels ≡ problem.data_cost.labels in
    let A : Course → Type 0 = λ c. c.allowed ≡ cycles in
    run_from f v problem kind cycles start field new (subst W (sym swaps) (subst C (sym changes) (subst S (sym space) run.under_way))) (subst K (sym course) run.kind_is)
    (subst L (sym course) run.labels_are) (subst A (sym course) run.allowed_is)
    (λ m meant. (let P : Course → Type 0 = λ c. StandsOnCourse m (moves_of kind m.labels) cycles c start field.at c.ended in subst P (sym course) (run.stands m meant)))

-- a run works at its labels
pub over_of : {F V : Type 0} (f : Closure F) (v : Closure V) (problem : Problem F V) (kind : Moves) (cycles : ℕ) (start : List ℕ) (field : LabelField)
    (run : RunUnderWay) → IsRunFrom f v problem kind cycles start field run → IsRunOver f v problem field run
over_of {F} {V} f v problem kind cycles start field run from = record {
  working = record { posed = from.under_way.posed; fits = from.under_way.fits; of_problem = from.under_way.of_problem };
  labels_are = from.labels_are;
}

-- and is under way in each instance that the problem means
pub run_in_of : {F V : Type 0} (f : Closure F) (v : Closure V) (problem : Problem F V) (kind : Moves) (cycles : ℕ) (start : List ℕ) (field : LabelField)
    (run : RunUnderWay) → IsRunFrom f v problem kind cycles start field run → (m : Instance) → IsMeant f v problem m → IsRunIn m kind cycles start field.at run
run_in_of {F} {V} f v problem kind cycles start field run from m meant = record {
  kind_is = from.kind_is;
  allowed_is = from.allowed_is;
  stands = from.stands m meant;
  stamped = from.under_way.stamped m meant;
}

-- what works at labels and remembers what is true of them is under way
pub under_way_of : {F V : Type 0} (f : Closure F) (v : Closure V) (problem : Problem F V) (field : LabelField) (space : Workspace) (changes swaps : Changes)
    → IsWorkingOn f v problem field space → ((m : Instance) → IsMeant f v problem m → AreMovesStamped m (labelling field.at) changes swaps)
    → IsUnderWay f v problem field space changes swaps
under_way_of {F} {V} f v problem field space changes swaps working stamped = record {
  posed = working.posed;
  fits = working.fits;
  of_problem = working.of_problem;
  stamped = stamped;
}

-- a finished run
pub finished : {F V : Type 0} (f : Closure F) (v : Closure V) (problem : Problem F V) (kind : Moves) (cycles : ℕ) (start : List ℕ) (field : LabelField)
    (run : RunUnderWay) (r : Result Ended MoveError) (m : Instance) → IsMeant f v problem m → IsStepOf f v problem kind cycles start field run r
    → IfOk r (λ ended. ended_of run ≡ Some ended) → IsRunOfCycles m (moves_of kind m.labels) cycles start field.at r
finished {F} {V} f v problem kind cycles start field run (Ok ended) m meant step over =
    let P : Option Ended → Type 0 = λ e. StandsOnCourse m (moves_of kind m.labels) cycles run.course start field.at e in
    subst P over (step.goes_on.stands m meant)
finished {F} {V} f v problem kind cycles start field run (Err e) m meant step over = step.cause m meant
