-- Where a run stands in its cycles, and what a step changes.
use Rattle.std.specs.Prelude.{◌≡◌, ℕ, ◌+◌, ◌-◌, ◌*◌, ◌<◌, ◌==◌, not, List, ◌∷◌, ◌++◌, length}
use Rattle.std.specs.Prelude.{slice_index, Option, Some, None}
use Rattle.sums.specs.Sums.{sum_below, count_if}
use Rattle.label_energies.specs.declared.change.Move.{Move}
use Rattle.label_energies.specs.Energies.{Instance, labelling}
use Rattle.label_energies.specs.Moves.{IsAllowed, IsBest}
use Rattle.label_energies.specs.Chains.{MovesLead, IsChain, IsBeginning, Cycles, moves_of}
use Rattle.run_steps.specs.declared.course.Ended.{Ended}
use Rattle.run_steps.specs.declared.course.Course.{Course}
use Rattle.run_steps.specs.Cycles.{IsSoFar}

-- the moves of each cycle of a course
abbrev pub cycle_of : Course → List Move
cycle_of course = moves_of course.moves course.labels

-- a run of these moves from f goes on from g: so many whole cycles, each of which changed
-- something, lead from f to where another began, and that one has come to g
pub record IsBetweenMoves (m : Instance) (moves : List Move) (course : Course)
    (f g : List ℕ) : Type 0 where
  pub start : List ℕ
  pub cycles : Cycles m moves course.done f start
  pub so_far : IsSoFar m moves course.place start g course.changed course.last

-- where a run from f stands: within its chain, or at the end of it
abbrev pub StandsOnCourse : Instance → List Move → ℕ → Course → List ℕ → List ℕ
    → Option Ended → Type 0
StandsOnCourse m moves allowed course f g None = IsBetweenMoves m moves course f g
StandsOnCourse m moves allowed course f g (Some ended) =
    IsChain m moves allowed f g ended.cycles ended.settled

-- g is where a beginning of the chain from f ends: so many whole cycles, each of which changed
-- something, and the moves of another up to the next one
pub record IsBegun (m : Instance) (moves : List Move) (allowed done : ℕ)
    (f g : List ℕ) : Type 0 where
  pub start : List ℕ
  pub before : List Move
  pub next : Move
  pub after : List Move
  pub room : done < allowed
  pub split : moves ≡ before ++ next ∷ after
  pub cycles : Cycles m moves done f start
  pub leads : MovesLead m before start g
  pub beginning : IsBeginning m moves allowed f g next

-- a run from f has come to g: to the end of a beginning of its chain, or of the whole chain
abbrev pub HasComeTo : Instance → List Move → ℕ → List ℕ → List ℕ → ℕ → Option Ended → Type 0
HasComeTo m moves allowed f g done None = IsBegun m moves allowed done f g
HasComeTo m moves allowed f g done (Some ended) =
    IsChain m moves allowed f g ended.cycles ended.settled

-- how many whole cycles were done: those before the next move, or all of a run that ended
abbrev pub cycles_unless : ℕ → Option Ended → ℕ
cycles_unless done None = done
cycles_unless done (Some ended) = ended.cycles

-- how many moves come before a place of a cycle, after so many whole cycles
abbrev pub moves_before : List Move → ℕ → ℕ → ℕ
moves_before moves done place = done * length moves + place

-- how many moves of its chain lead to where a course stands
abbrev pub moves_made : Course → ℕ
moves_made course = moves_before (cycle_of course) course.done course.place

-- how many moves are left at most
abbrev pub left_unless : Course → Option Ended → ℕ
left_unless course None =
    (course.allowed - course.done) * length (cycle_of course) - course.place
left_unless course (Some ended) = 0

abbrev pub moves_left : Course → ℕ
moves_left course = left_unless course course.ended

-- at how many sites the labels differ
abbrev pub labels_changed : List ℕ → List ℕ → ℕ
labels_changed f g =
    sum_below (length f) (λ p. count_if (not (slice_index g p == slice_index f p)) 1)

-- the move leads from f to g: its terms are regular, and g is the best labelling that it reaches
abbrev pub LeadsBest : Instance → Move → List ℕ → List ℕ → Type 0
LeadsBest m move f g = IsAllowed m move (labelling f) × IsBest m move f g
