-- What is told of a run and of a move is what the labels come to where it ended.
use Rattle.std.proofs.Common.{◌≡◌, ◌∙◌, ℕ, List, Ok, sym, subst}
use Rattle.label_energies.specs.declared.change.Move.{Move}
use Rattle.label_energies.specs.declared.cycles.Moves.{Moves}
use Rattle.moves.specs.Runs.{AnswersRun}
use Rattle.moves.specs.declared.tables.Run.{Run}
use Rattle.gco_arrays.specs.Calls.{CallArrays, IsGiven, instance_given}
use Rattle.gco_calls.specs.Calls.{IsMoveTold, IsRunTold, moves_number}
use Rattle.gco_calls.specs.Moved.{IsMovedTo}
use Rattle.gco_calls.specs.Outcomes.{move_told, outcome_of_parts, run_told}
use Rattle.gco_calls.specs.declared.moving.Moved.{Moved}
use Rattle.gco_calls.specs.declared.outcome.GcoOutcome.{GcoOutcome}

pub run_is_told : (a : CallArrays) (number cycles : ℕ) (labels : List ℕ) (told : GcoOutcome) (moves : Moves) (run : Run)
    → IsGiven a → number ≡ moves_number moves → AnswersRun (instance_given a) moves cycles a.start (Ok run) → labels ≡ run.labelling.at
    → told ≡ run_told (outcome_of_parts run.«data» run.smooth run.label) run.ended.cycles run.ended.settled run.bound
    → IsRunTold a number cycles labels told
run_is_told a number cycles labels told moves run given numbered answer same is =
    let P : List ℕ → Type 0 = λ xs. IsRunTold a number cycles xs told in
    subst P (sym same) (record {
      given = given;
      moves = moves;
      numbered = numbered;
      made = run.ended.cycles;
      settled = run.ended.settled;
      chain = answer.0;
      bound = run.bound;
      tells = answer.4;
      may = answer.5;
      told_is = is ∙ (λ i. run_told (outcome_of_parts (answer.1 i) (answer.2 i) (answer.3 i)) run.ended.cycles run.ended.settled run.bound);
    })

pub move_is_told : (a : CallArrays) (move : Move) (labels : List ℕ) (told : GcoOutcome) (moved : Moved)
    → IsGiven a → IsMovedTo (instance_given a) move a.start (Ok moved) → labels ≡ moved.labelling.at
    → told ≡ move_told (outcome_of_parts moved.«data» moved.smooth moved.label) moved.changed → IsMoveTold a move labels told
move_is_told a move labels told moved given answer same is =
    let P : List ℕ → Type 0 = λ xs. IsMoveTold a move xs told in
    subst P (sym same) (record {
      given = given;
      changed = moved.changed;
      moved = answer.0;
      told_is = is ∙ (λ i. move_told (outcome_of_parts (answer.1 i) (answer.2 i) (answer.3 i)) moved.changed);
    })
