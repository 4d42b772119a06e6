-- What is told of a run and of a move over pairs with costs of their own is what the labels come to
-- where it ended.
use Rattle.std.proofs.Common.{◌≡◌, ◌∙◌, ℕ, List, Ok, cond, sym, subst}
use Rattle.label_energies.specs.declared.change.Move.{Move}
use Rattle.label_energies.specs.declared.cycles.Moves.{Moves}
use Rattle.gco_arrays.specs.PairCalls.{IsPairCallGiven, PairCall, instance_of_call}
use Rattle.gco_calls.specs.Calls.{moves_number}
use Rattle.gco_calls.specs.Outcomes.{outcome_of_parts}
use Rattle.gco_calls.specs.PairRuns.{AnswersAsked, IsPairMoveTold, IsPairRunTold}
use Rattle.gco_calls.specs.declared.asked.Asked.TheVariants.{Run, One}
use Rattle.gco_calls.specs.declared.asked.Made.{Made}
use Rattle.gco_calls.specs.declared.outcome.GcoOutcome.{GcoOutcome}

-- all that is told of it
abbrev told_of : Made → GcoOutcome
told_of made = record (outcome_of_parts made.«data» made.smooth made.label) {
  cycles = made.ended.cycles;
  settled = cond made.ended.settled 1 0;
  changed = cond made.changed 1 0;
}

pub pair_run_is_told : (a : PairCall) (number cycles : ℕ) (labels : List ℕ) (told : GcoOutcome) (moves : Moves) (made : Made)
    → IsPairCallGiven a → number ≡ moves_number moves → AnswersAsked (instance_of_call a) (Run moves cycles) a.arrays.start (Ok made) → labels ≡ made.labelling.at
    → told ≡ told_of made → IsPairRunTold a number cycles labels told
pair_run_is_told a number cycles labels told moves made given numbered answer same is =
    let P : List ℕ → Type 0 = λ xs. IsPairRunTold a number cycles xs told in
    let parts = answer.1 in
    subst P (sym same) (record {
      given = given;
      moves = moves;
      numbered = numbered;
      made = made.ended.cycles;
      settled = made.ended.settled;
      chain = answer.0;
      may = answer.2;
      told_is = is ∙ (λ i. record (outcome_of_parts (parts.data_is i) (parts.smooth_is i) (parts.label_is i)) {
        cycles = made.ended.cycles;
        settled = cond made.ended.settled 1 0;
        changed = cond (answer.3 i) 1 0;
      });
    })

pub pair_move_is_told : (a : PairCall) (move : Move) (labels : List ℕ) (told : GcoOutcome) (made : Made)
    → IsPairCallGiven a → AnswersAsked (instance_of_call a) (One move) a.arrays.start (Ok made) → labels ≡ made.labelling.at → told ≡ told_of made
    → IsPairMoveTold a move labels told
pair_move_is_told a move labels told made given answer same is =
    let P : List ℕ → Type 0 = λ xs. IsPairMoveTold a move xs told in
    let parts = answer.1 in
    subst P (sym same) (record {
      given = given;
      changed = made.changed;
      moved = answer.0;
      told_is = is ∙ (λ i. record (outcome_of_parts (parts.data_is i) (parts.smooth_is i) (parts.label_is i)) {
        cycles = (answer.2 i).cycles;
        settled = cond ((answer.2 i).settled) 1 0;
        changed = cond made.changed 1 0;
      });
    })
