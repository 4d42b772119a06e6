-- The laws of hands that come back from work.
use Rattle.std.specs.Prelude.{◌≡◌, ℕ, ◌<◌, List, length}
use Rattle.block_workers.specs.declared.seat.Seat.{Seat}
use Rattle.block_workers.specs.Workers.{AllWorked}
use Rattle.rounds.specs.Dealing.{hand, AreHands, AreDealt}

-- each hand was worked on
pub record AreWorked (old new : List (List Seat)) : Type 0 where
  pub len : length new ≡ length old
  pub each : (w : ℕ) → w < length old → AllWorked (hand old w) (hand new w)

-- hands that come back from work are hands for as many seats
abbrev pub HandsComeBack : Type 0
HandsComeBack =
    (threads seats : ℕ) (old new : List (List Seat))
    → AreHands threads seats old → AreWorked old new → AreHands threads seats new

-- seats that were dealt, worked on in their hands and collected again were worked on
abbrev pub SeatsAreWorked : Type 0
SeatsAreWorked =
    (threads : ℕ) (old new : List Seat) (old_hands new_hands : List (List Seat))
    → AreDealt threads old old_hands → AreWorked old_hands new_hands
    → AreDealt threads new new_hands
    → AllWorked old new
