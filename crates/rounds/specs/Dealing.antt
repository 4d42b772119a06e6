-- Cards dealt one after another to hands in turn.
use Rattle.std.specs.Prelude.{◌≡◌, ℕ, ◌+◌, ◌*◌, ◌<◌, ◌↔◌, List, [], length, slice_index_or}

-- the cards of hand w
abbrev pub hand : {X : Type 0} → List (List X) → ℕ → List X
hand hands w = slice_index_or hands w []

-- hands for so many cards: hand w has a place q just where there is a card q * threads + w
pub record AreHands {X : Type 0} (threads cards : ℕ) (hands : List (List X)) : Type 0 where
  pub some : 0 < threads
  pub len : length hands ≡ threads
  pub places : (q w : ℕ) → w < threads → q < length (hand hands w) ↔ (q * threads + w < cards)

-- and has that card there
pub record AreDealt {X : Type 0} (threads : ℕ) (cards : List X)
    (hands : List (List X)) : Type 0 where
  pub shape : AreHands threads (length cards) hands
  pub each : (q w : ℕ) (d : X) → w < threads → q * threads + w < length cards
      → slice_index_or (hand hands w) q d ≡ slice_index_or cards (q * threads + w) d
