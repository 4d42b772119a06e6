-- The two ends of a ring, and what goes through it in a round.
use Rattle.std.specs.Prelude.{◌≡◌, ℕ, ◌+◌, ◌-◌, ◌^◌, ◌<◌, ◌≤◌, min, List, [], ◌∷◌, ◌++◌, drop}
use Rattle.std.specs.Prelude.{Option, slice_get}
use mathlib.Core.List.{IsPrefix}
use Rattle.rtrb.specs.Ring.{sent, received, known_free, known_items, producer_capacity, IsPair}
use Rattle.rtrb.specs.Ring.{SameProducer, SameConsumer}
use Rattle.block_discharge.specs.declared.letter.Letter.{Letter}
use Rattle.block_workers.specs.declared.ring_end.Inlet.{Inlet}
use Rattle.block_workers.specs.declared.ring_end.Outlet.{Outlet}

-- all letters that were put in this round so far, in order
abbrev pub letters_in : Inlet → List Letter
letters_in e = drop e.before (sent e.ring)

-- all letters that were taken in this round so far, in order
abbrev pub letters_out : Outlet → List Letter
letters_out e = drop e.before (received e.ring)

-- for how many letters room was seen, of those that can be counted
abbrev pub room_seen : Inlet → ℕ
room_seen e = min (known_free e.ring) (2 ^ 64 - 1 - e.count)

-- the letters that were seen, in the order in which they are to be taken
abbrev pub letters_seen : Outlet → List Letter
letters_seen e = known_items e.ring

-- the letter that is to be taken next, where one was seen
abbrev pub first_seen : Outlet → Option Letter
first_seen e = slice_get (letters_seen e) 0

-- how many letters the ring has room for
abbrev pub inlet_room : Inlet → ℕ
inlet_room e = producer_capacity e.ring

-- the two ends are those of one ring, and of the same round
abbrev pub AreOfRing : Inlet → Outlet → Type 0
AreOfRing inlet outlet = IsPair inlet.ring outlet.ring × (outlet.before ≡ inlet.before)

-- the end is that of the same ring, in the same round
abbrev pub IsSameInlet : Inlet → Inlet → Type 0
IsSameInlet old new = SameProducer old.ring new.ring × (new.before ≡ old.before)

abbrev pub IsSameOutlet : Outlet → Outlet → Type 0
IsSameOutlet old new = SameConsumer old.ring new.ring × (new.before ≡ old.before)

-- the end is that of the same ring, in whatever round
abbrev pub IsInletAgain : Inlet → Inlet → Type 0
IsInletAgain old new = SameProducer old.ring new.ring

abbrev pub IsOutletAgain : Outlet → Outlet → Type 0
IsOutletAgain old new = SameConsumer old.ring new.ring

-- nothing was put or taken in this round so far, and nothing is there to be taken
pub record IsEmptyRing (places : ℕ) (inlet : Inlet) (outlet : Outlet) : Type 0 where
  pub room : inlet_room inlet ≡ places
  pub put : letters_in inlet ≡ []
  pub taken : letters_out outlet ≡ []
  pub free : room_seen inlet ≡ places
  pub seen : letters_seen outlet ≡ []

-- the ring can serve a further round: what was put was taken, it has room for so many letters, and
-- so many more can be counted
pub record CanServe (places : ℕ) (inlet : Inlet) (outlet : Outlet) : Type 0 where
  pub empty : letters_in inlet ≡ letters_out outlet
  pub room : inlet_room inlet ≡ places
  pub few : inlet.count + places < 2 ^ 64

-- nothing was put, and room that was seen is still there
pub record LooksIn (old new : Inlet) : Type 0 where
  pub same : IsSameInlet old new
  pub put : letters_in new ≡ letters_in old
  pub free : room_seen old ≤ room_seen new

-- nothing was taken, and what was seen is still there
pub record LooksOut (old new : Outlet) : Type 0 where
  pub same : IsSameOutlet old new
  pub taken : letters_out new ≡ letters_out old
  pub seen : IsPrefix (letters_seen old) (letters_seen new)

-- one letter was put
pub record PutsIn (letter : Letter) (old new : Inlet) : Type 0 where
  pub same : IsSameInlet old new
  pub put : letters_in new ≡ letters_in old ++ letter ∷ []
  pub free : room_seen old ≡ room_seen new + 1

-- one letter was taken
pub record TakesOut (letter : Letter) (old new : Outlet) : Type 0 where
  pub same : IsSameOutlet old new
  pub taken : letters_out new ≡ letters_out old ++ letter ∷ []
  pub seen : letters_seen old ≡ letter ∷ letters_seen new
