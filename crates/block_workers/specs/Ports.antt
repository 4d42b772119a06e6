-- What a port shows, and what its calls do.
use Rattle.std.specs.Prelude.{◌≡◌, ℕ, ◌+◌, ◌≤◌, List, [], ◌∷◌, ◌++◌, Option, slice_get}
use mathlib.Core.List.{IsPrefix}
use Rattle.block_discharge.specs.declared.letter.Letter.{Letter}
use Rattle.block_workers.specs.declared.port.Port.{Port}
use Rattle.block_workers.specs.RingEnds.{letters_in, letters_out, letters_seen, room_seen}
use Rattle.block_workers.specs.RingEnds.{inlet_room, AreOfRing, CanServe, IsSameInlet, IsSameOutlet}
use Rattle.block_workers.specs.RingEnds.{IsInletAgain, IsOutletAgain}

-- the block at the other ends
abbrev pub other : Port → ℕ
other p = p.other

-- all letters that were put in this round so far, in order
abbrev pub letters_put : Port → List Letter
letters_put p = letters_in p.to_ring

-- all letters that were taken in this round so far, in order
abbrev pub letters_taken : Port → List Letter
letters_taken p = letters_out p.from_ring

-- for how many letters room was seen
abbrev pub free : Port → ℕ
free p = room_seen p.to_ring

-- the letters that were seen, in the order in which they are to be taken
abbrev pub letters_waiting : Port → List Letter
letters_waiting p = letters_seen p.from_ring

-- the letter that is to be taken next, where one was seen
abbrev pub first : Port → Option Letter
first p = slice_get (letters_waiting p) 0

-- how many letters the ring that is put into has room for
abbrev pub capacity : Port → ℕ
capacity p = inlet_room p.to_ring

-- what the one puts the other takes
abbrev pub LeadsTo : Port → Port → Type 0
LeadsTo p q = AreOfRing p.to_ring q.from_ring

-- the ring from the one to the other can serve a further round: what was put was taken, it has room
-- for so many letters, and so many more can be counted
abbrev pub CanServeRound : ℕ → Port → Port → Type 0
CanServeRound ring p q = CanServe ring p.to_ring q.from_ring

-- the ends are those of the same rings, to the same block, in the same round
pub record IsSamePort (old new : Port) : Type 0 where
  pub to_ring : IsSameInlet old.to_ring new.to_ring
  pub from_ring : IsSameOutlet old.from_ring new.from_ring
  pub other : other new ≡ other old

-- the ends are those of the same rings, to the same block, in whatever round
pub record IsPortAgain (old new : Port) : Type 0 where
  pub to_ring : IsInletAgain old.to_ring new.to_ring
  pub from_ring : IsOutletAgain old.from_ring new.from_ring
  pub other : other new ≡ other old

-- nothing was put or taken in this round so far, and nothing is there to be taken
pub record IsNewPort (block ring : ℕ) (p : Port) : Type 0 where
  pub other : other p ≡ block
  pub capacity : capacity p ≡ ring
  pub put : letters_put p ≡ []
  pub taken : letters_taken p ≡ []
  pub free : free p ≡ ring
  pub waiting : letters_waiting p ≡ []

-- nothing was put or taken, and what was seen is still there
pub record Looks (old new : Port) : Type 0 where
  pub same : IsSamePort old new
  pub put : letters_put new ≡ letters_put old
  pub taken : letters_taken new ≡ letters_taken old
  pub free : free old ≤ free new
  pub waiting : IsPrefix (letters_waiting old) (letters_waiting new)

-- one letter was put
pub record PutsLetter (letter : Letter) (old new : Port) : Type 0 where
  pub same : IsSamePort old new
  pub put : letters_put new ≡ letters_put old ++ letter ∷ []
  pub taken : letters_taken new ≡ letters_taken old
  pub free : free old ≡ free new + 1
  pub waiting : letters_waiting new ≡ letters_waiting old

-- one letter was taken
pub record TakesLetter (letter : Letter) (old new : Port) : Type 0 where
  pub same : IsSamePort old new
  pub put : letters_put new ≡ letters_put old
  pub taken : letters_taken new ≡ letters_taken old ++ letter ∷ []
  pub free : free new ≡ free old
  pub waiting : letters_waiting old ≡ letter ∷ letters_waiting new

-- these letters were taken, one after another
pub record TakesAll (letters : List Letter) (old new : Port) : Type 0 where
  pub same : IsSamePort old new
  pub put : letters_put new ≡ letters_put old
  pub taken : letters_taken new ≡ letters_taken old ++ letters
