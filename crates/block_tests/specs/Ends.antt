-- What a block sees of ends that hold one letter each way.
use Rattle.std.specs.Prelude.{ℕ, Bool, true, false, cond, ◌==◌, List, [], ◌∷◌, Option, Some, None}
use Rattle.parcel.specs.Types.{Message, Letter}
use Rattle.parcel.specs.Seen.{WaysView}

-- by block: the message of the letter for or from block c, if there is one
abbrev pub log_of : ℕ → Option Letter → ℕ → List Message
log_of c None x = []
log_of c (Some l) x = cond (x == c) (l.message ∷ []) []

-- there is room until a letter is put
abbrev pub has_room : Option Letter → Bool
has_room None = true
has_room (Some l) = false

-- the letter that came stands in front until one is taken
abbrev pub front_of : Option Letter → Option Letter → Option Letter
front_of came None = came
front_of came (Some l) = None

-- by the letter that came, the one that was put for a block, and the one that was taken from a
-- block
abbrev pub seen_of : Option Letter → ℕ → Option Letter → ℕ → Option Letter → WaysView
seen_of came put_for put taken_from taken = record {
  sent = log_of put_for put;
  taken = log_of taken_from taken;
  room = λ _. has_room put;
  front = λ _. front_of came taken;
}
