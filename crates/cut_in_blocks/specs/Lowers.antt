-- What a part of the work does to a state.
use Rattle.std.specs.Prelude.{◌≡◌, ◌<◌, ◌≤◌, Bool, true, false}
use Rattle.block_events.specs.States.{State}
use Rattle.block_events.specs.Soundness.{potential}

-- a state of the same net whose count is no higher
pub record IsAfter (old new : State) : Type 0 where
  pub net : new.net ≡ old.net
  pub count : potential new ≤ potential old

-- where anything was done, the count fell; else nothing is changed
pub record Lowers (old new : State) (some : Bool) : Type 0 where
  pub net : new.net ≡ old.net
  pub less : some ≡ true → potential new < potential old
  pub still : some ≡ false → new ≡ old
