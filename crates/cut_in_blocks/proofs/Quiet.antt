-- A sound and quiet state of blocks is one before a round, and the state after it is held.
use Rattle.std.proofs.Common.{◌≡◌, ◌≢◌, ℕ, ◌<◌, ◌≤◌, List, length, ap, sym, subst, arith}
use Rattle.block_events.specs.Events.{IsQuiet}
use Rattle.block_events.specs.States.{way_at}
use Rattle.block_events.specs.Soundness.{IsSound, room_between}
use Rattle.block_events.proofs.Fitting.{way_fits}
use Rattle.block_events.proofs.Quiet.{quiet_empty}
use Rattle.block_net.specs.Views.{CellsView}
use Rattle.block_net.specs.Whole.{Whole}
use Rattle.block_state.specs.AllWays.{HasRooms, IsHeld, room_at}
use Rattle.block_events.specs.Effects.{state_of}
use Rattle.net_in_blocks.specs.Views.{blocks_in}
use Rattle.cut_in_blocks.specs.Rounds.{Ways, IsRoundOfTurns, quiet_state, state_after}

pub quiet_is_start : (w : Whole) (got : ℕ) (ways : Ways) → IsSound (state_of (blocks_in w) ways got) → IsQuiet (state_of (blocks_in w) ways got)
    → state_of (blocks_in w) ways got ≡ quiet_state w got
quiet_is_start w got ways sound quiet =
    ap (λ (x : Ways). state_of (blocks_in w) x got) (quiet_empty (state_of (blocks_in w) ways got) sound quiet)

pub round_is_held : (w : Whole) (got : ℕ) (blocks : List CellsView) (left : Ways) (steps : ℕ → ℕ) (rooms : List (List ℕ)) → HasRooms w.net (length w.blocks) rooms
    → IsRoundOfTurns w got blocks left steps
    → IsHeld rooms (state_after w blocks left) × ((b c : ℕ) → b < length w.blocks → c < length w.blocks → b ≢ c → length (way_at left b c) ≤ room_at rooms b c)
round_is_held w got blocks left steps rooms has round =
    let many : length blocks ≡ length w.blocks = round.round.joined.blocks in
    let laid = round.laid in
    let room : HasRooms w.net (length blocks) rooms = subst (λ n. HasRooms w.net n rooms) (sym many) has in (
      record { sound = round.sound; few = laid.few; arcs = laid.arcs; room = room },
      λ b c lb lc apart.
          let fits : length (way_at left b c) ≤ room_between w.net (length blocks) b c =
          way_fits (state_after w blocks left) b c round.sound (omega (arith, lb, many)) (omega (arith, lc, many)) in
          omega (arith, fits, room b c (omega (arith, lb, many)) (omega (arith, lc, many)) apart),
    )
