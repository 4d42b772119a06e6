-- What is left after a round fits the ways.
use Rattle.std.proofs.Common.{ℕ, ◌^◌, ◌<◌, ◌≤◌, List, length, arith}
use Rattle.std.proofs.lemmas.List.Elements.{All-weaker}
use Rattle.block_events.specs.States.{way_at}
use Rattle.block_events.specs.Soundness.{Belongs, direction_of}
use Rattle.block_events.proofs.Local.{belongs_direction}
use Rattle.block_net.specs.Views.{CellsView}
use Rattle.block_net.specs.Whole.{Whole}
use Rattle.block_state.specs.AllWays.{HasRooms}
use Rattle.cut_in_blocks.specs.Rounds.{Ways, IsRoundOfTurns, state_after}
use Rattle.cut_in_blocks.proofs.Quiet.{round_is_held}
use Rattle.block_rings.specs.Left.{AreFitting}

pub round_fits : (w : Whole) (got : ℕ) (blocks : List CellsView) (left : Ways) (steps : ℕ → ℕ) (rooms : List (List ℕ)) → HasRooms w.net (length w.blocks) rooms
    → IsRoundOfTurns w got blocks left steps → AreFitting (length w.blocks) rooms left
round_fits w got blocks left steps rooms has round =
    let s = state_after w blocks left in
    let held = round_is_held w got blocks left steps rooms has round in
    let low : length w.net.arcs ≤ 2 ^ 31 = round.laid.arcs in
    record {
      room = held.1;
      arcs = λ b c lb lc apart.
          All-weaker (Belongs s.net s.blocks s.lanes s.labels b c) (λ m. (direction_of m).arc < 2 ^ 32)
          (λ m belongs. let d = belongs_direction s.net s.blocks s.lanes s.labels b c m belongs in omega (arith, d, low)) (way_at left b c) (round.sound.messages.belong b c);
    }
