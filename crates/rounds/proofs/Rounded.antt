-- From the pieces of a quiet state to those after a round.
use Rattle.std.proofs.Common.{◌≡◌, ℕ, ◌<◌, ◌≤◌, List, [], length, refl, sym, ap, subst, arith}
use Rattle.block_events.specs.States.{State, way_at}
use Rattle.block_events.specs.Events.{IsQuiet}
use Rattle.block_events.specs.Soundness.{IsSound, IsSquare}
use Rattle.block_net.specs.Views.{CellsView}
use Rattle.block_net.specs.Whole.{Whole, with_blocks}
use Rattle.block_events.specs.Effects.{state_of}
use Rattle.net_in_blocks.specs.Views.{IsLaid, blocks_in}
use Rattle.block_state.specs.AllWays.{IsHeld}
use Rattle.cut_in_blocks.specs.Rounds.{Ways, AreBack, IsRoundOfTurns, quiet_state, state_after}
use Rattle.cut_in_blocks.proofs.Quiet.{quiet_is_start, round_is_held}
use Rattle.cut_in_blocks.proofs.Rounds.{seats_make_round}
use Rattle.block_rings.specs.Links.{RingsView, sent_in, taken_in, ring_room}
use Rattle.block_rings.specs.Left.{AreLeft, AreFitting, HaveRoomFor}
use Rattle.rounds.specs.Together.{AreBackAfter, HaveRun}
use Rattle.rounds.specs.Short.{IsShortRound, HasFewOnTheWay}
use Rattle.rounds.proofs.Counts.{few_events}
use Rattle.rounds.proofs.Fits.{round_fits}

module _ (turns : ℕ) (w : Whole) (got : ℕ) (ways : Ways) (rooms : List (List ℕ)) (new : List CellsView) (rings : RingsView) (laid : IsLaid w) (held : IsHeld rooms (state_of (blocks_in w) ways got)) (quiet : IsQuiet (state_of (blocks_in w) ways got)) (run : HaveRun turns w.blocks new rings) where
  abbrev old : State
  old = state_of (blocks_in w) ways got

  pub square : IsSquare rings.blocks ways
  square = subst (λ n. IsSquare n ways) (sym run.blocks) held.sound.sized.ways

  pub empty : (b c : ℕ) → b < rings.blocks → c < rings.blocks → way_at ways b c ≡ []
  empty b c lb lc = quiet b c (omega (arith, lb, run.blocks)) (omega (arith, lc, run.blocks))

  start : old ≡ quiet_state w got
  start = quiet_is_start w got ways held.sound quiet

  after : (left : Ways) → AreLeft rings.blocks (sent_in rings) (taken_in rings) left → AreBackAfter run.drawn w got new left
  after left is = run.back w got left refl laid is

  abbrev back : (left : Ways) → AreLeft rings.blocks (sent_in rings) (taken_in rings) left → AreBack w got new left
  back left is = (after left is).back

  rounded : (left : Ways) (is : AreLeft rings.blocks (sent_in rings) (taken_in rings) left) → IsRoundOfTurns w got new left (back left is).steps
  rounded left is = seats_make_round w got new left laid (subst IsSound start held.sound) (back left is)

  pub fits : (left : Ways) → AreLeft rings.blocks (sent_in rings) (taken_in rings) left → AreFitting rings.blocks rooms left
  fits left is = subst (λ n. AreFitting n rooms left) (sym run.blocks) (round_fits w got new left (back left is).steps rooms held.room (rounded left is))

  pub laid_after : (left : Ways) → AreLeft rings.blocks (sent_in rings) (taken_in rings) left → IsLaid (with_blocks w new)
  laid_after left is = (rounded left is).laid

  -- with the rooms that the ways have then
  pub held_after : (left : Ways) (kept : List (List ℕ)) → AreLeft rings.blocks (sent_in rings) (taken_in rings) left → kept ≡ rooms → IsHeld kept (state_after w new left)
  held_after left kept is same =
      subst (λ r. IsHeld r (state_after w new left)) (sym same) (round_is_held w got new left (back left is).steps rooms held.room (rounded left is)).0

  short : (left : Ways) → AreLeft rings.blocks (sent_in rings) (taken_in rings) left → IsShortRound turns (quiet_state w got) (state_after w new left)
  short left is =
      let round = rounded left is in
      record {
        round = round.round;
        few = λ m small.
            few_events w got turns m run.drawn (back left is).steps round.round.histories laid small round.round.count round.numbers (after left is).few run.few;
      }

  -- to the state that is put together
  pub round_after : (left : Ways) (t : State) → AreLeft rings.blocks (sent_in rings) (taken_in rings) left → t ≡ state_after w new left → IsShortRound turns old t
  round_after left t is same =
      subst (λ u. IsShortRound turns old u) (sym same) (subst (λ s. IsShortRound turns s (state_after w new left)) (sym start) (short left is))

  -- no more is on the way than the rings had room for
  pub few_after : (ring : ℕ) (left : Ways) (t : State) → AreLeft rings.blocks (sent_in rings) (taken_in rings) left → t ≡ state_after w new left
      → ((b c : ℕ) → ring_room rings b c ≤ ring) → HaveRoomFor rings.blocks (ring_room rings) left → HasFewOnTheWay ring t
  few_after ring left t is same low few b c lb lc =
      let many = (round_after left t is same).round.joined.blocks in
      let here = few b c (omega (arith, lb, many, run.blocks)) (omega (arith, lc, many, run.blocks)) in
      let most = low b c in
      let ways = ap (λ (s : State). length (way_at s.ways b c)) same in
      omega (arith, here, most, ways)
