-- A round keeps a state sound.
use Rattle.std.proofs.Common.{ℕ, sym, subst}
use Rattle.block_events.specs.States.{State}
use Rattle.block_events.specs.Events.{IsQuiet}
use Rattle.block_events.specs.Soundness.{IsSound}
use Rattle.block_events.proofs.Finishing.{arc_full}
use Rattle.block_events.specs.Rounds.{RoundOf}
use Rattle.block_events.proofs.Histories.{IsOwn, own_history}
use Rattle.block_events.proofs.Joining.{IsMet, placed, placed_same, known_met, steep_met, named_met, flights_met}
use Rattle.block_events.proofs.Clauses.{belong_met, order_met}
use Rattle.block_events.proofs.Totals.{arcs_met, balance_met, top_met, sink_met, rooms_met, got_met, total_met}

pub met_of : (old new : State) → IsSound old → IsQuiet old → (r : RoundOf old new) → IsMet old new r.ends
met_of old new sound quiet r = record {
  sized = sound.sized;
  own = λ b lb.
      let own = own_history b old (r.ends b) _ sound quiet (r.led b lb) in
      subst (λ (u : State). IsOwn b old u) (placed_same old (r.ends b) own.net own.blocks) own;
  joined = r.joined;
  square = r.square;
  ways = r.ways;
  known = sound.labels.known;
  arcs = λ k lk. arc_full old k sound quiet lk;
  got = sound.flow.got;
}

-- the state of these parts is sound
pub met_sound : (old new : State) (ends : ℕ → State) → IsMet old new ends → IsSound (placed old new)
met_sound old new ends met = record {
  sized = record {
    net = met.sized.net;
    excess = met.joined.excess_len;
    labels = met.joined.labels_len;
    rooms = met.joined.rooms_len;
    forth = met.joined.forth_len;
    back = met.joined.back_len;
    blocks = met.sized.blocks;
    ways = met.square;
  };
  flow = record {
    arcs = arcs_met old new ends met;
    total = total_met old new ends met;
    got = got_met old new ends met;
    rooms = rooms_met old new ends met;
    balance = balance_met old new ends met;
  };
  labels = record {
    top = top_met old new ends met;
    sink = sink_met old new ends met;
    steep = steep_met old new ends met;
    known = known_met old new ends met;
  };
  flights = flights_met old new ends met;
  messages = record {
    named = named_met old new ends met;
    belong = belong_met old new ends met;
    order = order_met old new ends met;
  };
}

-- whatever the schedule, a round from a sound and quiet state gives back a sound state
pub round_kept : (old new : State) → IsSound old → IsQuiet old → RoundOf old new → IsSound new
round_kept old new sound quiet r =
    let kept = met_sound old new r.ends (met_of old new sound quiet r) in
    subst (λ (u : State). IsSound u) (sym (placed_same old new r.joined.net r.joined.blocks)) kept
