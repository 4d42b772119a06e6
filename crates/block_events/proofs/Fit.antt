-- What a block can see alone of a sound state, and each event of a worker keeps it.
use Rattle.std.proofs.Common.{◌≡◌, ℕ, ◌+◌, ◌-◌, ◌<◌, ◌≤◌, true, false, cond, eqb, max, List, [], ◌∷◌, ◌++◌, length, set, slice_index, sum, Some, None, Option, refl, sym, ◌∙◌, ap, inl, inr, ◌⊎◌, arith}
use Rattle.std.specs.Option.{is_some}
use Rattle.std.proofs.lemmas.List.{length-set}
use Rattle.sums.specs.Sums.{count_if}
use Rattle.flow_network.specs.Cut.{nodes}
use Rattle.flow_network.specs.Preflow.{arc_at}
use Rattle.flow_network.specs.Progress.{top}
use Rattle.block_events.specs.declared.direction.Direction.{Direction}
use Rattle.block_events.specs.declared.flight.Flight.{Flight}
use Rattle.block_events.specs.declared.message.Message.{Message}
use Rattle.block_events.specs.declared.message.Message.TheVariants.{Parcel, Accepted, Refused}
use Rattle.block_events.specs.Directions.{opposite, forward, backward, IsDirection, near, far, sum_leaving}
use Rattle.block_events.specs.States.{State, Lane, lane_at, put_lane, way_at, over_messages, excess_of, label_of, room_of, flight_of, residual_of, known_of, near_block, far_block, is_border, seen_label}
use Rattle.block_events.specs.Effects.{lane_after_accept}
use Rattle.block_events.specs.Events.{after_push, after_sink_push, after_relabel, after_send, after_accept, after_refuse, after_settle, highest_label}
use Rattle.block_events.specs.Soundness.{IsSized, IsSound, HasMessages, carries, carries_on, first_residual}
use Rattle.block_events.proofs.Lanes.{long_put, near_opposite, far_opposite, border_opposite}
use Rattle.block_events.proofs.Ways.{square_put, square_answered}
use Rattle.block_events.proofs.Local.{counted_none, set_less, set_more, set_rises, sum_less, each_lane, leaving_changed, long}
use Rattle.block_events.proofs.Ends.{near_in, far_in}
use Rattle.block_events.proofs.Allowed.{IsAllowed, label_at, highest-le-top, highest-le-one, highest-le-seen, open_residual, seen_rises, cases_flight, open_flight}

pub record IsFit (s : State) : Type 0 where
  pub sized : IsSized s
  pub got : s.got + sum s.rooms ≡ sum s.net.sinks
  pub rooms : (v : ℕ) → v < nodes s.net → room_of s v ≤ slice_index s.net.sinks v
  pub balance : (v : ℕ) → v < nodes s.net
      → excess_of s v + slice_index s.net.sinks v + sum_leaving s.net v (first_residual s.net)
      ≡ slice_index s.net.sources v + room_of s v + sum_leaving s.net v (residual_of s)
  pub top : (v : ℕ) → v < nodes s.net → label_of s v ≤ top s.net
  pub sink : (v : ℕ) → v < nodes s.net → 0 < room_of s v → label_of s v ≤ 1
  pub steep : (x : Direction) → IsDirection s.net x → 0 < residual_of s x → label_of s (near s.net x) ≤ seen_label s x + 1
  pub flights : (x : Direction) → IsDirection s.net x → (f : Flight) → flight_of s x ≡ Some f
      → (is_border s.net s.blocks x ≡ true) × (label_of s (near s.net x) ≡ known_of s x + 1) × (label_of s (near s.net x) ≡ f.label)

pub sound_fit : (s : State) → IsSound s → IsFit s
sound_fit s sound = record {
  sized = sound.sized;
  got = sound.flow.got;
  rooms = sound.flow.rooms;
  balance = sound.flow.balance;
  top = sound.labels.top;
  sink = sound.labels.sink;
  steep = sound.labels.steep;
  flights = sound.flights;
}

-- what is left of a sound state: what its blocks and its ways hold together
pub record IsJoint (s : State) : Type 0 where
  pub arcs : (k : ℕ) → k < length s.net.arcs
      → residual_of s (forward k) + residual_of s (backward k) + over_messages (carries_on k) s.ways ≡ (arc_at s.net k).capacity
  pub total : sum s.excess + over_messages carries s.ways + s.got ≡ sum s.net.sources
  pub known : (x : Direction) → IsDirection s.net x → is_border s.net s.blocks x ≡ true → known_of s x ≤ label_of s (far s.net x)
  pub messages : HasMessages s

pub fit_sound : (s : State) → IsFit s → IsJoint s → IsSound s
fit_sound s fit joint = record {
  sized = fit.sized;
  flow = record { arcs = joint.arcs; total = joint.total; got = fit.got; rooms = fit.rooms; balance = fit.balance };
  labels = record { top = fit.top; sink = fit.sink; steep = fit.steep; known = joint.known };
  flights = fit.flights;
  messages = joint.messages;
}

abbrev pub Steep : State → Direction → Lane → Type 0
Steep s y l = 0 < l.residual → label_of s (near s.net y) ≤ cond (is_border s.net s.blocks y) l.known (label_of s (far s.net y)) + 1

abbrev pub Known : State → Direction → Lane → Type 0
Known s y l = is_border s.net s.blocks y ≡ true → l.known ≤ label_of s (far s.net y)

abbrev pub Level : State → Direction → Lane → Type 0
Level s y l = (f : Flight) → l.flight ≡ Some f → (is_border s.net s.blocks y ≡ true) × (label_of s (near s.net y) ≡ l.known + 1) × (label_of s (near s.net y) ≡ f.label)

-- ---- within a block

pub pushed_fit : (s : State) (x : Direction) (a : ℕ) → IsFit s → IsDirection s.net x → is_border s.net s.blocks x ≡ false
    → a ≤ excess_of s (near s.net x) → a ≤ residual_of s x → label_of s (far s.net x) ≤ label_of s (near s.net x) + 1
    → IsFit (after_push s x a)
pushed_fit s x a fit lx inner enough fits level =
    let v = near s.net x in
    let w = far s.net x in
    let opp = opposite x in
    let arcs = length s.net.arcs in
    let lv : v < length s.excess = omega (arith, near_in s.net x fit.sized.net lx, fit.sized.excess) in
    let less = set s.excess v (excess_of s v - a) in
    let len : length less ≡ length s.excess = length-set s.excess v (excess_of s v - a) in
    let lw : w < length less = omega (arith, far_in s.net x fit.sized.net lx, fit.sized.excess, len) in
    let lane : Lane = record (lane_at s.lanes x) { residual = residual_of s x - a } in
    let taken = put_lane s.lanes x lane in
    let back : Lane = record (lane_at taken opp) { residual = (lane_at taken opp).residual + a } in
    let lng = long s fit.sized in
    let lng1 = long_put arcs s.lanes x lane lng in
    let lng2 = long_put arcs taken opp back lng1 in
    let near_is : near s.net opp ≡ w = near_opposite s.net x in
    let far_is : far s.net opp ≡ v = far_opposite s.net x in
    let label_near = ap (label_of s) near_is in
    let label_far = ap (label_of s) far_is in
    let inner' : is_border s.net s.blocks opp ≡ false = border_opposite s.net s.blocks x ∙ inner in
    let steep = each_lane arcs s.lanes x lane (Steep s) lng lx (λ y off ly. fit.steep y ly) (λ left. fit.steep x lx (omega (arith, left))) in
    let flights = each_lane arcs s.lanes x lane (Level s) lng lx (λ y off ly. fit.flights y ly) (fit.flights x lx) in
    record {
      sized = record {
        net = fit.sized.net;
        excess = length-set less w (slice_index less w + a) ∙ (len ∙ fit.sized.excess);
        labels = fit.sized.labels;
        rooms = fit.sized.rooms;
        forth = lng2.forth;
        back = lng2.back;
        blocks = fit.sized.blocks;
        ways = fit.sized.ways;
      };
      got = fit.got;
      rooms = fit.rooms;
      balance = λ u lu.
          let turn = ap (λ q. count_if (eqb q u) a) near_is in
          omega (
            arith,
            fit.balance u lu,
            set_less s.excess v a u lv enough,
            set_more less w a u lw,
            turn,
            leaving_changed s.net s.lanes x lane a 0 u lng lx (omega arith),
            leaving_changed s.net taken opp back 0 a u lng1 lx (omega arith),
            counted_none (eqb v u),
            counted_none (eqb (near s.net opp) u),
          );
      top = fit.top;
      sink = fit.sink;
      steep = each_lane arcs taken opp back (Steep s) lng1 lx (λ y off ly. steep y ly) (λ some. rw inner' (omega (arith, label_near, label_far, level)));
      flights = each_lane arcs taken opp back (Level s) lng1 lx (λ y off ly. flights y ly) (flights opp lx);
    }

pub given_fit : (s : State) (v a : ℕ) → IsFit s → v < nodes s.net → a ≤ excess_of s v → a ≤ room_of s v → IsFit (after_sink_push s v a)
given_fit s v a fit lv enough fits =
    let le : v < length s.excess = omega (arith, lv, fit.sized.excess) in
    let lr : v < length s.rooms = omega (arith, lv, fit.sized.rooms) in
    let room_at = λ (u : ℕ). set_less s.rooms v a u lr fits in
    record {
      sized = record {
        net = fit.sized.net;
        excess = length-set s.excess v (excess_of s v - a) ∙ fit.sized.excess;
        labels = fit.sized.labels;
        rooms = length-set s.rooms v (room_of s v - a) ∙ fit.sized.rooms;
        forth = fit.sized.forth;
        back = fit.sized.back;
        blocks = fit.sized.blocks;
        ways = fit.sized.ways;
      };
      got = omega (arith, fit.got, sum_less s.rooms v a lr fits);
      rooms = λ u lu. omega (arith, fit.rooms u lu, room_at u);
      balance = λ u lu. omega (arith, fit.balance u lu, set_less s.excess v a u le enough, room_at u);
      top = fit.top;
      sink = λ u lu some. fit.sink u lu (omega (arith, some, room_at u));
      steep = fit.steep;
      flights = fit.flights;
    }

pub relabelled_fit : (s : State) (v d : ℕ) → IsFit s → IsAllowed s v d → IsFit (after_relabel s v d)
relabelled_fit s v d fit may =
    let l : v < length s.labels = omega (arith, may.node, fit.sized.labels) in
    let labels = set s.labels v d in
    let up = λ (u : ℕ). set_rises s.labels v d u l (omega (arith, may.rises)) in
    record {
      sized = record {
        net = fit.sized.net;
        excess = fit.sized.excess;
        labels = length-set s.labels v d ∙ fit.sized.labels;
        rooms = fit.sized.rooms;
        forth = fit.sized.forth;
        back = fit.sized.back;
        blocks = fit.sized.blocks;
        ways = fit.sized.ways;
      };
      got = fit.got;
      rooms = fit.rooms;
      balance = fit.balance;
      top = λ u lu. elim (label_at s v d u l) [
        | inl here ↦ omega (arith, here.1, may.top)
        | inr other ↦ omega (arith, other.1, fit.top u lu)
      ];
      sink = λ u lu some. elim (label_at s v d u l) [
        | inl here ↦ let room = ap (room_of s) here.0 in let low = may.sink (omega (arith, room, some)) in omega (arith, here.1, low)
        | inr other ↦ omega (arith, other.1, fit.sink u lu some)
      ];
      steep = λ y ly some. let seen' = seen_rises s labels y up in elim (label_at s v d (near s.net y) l) [
        | inl here ↦ omega (arith, here.1, may.steep y ly here.0 some, seen')
        | inr other ↦ omega (arith, other.1, fit.steep y ly some, seen')
      ];
      flights = λ y ly f h. elim (label_at s v d (near s.net y) l) [
        | inl here ↦ let none = may.idle y ly here.0 in absurd (cc)
        | inr other ↦ let at = fit.flights y ly f h in (at.0, other.1 ∙ at.1, other.1 ∙ at.2)
      ];
    }

-- a direction in flight holds the label of its near end
pub fit_allowed : (s : State) (v : ℕ) → IsFit s → v < nodes s.net → label_of s v < highest_label s v → IsAllowed s v (highest_label s v)
fit_allowed s v fit lv rises = record {
  node = lv;
  rises = rises;
  top = highest-le-top s v;
  sink = highest-le-one s v;
  steep = λ x lx at_v some. highest-le-seen s v x lx at_v (open_residual s x some);
  idle = λ x lx at_v. elim (cases_flight (flight_of s x)) [
    | inl none ↦ none
    | inr (f, is) ↦
        let at = fit.flights x lx f is in
        let low = highest-le-seen s v x lx at_v (open_flight s x f at.0 is) in
        let seen_is : seen_label s x ≡ known_of s x = rw at.0 refl in
        let label = ap (label_of s) at_v in
        absurd (omega (arith, low, seen_is, label, at.1, rises))
  ];
}

-- ---- with messages

pub flight_label : (d a : ℕ) (f : Flight) → Some (record { amount = a; label = d }) ≡ Some f → d ≡ f.label
flight_label d a f h = let e : record { amount = a; label = d } ≡ f = cc in ap (λ (q : Flight). q.label) e

pub sent_fit : (s : State) (x : Direction) (a : ℕ) → IsFit s → IsDirection s.net x → is_border s.net s.blocks x ≡ true
    → a ≤ excess_of s (near s.net x) → a ≤ residual_of s x → label_of s (near s.net x) ≡ known_of s x + 1
    → IsFit (after_send s x a)
sent_fit s x a fit lx border enough fits level =
    let v = near s.net x in
    let d = label_of s v in
    let b = near_block s.net s.blocks x in
    let c = far_block s.net s.blocks x in
    let m : Message = Parcel x a d in
    let arcs = length s.net.arcs in
    let lv : v < length s.excess = omega (arith, near_in s.net x fit.sized.net lx, fit.sized.excess) in
    let lane : Lane = record (lane_at s.lanes x) { residual = residual_of s x - a; flight = Some (record { amount = a; label = d }) } in
    let lng = long s fit.sized in
    let long' = long_put arcs s.lanes x lane lng in
    record {
      sized = record {
        net = fit.sized.net;
        excess = length-set s.excess v (excess_of s v - a) ∙ fit.sized.excess;
        labels = fit.sized.labels;
        rooms = fit.sized.rooms;
        forth = long'.forth;
        back = long'.back;
        blocks = fit.sized.blocks;
        ways = square_put s.blocks s.ways b c (way_at s.ways b c ++ m ∷ []) fit.sized.ways;
      };
      got = fit.got;
      rooms = fit.rooms;
      balance = λ u lu. omega (arith, fit.balance u lu, set_less s.excess v a u lv enough, leaving_changed s.net s.lanes x lane a 0 u lng lx (omega arith), counted_none (eqb v u));
      top = fit.top;
      sink = fit.sink;
      steep = each_lane arcs s.lanes x lane (Steep s) lng lx (λ y off ly. fit.steep y ly) (λ some. rw border (omega (arith, level)));
      flights = each_lane arcs s.lanes x lane (Level s) lng lx (λ y off ly. fit.flights y ly) (λ f h. (border, level, flight_label d a f h));
    }

pub learned_at : (f : Option Flight) (k d : ℕ) → ((f ≡ None) × (cond (is_some f) k (max k d) ≡ max k d)) ⊎ ((g : Flight) × (f ≡ Some g) × (cond (is_some f) k (max k d) ≡ k))
learned_at None k d = inl (refl, refl)
learned_at (Some g) k d = inr (g, refl, refl)

pub accepted_fit : (s : State) (c b : ℕ) (x : Direction) (a d : ℕ) (rest : List Message) → IsFit s → IsDirection s.net x → is_border s.net s.blocks x ≡ true
    → label_of s (far s.net x) + 1 ≡ d → IsFit (after_accept s c b (Parcel x a d ∷ rest))
accepted_fit s c b x a d rest fit lx is_border' level =
    let reply : Message = Accepted x a in
    let arcs = length s.net.arcs in
    let opp = opposite x in
    let old = lane_at s.lanes opp in
    let lane = lane_after_accept old a d in
    let lng = long s fit.sized in
    let w = far s.net x in
    let lw : w < length s.excess = omega (arith, far_in s.net x fit.sized.net lx, fit.sized.excess) in
    let near_is : near s.net opp ≡ w = near_opposite s.net x in
    let border : is_border s.net s.blocks opp ≡ true = border_opposite s.net s.blocks x ∙ is_border' in
    let label_near = ap (label_of s) near_is in
    let cases = learned_at old.flight old.known d in
    let long' = long_put arcs s.lanes opp lane lng in
    record {
      sized = record {
        net = fit.sized.net;
        excess = length-set s.excess w (excess_of s w + a) ∙ fit.sized.excess;
        labels = fit.sized.labels;
        rooms = fit.sized.rooms;
        forth = long'.forth;
        back = long'.back;
        blocks = fit.sized.blocks;
        ways = square_answered s.blocks s.ways c b rest reply fit.sized.ways;
      };
      got = fit.got;
      rooms = fit.rooms;
      balance = λ u lu.
          let turn = ap (λ q. count_if (eqb q u) a) near_is in
          omega (arith, fit.balance u lu, set_more s.excess w a u lw, leaving_changed s.net s.lanes opp lane 0 a u lng lx (omega arith), counted_none (eqb (near s.net opp) u), turn);
      top = fit.top;
      sink = fit.sink;
      steep = each_lane arcs s.lanes opp lane (Steep s) lng lx
          (λ y off ly. fit.steep y ly)
          (λ some. rw border (elim cases [
            | inl none ↦ omega (arith, none.1, label_near, level)
            | inr (g, is, kept) ↦ let at = fit.flights opp lx g is in omega (arith, kept, at.1)
          ]));
      flights = each_lane arcs s.lanes opp lane (Level s) lng lx
          (λ y off ly. fit.flights y ly)
          (λ f h. elim cases [
            | inl none ↦ let clash : None ≡ Some f = sym none.0 ∙ h in absurd (cc)
            | inr (g, is, kept) ↦ let at = fit.flights opp lx f h in (at.0, omega (arith, kept, at.1), at.2)
          ]);
    }

pub refused_fit : (s : State) (c b : ℕ) (x : Direction) (a d : ℕ) (rest : List Message) → IsFit s → IsFit (after_refuse s c b (Parcel x a d ∷ rest))
refused_fit s c b x a d rest fit = record {
  sized = record {
    net = fit.sized.net;
    excess = fit.sized.excess;
    labels = fit.sized.labels;
    rooms = fit.sized.rooms;
    forth = fit.sized.forth;
    back = fit.sized.back;
    blocks = fit.sized.blocks;
    ways = square_answered s.blocks s.ways c b rest (Refused x a d (label_of s (far s.net x))) fit.sized.ways;
  };
  got = fit.got;
  rooms = fit.rooms;
  balance = fit.balance;
  top = fit.top;
  sink = fit.sink;
  steep = fit.steep;
  flights = fit.flights;
}

pub taken_fit : (s : State) (c b : ℕ) (x : Direction) (a : ℕ) (rest : List Message) → IsFit s → IsDirection s.net x → IsFit (after_settle s c b (Accepted x a ∷ rest))
taken_fit s c b x a rest fit lx =
    let arcs = length s.net.arcs in
    let lane : Lane = record (lane_at s.lanes x) { flight = None } in
    let lng = long s fit.sized in
    let long' = long_put arcs s.lanes x lane lng in
    record {
      sized = record {
        net = fit.sized.net;
        excess = fit.sized.excess;
        labels = fit.sized.labels;
        rooms = fit.sized.rooms;
        forth = long'.forth;
        back = long'.back;
        blocks = fit.sized.blocks;
        ways = square_put s.blocks s.ways c b rest fit.sized.ways;
      };
      got = fit.got;
      rooms = fit.rooms;
      balance = λ u lu. omega (arith, fit.balance u lu, leaving_changed s.net s.lanes x lane 0 0 u lng lx (omega arith));
      top = fit.top;
      sink = fit.sink;
      steep = each_lane arcs s.lanes x lane (Steep s) lng lx (λ y off ly. fit.steep y ly) (fit.steep x lx);
      flights = each_lane arcs s.lanes x lane (Level s) lng lx (λ y off ly. fit.flights y ly) (λ f h. absurd (cc));
    }

pub returned_fit : (s : State) (c b : ℕ) (x : Direction) (a d told : ℕ) (rest : List Message) → IsFit s → IsDirection s.net x
    → flight_of s x ≡ Some (record { amount = a; label = d }) → d ≤ told → IsFit (after_settle s c b (Refused x a d told ∷ rest))
returned_fit s c b x a d told rest fit lx out high =
    let arcs = length s.net.arcs in
    let v = near s.net x in
    let lv : v < length s.excess = omega (arith, near_in s.net x fit.sized.net lx, fit.sized.excess) in
    let lane : Lane = record { residual = residual_of s x + a; known = told; flight = None } in
    let lng = long s fit.sized in
    let at_x = fit.flights x lx (record { amount = a; label = d }) out in
    let long' = long_put arcs s.lanes x lane lng in
    record {
      sized = record {
        net = fit.sized.net;
        excess = length-set s.excess v (excess_of s v + a) ∙ fit.sized.excess;
        labels = fit.sized.labels;
        rooms = fit.sized.rooms;
        forth = long'.forth;
        back = long'.back;
        blocks = fit.sized.blocks;
        ways = square_put s.blocks s.ways c b rest fit.sized.ways;
      };
      got = fit.got;
      rooms = fit.rooms;
      balance = λ u lu. omega (arith, fit.balance u lu, set_more s.excess v a u lv, leaving_changed s.net s.lanes x lane 0 a u lng lx (omega arith), counted_none (eqb v u));
      top = fit.top;
      sink = fit.sink;
      steep = each_lane arcs s.lanes x lane (Steep s) lng lx (λ y off ly. fit.steep y ly) (λ some. rw at_x.0 (omega (arith, at_x.2, high)));
      flights = each_lane arcs s.lanes x lane (Level s) lng lx (λ y off ly. fit.flights y ly) (λ f h. absurd (cc));
    }
