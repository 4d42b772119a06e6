-- A parcel that is taken or sent back keeps a state sound.
use Rattle.std.proofs.Common.{◌≡◌, ℕ, ◌+◌, ◌<◌, ◌≤◌, true, eqb, List, [], ◌∷◌, ◌++◌, length, All, Some, refl, sym, ◌∙◌, ap, inl, inr, arith}
use Rattle.std.specs.List.{AllPairs}
use Rattle.std.proofs.lemmas.List.Quantifiers.{all_pairs_push}
use Rattle.flow_network.specs.Cut.{Network}
use Rattle.block_events.specs.declared.direction.Direction.{Direction}
use Rattle.block_events.specs.declared.message.Message.{Message}
use Rattle.block_events.specs.declared.message.Message.TheVariants.{Parcel, Accepted, Refused}
use Rattle.block_events.specs.Directions.{opposite, IsDirection, near, far}
use Rattle.block_events.specs.States.{State, Lanes, lane_at, put_lane, way_at, put_way, over_messages, label_of, flight_of, is_border, IsWay}
use Rattle.block_events.specs.Effects.{lane_after_accept}
use Rattle.block_events.specs.Events.{after_accept, after_refuse}
use Rattle.block_events.specs.Soundness.{IsSound, IsSquare, Belongs, IsBehind, names, carries, carries_on, out}
use Rattle.block_events.proofs.Lanes.{near_opposite, far_opposite, border_opposite}
use Rattle.block_events.proofs.Ways.{EachWay, each_put, square_put, answered, messages_more, messages_less, all_rest, all_front, all_more, pairs_rest}
use Rattle.block_events.proofs.Local.{counted_none, sum_more, each_lane, flights_put, arc_changed, belongs_kept, behind_refused, out_kept, long}
use Rattle.block_events.proofs.Fit.{Known, sound_fit, fit_sound, learned_at, refused_fit, accepted_fit}
use Rattle.block_events.proofs.Ends.{far_in}

-- ---- the ways after an answer took the place of the message in front

pub messages_answered : (n : ℕ) (f : Message → ℕ) (ways : List (List (List Message))) (b c : ℕ) (m : Message) (rest : List Message) (reply : Message)
    → IsSquare n ways → b < n → c < n → way_at ways b c ≡ m ∷ rest
    → over_messages f (answered ways b c rest reply) + f m ≡ over_messages f ways + f reply
messages_answered n f ways b c m rest reply sq lb lc e =
    let less = messages_less n f ways b c m rest sq lb lc e in
    let more = messages_more n f (put_way ways b c rest) c b reply (square_put n ways b c rest sq) lc lb in
    omega (arith, less, more)

pub each_answered : (n : ℕ) (P : ℕ → ℕ → List Message → Type 0) (ways : List (List (List Message))) (b c : ℕ) (rest : List Message) (reply : Message)
    → IsSquare n ways → b < n → c < n → EachWay P ways → P b c rest → ((way : List Message) → P c b way → P c b (way ++ reply ∷ []))
    → EachWay P (answered ways b c rest reply)
each_answered n P ways b c rest reply sq lb lc each taken more =
    let each' = each_put n P ways b c rest sq lb lc each taken in
    each_put n P (put_way ways b c rest) c b _ (square_put n ways b c rest sq) lc lb each' (more _ (each' c b))

-- the messages of a way: they belong there, and parcels before answers are below them
pub record IsGoodWay (net : Network) (blocks : ℕ) (lanes : Lanes) (labels : List ℕ) (b c : ℕ) (way : List Message) : Type 0 where
  pub belong : All (Belongs net blocks lanes labels b c) way
  pub order : AllPairs (IsBehind net labels) way

pub good_ways : (s : State) (lanes : Lanes) → IsSound s → ((y : Direction) → IsDirection s.net y → (lane_at lanes y).flight ≡ flight_of s y)
    → EachWay (IsGoodWay s.net s.blocks lanes s.labels) s.ways
good_ways s lanes sound same b c = record {
  belong = λ k d l. belongs_kept s.net s.blocks s.lanes lanes s.labels s.labels b c _ (sound.messages.belong b c k d l) (λ h. same _ h) (λ v. omega arith);
  order = sound.messages.order b c;
}

pub good_rest : (net : Network) (blocks : ℕ) (lanes : Lanes) (labels : List ℕ) (b c : ℕ) (m : Message) (rest way : List Message)
    → way ≡ m ∷ rest → IsGoodWay net blocks lanes labels b c way → IsGoodWay net blocks lanes labels b c rest
good_rest net blocks lanes labels b c m rest way e good = record {
  belong = all_rest (Belongs net blocks lanes labels b c) m rest (rw e at good.belong);
  order = pairs_rest (IsBehind net labels) m rest (rw e at good.order);
}

pub good_more : (net : Network) (blocks : ℕ) (lanes : Lanes) (labels : List ℕ) (b c : ℕ) (m : Message) (way : List Message)
    → IsGoodWay net blocks lanes labels b c way → Belongs net blocks lanes labels b c m
    → ((n : Message) → Belongs net blocks lanes labels b c n → IsBehind net labels n m)
    → IsGoodWay net blocks lanes labels b c (way ++ m ∷ [])
good_more net blocks lanes labels b c m way good here behind = record {
  belong = all_more (Belongs net blocks lanes labels b c) way m good.belong here;
  order = all_pairs_push (IsBehind net labels) way m good.order (λ k d l. behind _ (good.belong k d l));
}

-- the parcel in front
pub front_out : (s : State) (b c : ℕ) (m : Message) (rest : List Message) → IsSound s → way_at s.ways b c ≡ m ∷ rest → Belongs s.net s.blocks s.lanes s.labels b c m
front_out s b c m rest sound e = all_front (Belongs s.net s.blocks s.lanes s.labels b c) m rest (rw e at (sound.messages.belong b c))

-- ---- refused

pub refused_kept : (s : State) (b c : ℕ) (x : Direction) (a d : ℕ) (rest : List Message) → IsSound s → IsWay s b c
    → way_at s.ways b c ≡ Parcel x a d ∷ rest → d ≤ label_of s (far s.net x) → IsSound (after_refuse s b c (Parcel x a d ∷ rest))
refused_kept s b c x a d rest sound way e high =
    let m : Message = Parcel x a d in
    let told = label_of s (far s.net x) in
    let reply : Message = Refused x a d told in
    let n = s.blocks in
    let sq = sound.sized.ways in
    let o = front_out s b c m rest sound e in
    let good = each_answered n (IsGoodWay s.net s.blocks s.lanes s.labels) s.ways b c rest reply sq way.0 way.1
    (good_ways s s.lanes sound (λ y h. refl))
    (good_rest s.net s.blocks s.lanes s.labels b c m rest (way_at s.ways b c) e (good_ways s s.lanes sound (λ y h. refl) b c))
    (λ w h. good_more s.net s.blocks s.lanes s.labels c b reply w h (o, high, omega arith) (λ k h. behind_refused s.net s.labels k x a d told)) in
    fit_sound (after_refuse s b c (Parcel x a d ∷ rest)) (refused_fit s b c x a d rest (sound_fit s sound)) (record {
      arcs = λ k lk. omega (arith, sound.flow.arcs k lk, messages_answered n (carries_on k) s.ways b c m rest reply sq way.0 way.1 e);
      total = omega (arith, sound.flow.total, messages_answered n carries s.ways b c m rest reply sq way.0 way.1 e);
      known = sound.labels.known;
      messages = record {
        named = λ y ly. omega (arith, sound.messages.named y ly, messages_answered n (names y) s.ways b c m rest reply sq way.0 way.1 e);
        belong = λ b' c'. (good b' c').belong;
        order = λ b' c'. (good b' c').order;
      };
    })

-- ---- accepted

-- a parcel that waits in the way of the answer is below the label of the node that the answer goes
-- to
behind_accepted : (s : State) (lanes : Lanes) (b c : ℕ) (x : Direction) (a d : ℕ) (n : Message) → IsSound s
    → ((y : Direction) → IsDirection s.net y → (lane_at lanes y).flight ≡ flight_of s y)
    → IsDirection s.net x → flight_of s x ≡ Some (record { amount = a; label = d }) → label_of s (far s.net x) + 1 ≡ d
    → Belongs s.net s.blocks lanes s.labels b c n → IsBehind s.net s.labels n (Accepted x a)
behind_accepted s lanes b c x a d (Parcel y z k) sound same lx out level o = λ e.
    let fy : flight_of s y ≡ Some (record { amount = z; label = k }) = sym (same y o.direction) ∙ o.flight in
    let at_y = sound.flights y o.direction (record { amount = z; label = k }) fy in
    let at_x = sound.flights x lx (record { amount = a; label = d }) out in
    let e1 : far s.net x ≡ near s.net y = ap (far s.net) e ∙ far_opposite s.net y in
    let e2 : near s.net x ≡ far s.net y = ap (near s.net) e ∙ near_opposite s.net y in
    let l1 = ap (label_of s) e1 in
    let l2 = ap (label_of s) e2 in
    omega (arith, at_y.2, at_x.2, l1, l2, level)
behind_accepted s lanes b c x a d (Accepted y z) sound same lx out level o = tt
behind_accepted s lanes b c x a d (Refused y z k t) sound same lx out level o = tt

pub accepted_kept : (s : State) (b c : ℕ) (x : Direction) (a d : ℕ) (rest : List Message) → IsSound s → IsWay s b c
    → way_at s.ways b c ≡ Parcel x a d ∷ rest → label_of s (far s.net x) + 1 ≡ d → IsSound (after_accept s b c (Parcel x a d ∷ rest))
accepted_kept s b c x a d rest sound way e level =
    let m : Message = Parcel x a d in
    let reply : Message = Accepted x a in
    let n = s.blocks in
    let sq = sound.sized.ways in
    let arcs = length s.net.arcs in
    let o = front_out s b c m rest sound e in
    let lx : x.arc < arcs = o.direction in
    let opp = opposite x in
    let old = lane_at s.lanes opp in
    let lane = lane_after_accept old a d in
    let lanes = put_lane s.lanes opp lane in
    let lng = long s sound.sized in
    let w = far s.net x in
    let lw : w < length s.excess = omega (arith, far_in s.net x sound.sized.net lx, sound.sized.excess) in
    let at_x = sound.flights x lx (record { amount = a; label = d }) o.flight in
    let near_is : near s.net opp ≡ w = near_opposite s.net x in
    let far_is : far s.net opp ≡ near s.net x = far_opposite s.net x in
    let border : is_border s.net s.blocks opp ≡ true = border_opposite s.net s.blocks x ∙ o.border in
    let label_near = ap (label_of s) near_is in
    let label_far = ap (label_of s) far_is in
    let same = flights_put arcs s.lanes opp lane lng lx refl in
    let cases = learned_at old.flight old.known d in
    let good = each_answered n (IsGoodWay s.net s.blocks lanes s.labels) s.ways b c rest reply sq way.0 way.1
    (good_ways s lanes sound same)
    (good_rest s.net s.blocks lanes s.labels b c m rest (way_at s.ways b c) e (good_ways s lanes sound same b c))
    (λ q h. good_more s.net s.blocks lanes s.labels c b reply q h (d, out_kept s.net s.blocks s.lanes lanes x a d b c o (same x lx))
    (λ k h. behind_accepted s lanes c b x a d k sound same lx o.flight level h)) in
    fit_sound (after_accept s b c (Parcel x a d ∷ rest)) (accepted_fit s b c x a d rest (sound_fit s sound) lx o.border level) (record {
      arcs = λ k lk.
          omega (
            arith,
            sound.flow.arcs k lk,
            messages_answered n (carries_on k) s.ways b c m rest reply sq way.0 way.1 e,
            arc_changed arcs s.lanes opp lane 0 a k lng lx (omega arith),
            counted_none (eqb x.arc k),
          );
      total = omega (arith, sound.flow.total, messages_answered n carries s.ways b c m rest reply sq way.0 way.1 e, sum_more s.excess w a lw);
      known = each_lane arcs s.lanes opp lane (Known s) lng lx
          (λ y off ly. sound.labels.known y ly)
          (λ b. elim cases [
            | inl none ↦ omega (arith, none.1, label_far, at_x.2, sound.labels.known opp lx border)
            | inr (g, is, kept) ↦ omega (arith, kept, sound.labels.known opp lx border)
          ]);
      messages = record {
        named = λ y ly. omega (arith, sound.messages.named y ly, messages_answered n (names y) s.ways b c m rest reply sq way.0 way.1 e, ap out (same y ly));
        belong = λ b' c'. (good b' c').belong;
        order = λ b' c'. (good b' c').order;
      };
    })
