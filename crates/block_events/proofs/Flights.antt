-- An answer that ends a flight, and a parcel that begins one, keep a state sound.
use Rattle.std.proofs.Common.{◌≡◌, ℕ, ◌+◌, ◌-◌, ◌<◌, ◌≤◌, true, eqb, List, [], ◌∷◌, ◌++◌, length, get_or, All, Some, None, refl, sym, ◌∙◌, ap, arith}
use Rattle.flow_network.specs.Cut.{Network}
use Rattle.block_events.specs.declared.direction.Direction.{Direction}
use Rattle.block_events.specs.declared.message.Message.{Message}
use Rattle.block_events.specs.declared.message.Message.TheVariants.{Parcel, Accepted, Refused}
use Rattle.block_events.specs.Directions.{IsDirection, near}
use Rattle.block_events.specs.States.{State, Lane, Lanes, lane_at, put_lane, way_at, put_way, put_message, over_messages, excess_of, label_of, flight_of, residual_of, known_of, near_block, far_block, is_border, IsWay}
use Rattle.block_events.specs.Soundness.{IsSound, IsOut, direction_of, names, carries, carries_on, out}
use Rattle.block_events.proofs.Lanes.{lane_same, lane_other}
use Rattle.block_events.proofs.Ways.{EachWay, each_put, messages_more, messages_less}
use Rattle.block_events.proofs.Local.{counted_none, sum_less, sum_more, each_lane, arc_changed, belongs_kept, behind_parcel, names_other, names_same, names_not, long}
use Rattle.block_events.proofs.Ends.{near_in, near_block_in, far_block_in}
use Rattle.block_events.proofs.Fit.{Known, sound_fit, fit_sound, taken_fit, returned_fit, sent_fit}
use Rattle.block_events.proofs.Replies.{IsGoodWay, good_ways, good_rest, good_more, front_out}
use Rattle.block_events.specs.Events.{after_settle, after_send}

-- where no message names a direction, its lane may change
good_without : (net : Network) (blocks : ℕ) (lanes : Lanes) (labels : List ℕ) (ways : List (List (List Message))) (x : Direction) (lane : Lane)
    → EachWay (IsGoodWay net blocks lanes labels) ways → EachWay (λ b c way. All (λ m. direction_of m ≡ x → ⊥) way) ways
    → EachWay (IsGoodWay net blocks (put_lane lanes x lane) labels) ways
good_without net blocks lanes labels ways x lane good off b c = record {
  belong = λ k d l. belongs_kept net blocks lanes (put_lane lanes x lane) labels labels b c (get_or (way_at ways b c) k d) ((good b c).belong k d l)
      (λ h. ap (λ (q : Lane). q.flight) (lane_other lanes x (direction_of (get_or (way_at ways b c) k d)) lane (off b c k d l))) (λ v. omega arith);
  order = (good b c).order;
}

-- ---- a flight ends whose parcel was taken

pub taken_kept : (s : State) (b c : ℕ) (x : Direction) (a : ℕ) (rest : List Message) → IsSound s → IsWay s b c
    → way_at s.ways b c ≡ Accepted x a ∷ rest → IsSound (after_settle s b c (Accepted x a ∷ rest))
taken_kept s b c x a rest sound way e =
    let m : Message = Accepted x a in
    let n = s.blocks in
    let sq = sound.sized.ways in
    let arcs = length s.net.arcs in
    let front = front_out s b c m rest sound e in
    let d = front.0 in
    let o = front.1 in
    let lx : x.arc < arcs = o.direction in
    let lane : Lane = record (lane_at s.lanes x) { flight = None } in
    let lanes = put_lane s.lanes x lane in
    let ways = put_way s.ways b c rest in
    let lng = long s sound.sized in
    let less = λ (f : Message → ℕ). messages_less n f s.ways b c m rest sq way.0 way.1 e in
    let was : over_messages (names x) s.ways ≡ 1 = sound.messages.named x lx ∙ ap out o.flight in
    let none : over_messages (names x) ways ≡ 0 = omega (arith, less (names x), names_same x, was) in
    let good = good_without s.net s.blocks s.lanes s.labels ways x lane
    (each_put n (IsGoodWay s.net s.blocks s.lanes s.labels) s.ways b c rest sq way.0 way.1 (good_ways s s.lanes sound (λ y h. refl))
    (good_rest s.net s.blocks s.lanes s.labels b c m rest (way_at s.ways b c) e (good_ways s s.lanes sound (λ y h. refl) b c)))
    (names_other n ways x none) in
    fit_sound (after_settle s b c (Accepted x a ∷ rest)) (taken_fit s b c x a rest (sound_fit s sound) lx) (record {
      arcs = λ k lk. omega (arith, sound.flow.arcs k lk, less (carries_on k), arc_changed arcs s.lanes x lane 0 0 k lng lx (omega arith), counted_none (eqb x.arc k));
      total = omega (arith, sound.flow.total, less carries);
      known = each_lane arcs s.lanes x lane (Known s) lng lx
          (λ y off ly. sound.labels.known y ly) (sound.labels.known x lx);
      messages = record {
        named = each_lane arcs s.lanes x lane (λ y l. over_messages (names y) ways ≡ out l.flight) lng lx
            (λ y off ly. omega (arith, less (names y), names_not x y (λ h. off (sym h)), sound.messages.named y ly)) none;
        belong = λ b' c'. (good b' c').belong;
        order = λ b' c'. (good b' c').order;
      };
    })

-- ---- a flight ends whose parcel was sent back

pub returned_kept : (s : State) (b c : ℕ) (x : Direction) (a d told : ℕ) (rest : List Message) → IsSound s → IsWay s b c
    → way_at s.ways b c ≡ Refused x a d told ∷ rest → IsSound (after_settle s b c (Refused x a d told ∷ rest))
returned_kept s b c x a d told rest sound way e =
    let m : Message = Refused x a d told in
    let n = s.blocks in
    let sq = sound.sized.ways in
    let arcs = length s.net.arcs in
    let front = front_out s b c m rest sound e in
    let o = front.0 in
    let lx : x.arc < arcs = o.direction in
    let v = near s.net x in
    let lv : v < length s.excess = omega (arith, near_in s.net x sound.sized.net lx, sound.sized.excess) in
    let lane : Lane = record { residual = residual_of s x + a; known = told; flight = None } in
    let lanes = put_lane s.lanes x lane in
    let ways = put_way s.ways b c rest in
    let lng = long s sound.sized in
    let less = λ (f : Message → ℕ). messages_less n f s.ways b c m rest sq way.0 way.1 e in
    let was : over_messages (names x) s.ways ≡ 1 = sound.messages.named x lx ∙ ap out o.flight in
    let none : over_messages (names x) ways ≡ 0 = omega (arith, less (names x), names_same x, was) in
    let good = good_without s.net s.blocks s.lanes s.labels ways x lane
    (each_put n (IsGoodWay s.net s.blocks s.lanes s.labels) s.ways b c rest sq way.0 way.1 (good_ways s s.lanes sound (λ y h. refl))
    (good_rest s.net s.blocks s.lanes s.labels b c m rest (way_at s.ways b c) e (good_ways s s.lanes sound (λ y h. refl) b c)))
    (names_other n ways x none) in
    fit_sound (after_settle s b c (Refused x a d told ∷ rest)) (returned_fit s b c x a d told rest (sound_fit s sound) lx o.flight front.1) (record {
      arcs = λ k lk. omega (arith, sound.flow.arcs k lk, less (carries_on k), arc_changed arcs s.lanes x lane 0 a k lng lx (omega arith), counted_none (eqb x.arc k));
      total = omega (arith, sound.flow.total, less carries, sum_more s.excess v a lv);
      known = each_lane arcs s.lanes x lane (Known s) lng lx
          (λ y off ly. sound.labels.known y ly) (λ h. front.2);
      messages = record {
        named = each_lane arcs s.lanes x lane (λ y l. over_messages (names y) ways ≡ out l.flight) lng lx
            (λ y off ly. omega (arith, less (names y), names_not x y (λ h. off (sym h)), sound.messages.named y ly)) none;
        belong = λ b' c'. (good b' c').belong;
        order = λ b' c'. (good b' c').order;
      };
    })

-- ---- sent

pub sent_kept : (s : State) (x : Direction) (a : ℕ) → IsSound s → IsDirection s.net x → is_border s.net s.blocks x ≡ true
    → 1 ≤ a → a ≤ excess_of s (near s.net x) → a ≤ residual_of s x → label_of s (near s.net x) ≡ known_of s x + 1 → flight_of s x ≡ None
    → IsSound (after_send s x a)
sent_kept s x a sound lx border some enough fits level idle =
    let v = near s.net x in
    let d = label_of s v in
    let b = near_block s.net s.blocks x in
    let c = far_block s.net s.blocks x in
    let m : Message = Parcel x a d in
    let n = s.blocks in
    let sq = sound.sized.ways in
    let arcs = length s.net.arcs in
    let lb = near_block_in s x sound.sized lx in
    let lc = far_block_in s x sound.sized lx in
    let lv : v < length s.excess = omega (arith, near_in s.net x sound.sized.net lx, sound.sized.excess) in
    let lane : Lane = record (lane_at s.lanes x) { residual = residual_of s x - a; flight = Some (record { amount = a; label = d }) } in
    let lanes = put_lane s.lanes x lane in
    let ways = put_message s.ways b c m in
    let lng = long s sound.sized in
    let more = λ (f : Message → ℕ). messages_more n f s.ways b c m sq lb lc in
    let none : over_messages (names x) s.ways ≡ 0 = sound.messages.named x lx ∙ ap out idle in
    let old = good_without s.net s.blocks s.lanes s.labels s.ways x lane (good_ways s s.lanes sound (λ y h. refl)) (names_other n s.ways x none) in
    let here : IsOut s.net s.blocks lanes x a d b c = record {
      direction = lx;
      border = border;
      near = refl;
      far = refl;
      some = some;
      flight = ap (λ (q : Lane). q.flight) (lane_same arcs s.lanes x lane lng lx);
    } in
    let good = each_put n (IsGoodWay s.net s.blocks lanes s.labels) s.ways b c (way_at s.ways b c ++ m ∷ []) sq lb lc old
    (good_more s.net s.blocks lanes s.labels b c m (way_at s.ways b c) (old b c) here (λ k h. behind_parcel s.net s.labels k x a d)) in
    fit_sound (after_send s x a) (sent_fit s x a (sound_fit s sound) lx border enough fits level) (record {
      arcs = λ k lk. omega (arith, sound.flow.arcs k lk, more (carries_on k), arc_changed arcs s.lanes x lane a 0 k lng lx (omega arith), counted_none (eqb x.arc k));
      total = omega (arith, sound.flow.total, more carries, sum_less s.excess v a lv enough);
      known = each_lane arcs s.lanes x lane (Known s) lng lx
          (λ y off ly. sound.labels.known y ly) (sound.labels.known x lx);
      messages = record {
        named = each_lane arcs s.lanes x lane (λ y l. over_messages (names y) ways ≡ out l.flight) lng lx
            (λ y off ly. omega (arith, more (names y), names_not x y (λ h. off (sym h)), sound.messages.named y ly)) (omega (arith, more (names x), names_same x, none));
        belong = λ b' c'. (good b' c').belong;
        order = λ b' c'. (good b' c').order;
      };
    })
