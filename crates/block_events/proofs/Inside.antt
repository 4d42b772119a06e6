-- The events within a block keep a state sound.
use Rattle.std.proofs.Common.{◌≡◌, ℕ, ◌+◌, ◌-◌, ◌<◌, ◌≤◌, false, eqb, length, set, get_or, refl, sym, ◌∙◌, ap, arith}
use Rattle.std.proofs.lemmas.List.{length-set}
use Rattle.flow_network.specs.Cut.{nodes}
use Rattle.block_events.specs.declared.direction.Direction.{Direction}
use Rattle.block_events.specs.Directions.{opposite, IsDirection, near, far}
use Rattle.block_events.specs.States.{State, Lane, lane_at, put_lane, way_at, excess_of, label_of, room_of, residual_of, is_border}
use Rattle.block_events.specs.Soundness.{IsSound, out}
use Rattle.block_events.specs.Events.{after_push, after_sink_push, after_relabel}
use Rattle.block_events.proofs.Lanes.{long_put}
use Rattle.block_events.proofs.Local.{counted_none, set_rises, sum_less, sum_more, each_lane, flights_put, arc_changed, belongs_kept, behind_kept, long}
use Rattle.block_events.proofs.Ends.{near_in, far_in}
use Rattle.block_events.proofs.Allowed.{IsAllowed}
use Rattle.block_events.proofs.Fit.{Known, sound_fit, fit_sound, pushed_fit, given_fit, relabelled_fit}
use Rattle.block_events.proofs.Replies.{good_ways}

-- ---- a push within a block

pub pushed_kept : (s : State) (x : Direction) (a : ℕ) → IsSound s → IsDirection s.net x → is_border s.net s.blocks x ≡ false
    → a ≤ excess_of s (near s.net x) → a ≤ residual_of s x → label_of s (far s.net x) ≤ label_of s (near s.net x) + 1
    → IsSound (after_push s x a)
pushed_kept s x a sound lx inner enough fits level =
    let v = near s.net x in
    let w = far s.net x in
    let opp = opposite x in
    let arcs = length s.net.arcs in
    let lv : v < length s.excess = omega (arith, near_in s.net x sound.sized.net lx, sound.sized.excess) in
    let less = set s.excess v (excess_of s v - a) in
    let len : length less ≡ length s.excess = length-set s.excess v (excess_of s v - a) in
    let lw : w < length less = omega (arith, far_in s.net x sound.sized.net lx, sound.sized.excess, len) in
    let lane : Lane = record (lane_at s.lanes x) { residual = residual_of s x - a } in
    let taken = put_lane s.lanes x lane in
    let back : Lane = record (lane_at taken opp) { residual = (lane_at taken opp).residual + a } in
    let lanes = put_lane taken opp back in
    let lng = long s sound.sized in
    let lng1 = long_put arcs s.lanes x lane lng in
    let same = λ (y : Direction) (h : IsDirection s.net y). flights_put arcs taken opp back lng1 lx refl y h ∙ flights_put arcs s.lanes x lane lng lx refl y h in
    let good = good_ways s lanes sound same in
    let known = each_lane arcs s.lanes x lane (Known s) lng lx (λ y off ly. sound.labels.known y ly) (sound.labels.known x lx) in
    fit_sound (after_push s x a) (pushed_fit s x a (sound_fit s sound) lx inner enough fits level) (record {
      arcs = λ k lk. omega (arith, sound.flow.arcs k lk, arc_changed arcs s.lanes x lane a 0 k lng lx (omega arith), arc_changed arcs taken opp back 0 a k lng1 lx (omega arith), counted_none (eqb x.arc k));
      total = omega (arith, sound.flow.total, sum_less s.excess v a lv enough, sum_more less w a lw);
      known = each_lane arcs taken opp back (Known s) lng1 lx (λ y off ly. known y ly) (known opp lx);
      messages = record {
        named = λ y ly. sound.messages.named y ly ∙ sym (ap out (same y ly));
        belong = λ b' c'. (good b' c').belong;
        order = λ b' c'. (good b' c').order;
      };
    })

-- ---- a gift to the sink

pub given_kept : (s : State) (v a : ℕ) → IsSound s → v < nodes s.net → a ≤ excess_of s v → a ≤ room_of s v → IsSound (after_sink_push s v a)
given_kept s v a sound lv enough fits =
    let le : v < length s.excess = omega (arith, lv, sound.sized.excess) in
    fit_sound (after_sink_push s v a) (given_fit s v a (sound_fit s sound) lv enough fits) (record {
      arcs = sound.flow.arcs;
      total = omega (arith, sound.flow.total, sum_less s.excess v a le enough);
      known = sound.labels.known;
      messages = record { named = sound.messages.named; belong = sound.messages.belong; order = sound.messages.order };
    })

-- ---- a new label

pub relabelled_kept : (s : State) (v d : ℕ) → IsSound s → IsAllowed s v d → IsSound (after_relabel s v d)
relabelled_kept s v d sound may =
    let l : v < length s.labels = omega (arith, may.node, sound.sized.labels) in
    let labels = set s.labels v d in
    let up = λ (u : ℕ). set_rises s.labels v d u l (omega (arith, may.rises)) in
    fit_sound (after_relabel s v d) (relabelled_fit s v d (sound_fit s sound) may) (record {
      arcs = sound.flow.arcs;
      total = sound.flow.total;
      known = λ y ly border. omega (arith, sound.labels.known y ly border, up (far s.net y));
      messages = record {
        named = sound.messages.named;
        belong = λ b c k e le. belongs_kept s.net s.blocks s.lanes s.lanes s.labels labels b c (get_or (way_at s.ways b c) k e) (sound.messages.belong b c k e le) (λ h. refl) up;
        order = λ b c i j e lij lj. behind_kept s.net s.labels labels _ _ up (sound.messages.order b c i j e lij lj);
      };
    })
