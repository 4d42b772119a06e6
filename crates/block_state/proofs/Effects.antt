-- What the code of an event leaves is its effect.
use Rattle.std.proofs.Common.{◌≡◌, ℕ, ◌<◌, ◌≤◌, min, not, true, List, [], ◌∷◌, ◌++◌, length, slice_index, refl, sym, ◌∙◌, ap, arith}
use Rattle.std.proofs.lemmas.List.{length_push}
use Rattle.std.proofs.lemmas.Bool.{eq-eqb, false≢true}
use Rattle.block_events.specs.declared.lane.Lane.{Lane}
use Rattle.block_events.specs.declared.direction.Direction.{Direction}
use Rattle.block_events.specs.declared.message.Message.{Message}
use Rattle.block_events.specs.declared.message.Message.TheVariants.{Parcel}
use Rattle.block_events.specs.declared.event.Event.{Event}
use Rattle.block_events.specs.declared.event.Event.TheVariants.{PushInner, Send}
use Rattle.block_events.specs.Directions.{near, far}
use Rattle.block_events.specs.States as core
use Rattle.block_events.specs.Events.{IsEnabled, effect}
use Rattle.block_events.specs.Soundness.{IsSquare}
use Rattle.block_events.proofs.Ends.{near_block_in, far_block_in}
use Rattle.block_events.proofs.Fitting.{way_fits}
use Rattle.block_events.proofs.Kept.{effect_kept}
use Rattle.block_events.proofs.Ways.{way_same}
use Rattle.block_events.specs.Effects.{BlocksView, state_of, blocks_after_push, blocks_after_send}
use Rattle.block_state.specs.AllWays.{IsHeld, room_at}
use Rattle.block_state.proofs.Keeping.{effect_net}

pub pushed_is : (b b' : BlocksView) (ways : List (List (List Message))) (got : ℕ) (x : Direction) (v e a : ℕ) (lane : Lane)
    → v ≡ near b.net x → e ≡ slice_index b.excess v → lane ≡ core.lane_at b.lanes x → a ≡ min e lane.residual → b' ≡ blocks_after_push b x a
    → state_of b' ways got ≡ effect (state_of b ways got) (PushInner x)
pushed_is b b' ways got x v e a lane at_v excess is amount made =
    let residual = ap (λ (q : Lane). q.residual) is in
    rw (made, amount, excess, at_v, residual) refl

-- ---- room on the ways

-- a way that an enabled event puts a message on has room for it: the state after the event is sound
-- too
pub room_after : {rooms : List (List ℕ)} {s : core.State} (e : Event) (ways : List (List (List Message))) (b c : ℕ) (m : Message) → IsHeld rooms s → IsEnabled s e
    → (effect s e).ways ≡ core.put_message ways b c m → IsSquare s.blocks ways → b < s.blocks → c < s.blocks → (b ≡ c → ⊥)
    → length (core.way_at ways b c) < room_at rooms b c
room_after {rooms} {s} e ways b c m held on is square lb lc apart =
    let t = effect s e in
    let same = effect_net s e in
    let after : length (core.way_at t.ways b c) ≤ _ = way_fits t b c (effect_kept s e held.sound on) (omega (arith, same.blocks, lb)) (omega (arith, same.blocks, lc)) in
    let after' = rw (is, same.net, same.blocks) at after in
    let way = way_same s.blocks ways b c (core.way_at ways b c ++ m ∷ []) square lb lc in
    let len = ap length way in
    let more = length_push (core.way_at ways b c) m in
    let fits = held.room b c lb lc apart in
    omega (arith, after', len, more, fits)

pub border_apart : (s : core.State) (x : Direction) → core.is_border s.net s.blocks x ≡ true → core.near_block s.net s.blocks x ≡ core.far_block s.net s.blocks x → ⊥
border_apart s x border same = false≢true (sym (ap not (eq-eqb _ _ same)) ∙ border)

pub send_room : {rooms : List (List ℕ)} {s : core.State} (x : Direction) → IsHeld rooms s → IsEnabled s (Send x)
    → length (core.way_at s.ways (core.near_block s.net s.blocks x) (core.far_block s.net s.blocks x)) < room_at rooms (core.near_block s.net s.blocks x) (core.far_block s.net s.blocks x)
send_room {rooms} {s} x held on =
    room_after (Send x) s.ways _ _ (Parcel x (min (core.excess_of s (near s.net x)) (core.residual_of s x)) (core.label_of s (near s.net x))) held on refl held.sound.sized.ways
    (near_block_in s x held.sound.sized on.0) (far_block_in s x held.sound.sized on.0) (border_apart s x on.1)

pub sent_is : (b b' : BlocksView) (ways ways' : List (List (List Message))) (got : ℕ) (x : Direction) (v w d e a from to : ℕ) (lane : Lane)
    → v ≡ near b.net x → w ≡ far b.net x → d ≡ slice_index b.labels v → e ≡ slice_index b.excess v → lane ≡ core.lane_at b.lanes x → a ≡ min e lane.residual
    → from ≡ core.block_of b.net b.blocks v → to ≡ core.block_of b.net b.blocks w → b' ≡ blocks_after_send b x a → ways' ≡ core.put_message ways from to (Parcel x a d)
    → state_of b' ways' got ≡ effect (state_of b ways got) (Send x)
sent_is b b' ways ways' got x v w d e a from to lane at_v at_w label excess is amount at_from at_to made put =
    let residual = ap (λ (q : Lane). q.residual) is in
    rw (made, put, at_from, at_to, amount, label, excess, at_v, at_w, residual) refl
