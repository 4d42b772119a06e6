-- What the code knows of the message in front of a way, and what it leaves.
use Rattle.std.proofs.Common.{◌≡◌, ℕ, ◌+◌, ◌<◌, ◌^◌, ◌≤◌, List, ◌∷◌, length, slice_index, sym, ◌∙◌, ap, subst, arith}
use Rattle.flow_network.specs.Progress.{top}
use Rattle.flow_network.specs.Preflow.{arc_at}
use Rattle.block_events.specs.declared.direction.Direction.{Direction}
use Rattle.block_events.specs.declared.message.Message.{Message}
use Rattle.block_events.specs.declared.message.Message.TheVariants.{Parcel, Accepted, Refused}
use Rattle.block_events.specs.declared.event.Event.TheVariants.{Accept, Refuse, Settle}
use Rattle.block_events.specs.Directions.{far, opposite}
use Rattle.block_events.specs.States as core
use Rattle.block_events.specs.Events as events
use Rattle.block_events.specs.Soundness.{IsOut, amount_out}
use Rattle.block_events.proofs.Ends.{far_in}
use Rattle.block_events.proofs.Owning.{accept_fits}
use Rattle.block_events.proofs.Replies.{front_out}
use Rattle.block_events.proofs.Ways.{square_put}
use Rattle.block_events.specs.Effects.{BlocksView, state_of, blocks_after_accept, blocks_after_delivery, blocks_after_return}
use Rattle.block_state.specs.AllWays.{IsHeld, room_at}
use Rattle.block_state.proofs.Effects.{room_after, border_apart}

-- the parcel in front of a way is out
pub parcel_out : {rooms : List (List ℕ)} {s : core.State} (b c : ℕ) (x : Direction) (a d : ℕ) (rest : List Message) → IsHeld rooms s
    → core.way_at s.ways b c ≡ Parcel x a d ∷ rest → IsOut s.net s.blocks s.lanes x a d b c
parcel_out {rooms} {s} b c x a d rest held front = front_out s b c (Parcel x a d) rest held.sound front

-- its arc's place is a `u32`
pub parcel_arc : {rooms : List (List ℕ)} {s : core.State} (b c : ℕ) (x : Direction) (a d : ℕ) (rest : List Message) → IsHeld rooms s
    → core.way_at s.ways b c ≡ Parcel x a d ∷ rest → x.arc < 2 ^ 32
parcel_arc {rooms} {s} b c x a d rest held front = omega (arith, (parcel_out b c x a d rest held front).direction, held.arcs)

-- the parcel whose answer is in front of a way is out
pub accepted_out : {rooms : List (List ℕ)} {s : core.State} (b c : ℕ) (x : Direction) (a : ℕ) (rest : List Message) → IsHeld rooms s
    → core.way_at s.ways b c ≡ Accepted x a ∷ rest → (d : ℕ) × IsOut s.net s.blocks s.lanes x a d c b
accepted_out {rooms} {s} b c x a rest held front = front_out s b c (Accepted x a) rest held.sound front

pub refused_out : {rooms : List (List ℕ)} {s : core.State} (b c : ℕ) (x : Direction) (a d told : ℕ) (rest : List Message) → IsHeld rooms s
    → core.way_at s.ways b c ≡ Refused x a d told ∷ rest → IsOut s.net s.blocks s.lanes x a d c b
refused_out {rooms} {s} b c x a d told rest held front = (front_out s b c (Refused x a d told) rest held.sound front).0

-- the label that a refusal tells is a label
pub refused_label : {rooms : List (List ℕ)} {s : core.State} (b c : ℕ) (x : Direction) (a d told : ℕ) (rest : List Message) → IsHeld rooms s
    → core.way_at s.ways b c ≡ Refused x a d told ∷ rest → told ≤ top s.net
refused_label {rooms} {s} b c x a d told rest held front =
    let found = front_out s b c (Refused x a d told) rest held.sound front in
    omega (arith, found.2, held.sound.labels.top (far s.net x) (far_in s.net x held.sound.sized.net found.0.direction))

-- the amount that comes back is the one that is out
pub refused_amount : {rooms : List (List ℕ)} {s : core.State} (b c : ℕ) (x : Direction) (a d told : ℕ) (rest : List Message) → IsHeld rooms s
    → core.way_at s.ways b c ≡ Refused x a d told ∷ rest → a ≤ amount_out (core.flight_of s x)
refused_amount {rooms} {s} b c x a d told rest held front =
    let found = front_out s b c (Refused x a d told) rest held.sound front in
    omega (arith, ap amount_out found.0.flight)

-- the two blocks of a way with a parcel differ
pub out_apart : (s : core.State) (x : Direction) (a d b c : ℕ) → IsOut s.net s.blocks s.lanes x a d b c → c ≡ b → ⊥
out_apart s x a d b c out same = border_apart s x out.border (out.near ∙ (sym same ∙ sym out.far))

-- ---- the parcel in front is taken

pub may_accept : (s : core.State) (b c : ℕ) (x : Direction) (a d : ℕ) (rest : List Message) → core.IsWay s b c → core.way_at s.ways b c ≡ Parcel x a d ∷ rest
    → core.label_of s (far s.net x) + 1 ≡ d → events.IsEnabled s (Accept b c)
may_accept s b c x a d rest way front level = (way, subst (events.MayAccept s) (sym front) level)

pub accept_room : {rooms : List (List ℕ)} {s : core.State} (b c : ℕ) (x : Direction) (a d : ℕ) (rest : List Message) → IsHeld rooms s → core.IsWay s b c
    → core.way_at s.ways b c ≡ Parcel x a d ∷ rest → core.label_of s (far s.net x) + 1 ≡ d
    → length (core.way_at (core.put_way s.ways b c rest) c b) < room_at rooms c b
accept_room {rooms} {s} b c x a d rest held way front level =
    let is = ap (λ (w : List Message). (events.after_accept s b c w).ways) front in
    room_after (Accept b c) (core.put_way s.ways b c rest) c b (Accepted x a) held (may_accept s b c x a d rest way front level) is
    (square_put s.blocks s.ways b c rest held.sound.sized.ways) way.1 way.0 (out_apart s x a d b c (parcel_out b c x a d rest held front))

pub accept_label : {rooms : List (List ℕ)} {s : core.State} (b c : ℕ) (x : Direction) (a d : ℕ) (rest : List Message) → IsHeld rooms s
    → core.way_at s.ways b c ≡ Parcel x a d ∷ rest → core.label_of s (far s.net x) + 1 ≡ d → d ≤ top s.net
accept_label {rooms} {s} b c x a d rest held front level = (accept_fits s b c x a d rest held.sound front level).0

pub accept_amount : {rooms : List (List ℕ)} {s : core.State} (b c : ℕ) (x : Direction) (a d : ℕ) (rest : List Message) → IsHeld rooms s
    → core.way_at s.ways b c ≡ Parcel x a d ∷ rest → core.label_of s (far s.net x) + 1 ≡ d
    → core.residual_of s (opposite x) + amount_out (core.flight_of s (opposite x)) + a ≤ (arc_at s.net x.arc).capacity
accept_amount {rooms} {s} b c x a d rest held front level = (accept_fits s b c x a d rest held.sound front level).1

pub accept_is : (v v' : BlocksView) (ways ways1 ways2 : List (List (List Message))) (got b c : ℕ) (x : Direction) (a d : ℕ) (rest : List Message)
    → core.way_at ways b c ≡ Parcel x a d ∷ rest → v' ≡ blocks_after_accept v x a d → ways1 ≡ core.put_way ways b c rest → ways2 ≡ core.put_message ways1 c b (Accepted x a)
    → state_of v' ways2 got ≡ events.effect (state_of v ways got) (Accept b c)
accept_is v v' ways ways1 ways2 got b c x a d rest front made took put =
    rw (made, put, took) (sym (ap (events.after_accept (state_of v ways got) b c) front))

-- ---- the parcel in front is sent back

pub may_refuse : (s : core.State) (b c : ℕ) (x : Direction) (a d : ℕ) (rest : List Message) → core.IsWay s b c → core.way_at s.ways b c ≡ Parcel x a d ∷ rest
    → d ≤ core.label_of s (far s.net x) → events.IsEnabled s (Refuse b c)
may_refuse s b c x a d rest way front above = (way, subst (events.MayRefuse s) (sym front) above)

pub refuse_room : {rooms : List (List ℕ)} {s : core.State} (b c : ℕ) (x : Direction) (a d : ℕ) (rest : List Message) → IsHeld rooms s → core.IsWay s b c
    → core.way_at s.ways b c ≡ Parcel x a d ∷ rest → d ≤ core.label_of s (far s.net x)
    → length (core.way_at (core.put_way s.ways b c rest) c b) < room_at rooms c b
refuse_room {rooms} {s} b c x a d rest held way front above =
    let is = ap (λ (w : List Message). (events.after_refuse s b c w).ways) front in
    room_after (Refuse b c) (core.put_way s.ways b c rest) c b (Refused x a d (core.label_of s (far s.net x))) held (may_refuse s b c x a d rest way front above) is
    (square_put s.blocks s.ways b c rest held.sound.sized.ways) way.1 way.0 (out_apart s x a d b c (parcel_out b c x a d rest held front))

pub refuse_is : (v : BlocksView) (ways ways1 ways2 : List (List (List Message))) (got b c : ℕ) (x : Direction) (a d : ℕ) (rest : List Message)
    → core.way_at ways b c ≡ Parcel x a d ∷ rest → ways1 ≡ core.put_way ways b c rest
    → ways2 ≡ core.put_message ways1 c b (Refused x a d (slice_index v.labels (far v.net x))) → state_of v ways2 got ≡ events.effect (state_of v ways got) (Refuse b c)
refuse_is v ways ways1 ways2 got b c x a d rest front took put =
    rw (put, took) (sym (ap (events.after_refuse (state_of v ways got) b c) front))

-- ---- the answer in front ends its flight

pub may_settle : (s : core.State) (b c : ℕ) (m : Message) (rest : List Message) → core.IsWay s b c → core.way_at s.ways b c ≡ m ∷ rest
    → events.MaySettle (m ∷ rest) → events.IsEnabled s (Settle b c)
may_settle s b c m rest way front may = (way, subst events.MaySettle (sym front) may)

pub delivery_is : (v v' : BlocksView) (ways ways1 : List (List (List Message))) (got b c : ℕ) (x : Direction) (a : ℕ) (rest : List Message)
    → core.way_at ways b c ≡ Accepted x a ∷ rest → v' ≡ blocks_after_delivery v x → ways1 ≡ core.put_way ways b c rest
    → state_of v' ways1 got ≡ events.effect (state_of v ways got) (Settle b c)
delivery_is v v' ways ways1 got b c x a rest front made took = rw (made, took) (sym (ap (events.after_settle (state_of v ways got) b c) front))

pub return_is : (v v' : BlocksView) (ways ways1 : List (List (List Message))) (got b c : ℕ) (x : Direction) (a d told : ℕ) (rest : List Message)
    → core.way_at ways b c ≡ Refused x a d told ∷ rest → v' ≡ blocks_after_return v x a told → ways1 ≡ core.put_way ways b c rest
    → state_of v' ways1 got ≡ events.effect (state_of v ways got) (Settle b c)
return_is v v' ways ways1 got b c x a d told rest front made took = rw (made, took) (sym (ap (events.after_settle (state_of v ways got) b c) front))
