-- What nodes give the sink, told by what they can still give it.
use Rattle.std.proofs.Common.{◌≡◌, ℕ, zero, suc, ◌+◌, ◌-◌, ◌<◌, ◌≤◌, inl, inr, List, [], ◌∷◌, length, set, slice_index, refl, sym, ap, arith, ◌∙◌, get_or-set_same, get_or-set_other}
use Rattle.std.proofs.lemmas.Bool.{cases_lt, cases_eq}
use Rattle.std.proofs.lemmas.List.{get_or_past, length-set}
use Rattle.std.specs.Simd.Lanes.{zip2}
use Rattle.std.proofs.lemmas.Simd.{length-zip2, get_or-zip2}
use Rattle.flow_network.specs.Cut.{Network, nodes, IsNet}
use Rattle.flow_network.specs.Preflow.{sink_flows, AreRooms}

pub length-given : (net : Network) (rooms : List ℕ) → IsNet net → AreRooms net rooms → length (sink_flows net rooms) ≡ nodes net
length-given net rooms h r = length-zip2 (λ sink room. sink - room) net.sinks rooms (h.same ∙ sym r.len) ∙ h.same

pub given_at : (net : Network) (rooms : List ℕ) (v : ℕ) → IsNet net → AreRooms net rooms → v < nodes net
    → slice_index (sink_flows net rooms) v ≡ slice_index net.sinks v - slice_index rooms v
given_at net rooms v h r l = get_or-zip2 (λ sink room. sink - room) net.sinks rooms v 0 0 0 (omega (arith, h.same, l)) (omega (arith, r.len, l))

-- where a node has room, it can give more than it gives
pub room_left : (net : Network) (rooms : List ℕ) (v : ℕ) → IsNet net → AreRooms net rooms → v < nodes net
    → 0 < slice_index rooms v → slice_index (sink_flows net rooms) v < slice_index net.sinks v
room_left net rooms v h r l some = omega (arith, given_at net rooms v h r l, r.within v l, some)

-- where it can give more than it gives, it has room
pub left_room : (net : Network) (rooms : List ℕ) (v : ℕ) → IsNet net → AreRooms net rooms → v < nodes net
    → slice_index (sink_flows net rooms) v < slice_index net.sinks v → 0 < slice_index rooms v
left_room net rooms v h r l more = omega (arith, given_at net rooms v h r l, more)

less_set : (sinks rooms : List ℕ) (v room : ℕ)
    → zip2 (λ sink room. sink - room) sinks (set rooms v room) ≡ set (zip2 (λ sink room. sink - room) sinks rooms) v (slice_index sinks v - room)
less_set [] rooms v room = refl
less_set (x ∷ xs) [] v room = refl
less_set (x ∷ xs) (y ∷ ys) zero room = refl
less_set (x ∷ xs) (y ∷ ys) (suc v) room = ap (λ (rest : List ℕ). (x - y) ∷ rest) (less_set xs ys v room)

-- where a room falls, the node gives so much more
pub given_set : (net : Network) (rooms : List ℕ) (v z : ℕ) → IsNet net → AreRooms net rooms → v < nodes net → z ≤ slice_index rooms v
    → sink_flows net (set rooms v (slice_index rooms v - z)) ≡ set (sink_flows net rooms) v (slice_index (sink_flows net rooms) v + z)
given_set net rooms v z h r l small =
    let more : slice_index net.sinks v - (slice_index rooms v - z) ≡ slice_index (sink_flows net rooms) v + z = omega (arith, given_at net rooms v h r l, r.within v l, small) in
    less_set net.sinks rooms v (slice_index rooms v - z) ∙ ap (λ amount. set (sink_flows net rooms) v amount) more

-- a room may fall
pub rooms_set : (net : Network) (rooms : List ℕ) (v room : ℕ) → AreRooms net rooms → v < nodes net → room ≤ slice_index rooms v
    → AreRooms net (set rooms v room)
rooms_set net rooms v room r l low = record {
  len = length-set rooms v room ∙ r.len;
  within = λ u lu. elim (cases_eq u v) [
    | inl same ↦
        let here = get_or-set_same rooms v room 0 (omega (arith, r.len, l)) in
        let e1 = ap (slice_index (set rooms v room)) same in
        let e2 = ap (slice_index net.sinks) same in
        omega (arith, here, e1, e2, low, r.within v l)
    | inr other ↦ omega (arith, get_or-set_other rooms v u room 0 other, r.within u lu)
  ];
}

-- at the start the rooms are all that the nodes can give
pub sinks_rooms : (net : Network) → IsNet net → AreRooms net net.sinks
sinks_rooms net h = record { len = h.same; within = λ v l. omega arith }

-- and then nothing is given
pub given_none : (net : Network) (v : ℕ) → IsNet net → slice_index (sink_flows net net.sinks) v ≡ 0
given_none net v h = elim (cases_lt v (nodes net)) [
  | inl l ↦ omega (arith, given_at net net.sinks v h (sinks_rooms net h) l)
  | inr past ↦ get_or_past (sink_flows net net.sinks) v 0 (omega (arith, length-given net net.sinks h (sinks_rooms net h), past))
]
