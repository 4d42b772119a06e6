-- The messages that are left on the way.
use Rattle.std.proofs.Common.{◌≡◌, ℕ, zero, suc, ◌+◌, ◌<◌, ◌≤◌, Bool, true, false, cond, List, [], ◌∷◌, ◌++◌, length, get_or, slice_index, sum_by, All, Some, None, Option, refl, sym, ◌∙◌, ap, inl, inr, ◌⊎◌, arith}
use Rattle.std.specs.List.{AllPairs}
use Rattle.std.proofs.lemmas.List.{get_or-append-add, length-append}
use Rattle.std.proofs.lemmas.List.Sums.{sum_by-cons, get_or-le-sum_by}
use Rattle.sums.specs.Sums.{count_if}
use Rattle.flow_network.specs.Cut.{Network}
use Rattle.block_events.specs.declared.direction.Direction.{Direction}
use Rattle.block_events.specs.declared.flight.Flight.{Flight}
use Rattle.block_events.specs.declared.message.Message.{Message}
use Rattle.block_events.specs.declared.message.Message.TheVariants.{Parcel, Accepted, Refused}
use Rattle.block_events.specs.Directions.{is_same, opposite, near, far}
use Rattle.block_events.specs.States.{State, Lane, lane_at, way_at, label_of, flight_of}
use Rattle.block_events.specs.Soundness.{Belongs, IsBehind}
use Rattle.block_events.proofs.Lanes.{near_opposite, opposite_twice}
use Rattle.block_events.proofs.Ends.{far_in}
use Rattle.block_events.specs.Workers.{IsBetween}
use Rattle.block_events.proofs.Words.{parcels, taken, back, weight_out, one, later, last_of, parcel_of, answer_of, last_append, counts_same}
use Rattle.block_events.proofs.Logs.{IsGood, IsTold, Answers, IsUnder, parcel_here, accepted_here, refused_here}
use Rattle.block_events.proofs.Adding.{in_or_none, sum_by_both}
use Rattle.block_events.proofs.Joining.{IsMet, all_right, good_new, parcels_away, taken_away, back_away, at_node_block, on_way, flights_met}

-- ---- the last of its kind, where there is at most one

-- what is of the kind counts
abbrev Counts : {A : Type 0} → (Message → Option A) → (Message → ℕ) → Type 0
Counts g count = (m : Message) → (g m ≡ None) ⊎ (1 ≤ count m)

last_none : {A : Type 0} (g : Message → Option A) (count : Message → ℕ) (way : List Message) → Counts g count → sum_by count way ≡ 0 → last_of g way ≡ None
last_none g count [] counts none = refl
last_none g count (m ∷ ms) counts none =
    let parts = sum_by-cons count m ms in
    let rest = last_none g count ms counts (omega (arith, none, parts)) in
    elim (counts m) [
      | inl off ↦ ap (λ r. later r (g m)) rest ∙ off
      | inr some ↦ absurd (omega (arith, some, none, parts))
    ]

last_found : {A : Type 0} (g : Message → Option A) (count : Message → ℕ) (way : List Message) (k : ℕ) (d : Message) (f : A) → Counts g count → sum_by count way ≤ 1
    → k < length way → g (get_or way k d) ≡ Some f → last_of g way ≡ Some f
last_found g count [] k d f counts few l is = absurd (omega (arith, l))
last_found g count (m ∷ ms) zero d f counts few l is =
    let parts = sum_by-cons count m ms in
    elim (counts m) [
      | inl off ↦ absurd (let clash : None ≡ Some f = sym off ∙ is in cc)
      | inr some ↦ ap (λ r. later r (g m)) (last_none g count ms counts (omega (arith, some, few, parts))) ∙ is
    ]
last_found g count (m ∷ ms) (suc k) d f counts few l is =
    let parts = sum_by-cons count m ms in
    ap (λ r. later r (g m)) (last_found g count ms k d f counts (omega (arith, few, parts)) (omega (arith, l)) is)

bool_counts : {A : Type 0} (t : Bool) (x : A) → (cond t (Some x) None ≡ None) ⊎ (1 ≤ count_if t 1)
bool_counts true x = inr (omega arith)
bool_counts false x = inl refl

parcel_counts : (x : Direction) (m : Message) → (parcel_of x m ≡ None) ⊎ (1 ≤ parcels one x m)
parcel_counts x (Parcel y a d) = bool_counts (is_same y x) (record { amount = a; label = d })
parcel_counts x (Accepted y a) = inl refl
parcel_counts x (Refused y a d told) = inl refl

abbrev answers : Direction → Message → ℕ
answers x m = taken one x m + back one x m

answer_counts : (x : Direction) (m : Message) → (answer_of x m ≡ None) ⊎ (1 ≤ answers x m)
answer_counts x (Parcel y a d) = inl refl
answer_counts x (Accepted y a) = elim (bool_counts (is_same y x) (Accepted y a)) [
  | inl off ↦ inl off
  | inr some ↦ inr (omega (arith, some))
]
answer_counts x (Refused y a d told) = elim (bool_counts (is_same y x) (Refused y a d told)) [
  | inl off ↦ inl off
  | inr some ↦ inr (omega (arith, some))
]

-- ---- a parcel that is left

weight_some : (o : Option Flight) → 1 ≤ weight_out one o → (f : Flight) × (o ≡ Some f) × (weight_out one o ≡ 1)
weight_some None h = absurd (omega arith)
weight_some (Some f) h = (f, refl, refl)

pub parcel_left : (old new : State) (ends : ℕ → State) → IsMet old new ends → (i j : ℕ) → i < old.blocks → j < old.blocks → (k : ℕ) (z : Message) → k < length (way_at new.ways i j)
    → (x : Direction) (a d : ℕ) → get_or (way_at new.ways i j) k z ≡ Parcel x a d → IsBetween old.net old.blocks x i j
    → flight_of new x ≡ Some (record { amount = a; label = d })
parcel_left old new ends met i j li lj k z lk x a d is o =
    let net = old.net in
    let n = old.blocks in
    let way = way_at new.ways i j in
    let node_block = at_node_block net n (parcels one x) new.ways i j met.square li lj (good_new old new ends met) (parcels_away net n one x i j o) in
    let total = on_way old new ends met one x o.direction o.border in
    let here : parcels one x (get_or way k z) ≡ 1 = ap (parcels one x) is ∙ counts_same x 1 in
    let part = get_or-le-sum_by (parcels one x) way k z lk in
    let some = weight_some (flight_of new x) (omega (arith, node_block, total, here, part)) in
    let f = some.0 in
    let lane = ap (λ (l : Lane). l.flight) (met.joined.lanes x o.direction ∙ ap (λ b. lane_at (ends b).lanes x) o.near) in
    let sent : last_of (parcel_of x) (way_at (ends i).ways i j) ≡ Some f = (met.own i li).log.last x o.direction j o f (sym lane ∙ some.1) in
    let found : last_of (parcel_of x) way ≡ Some (record { amount = a; label = d }) =
    last_found (parcel_of x) (parcels one x) way k z (record { amount = a; label = d }) (parcel_counts x) (omega (arith, node_block, total, some.2)) lk (ap (parcel_of x) is ∙ parcel_here x a d) in
    let split = ap (last_of (parcel_of x)) (met.ways i j li lj) ∙ last_append (parcel_of x) (way_at (ends j).ways i j) way in
    let same = sym sent ∙ (split ∙ ap (λ r. later r (last_of (parcel_of x) (way_at (ends j).ways i j))) found) in
    some.1 ∙ same

-- ---- an answer that is left

pub answer_left : (old new : State) (ends : ℕ → State) → IsMet old new ends → (i j : ℕ) → i < old.blocks → j < old.blocks → (k : ℕ) (z : Message) → k < length (way_at new.ways i j)
    → (x : Direction) (m : Message) → get_or (way_at new.ways i j) k z ≡ m → answer_of x m ≡ Some m → IsBetween old.net old.blocks x j i
    → (f : Flight) × (flight_of new x ≡ Some f) × Answers x f (way_at (ends i).ways i j) m
answer_left old new ends met i j li lj k z lk x m is answers_x o =
    let net = old.net in
    let n = old.blocks in
    let way = way_at new.ways i j in
    let there = way_at new.ways j i in
    let node_block_p = at_node_block net n (parcels one x) new.ways j i met.square lj li (good_new old new ends met) (parcels_away net n one x j i o) in
    let node_block_t = at_node_block net n (taken one x) new.ways i j met.square li lj (good_new old new ends met) (taken_away net n one x j i o) in
    let node_block_b = at_node_block net n (back one x) new.ways i j met.square li lj (good_new old new ends met) (back_away net n one x j i o) in
    let both = sum_by_both (taken one x) (back one x) way in
    let total = on_way old new ends met one x o.direction o.border in
    let here : 1 ≤ answers x (get_or way k z) = elim (answer_counts x (get_or way k z)) [
      | inl off ↦ absurd (let clash : None ≡ Some m = sym off ∙ (ap (answer_of x) is ∙ answers_x) in cc)
      | inr some ↦ some
    ] in
    let part = get_or-le-sum_by (answers x) way k z lk in
    let some = weight_some (flight_of new x) (omega (arith, node_block_t, node_block_b, both, total, here, part)) in
    let f = some.0 in
    let lane = ap (λ (l : Lane). l.flight) (met.joined.lanes x o.direction ∙ ap (λ b. lane_at (ends b).lanes x) o.near) in
    let sent : last_of (parcel_of x) (way_at (ends j).ways j i) ≡ Some f = (met.own j lj).log.last x o.direction i o f (sym lane ∙ some.1) in
    let none : last_of (parcel_of x) there ≡ None = last_none (parcel_of x) (parcels one x) there (parcel_counts x) (omega (arith, node_block_p, node_block_t, node_block_b, both, total, here, part, some.2)) in
    let split_p = ap (last_of (parcel_of x)) (met.ways j i lj li) ∙ last_append (parcel_of x) (way_at (ends i).ways j i) there in
    let got_f : last_of (parcel_of x) (way_at (ends i).ways j i) ≡ Some f =
    sym (split_p ∙ ap (λ r. later r (last_of (parcel_of x) (way_at (ends i).ways j i))) none) ∙ sent in
    let found : last_of (answer_of x) way ≡ Some m =
    last_found (answer_of x) (answers x) way k z m (answer_counts x) (omega (arith, node_block_t, node_block_b, both, total, some.2)) lk (ap (answer_of x) is ∙ answers_x) in
    let split_a = ap (last_of (answer_of x)) (met.ways i j li lj) ∙ last_append (answer_of x) (way_at (ends j).ways i j) way in
    let put_m = split_a ∙ ap (λ r. later r (last_of (answer_of x) (way_at (ends j).ways i j))) found in
    (f, some.1, (met.own i li).log.answered x j o f m got_f put_m)

-- ---- each message that is left belongs there

belongs_at : (old new : State) (ends : ℕ → State) → IsMet old new ends → (i j : ℕ) → i < old.blocks → j < old.blocks → (k : ℕ) (z : Message) → k < length (way_at new.ways i j)
    → (m : Message) → get_or (way_at new.ways i j) k z ≡ m → IsGood old.net old.blocks i j m → IsTold old.net (ends i).labels m
    → Belongs old.net old.blocks new.lanes new.labels i j m
belongs_at old new ends met i j li lj k z lk (Parcel x a d) is good told =
    let o = good.0 in
    record { direction = o.direction; border = o.border; near = o.near; far = o.far; some = good.1.0; flight = parcel_left old new ends met i j li lj k z lk x a d is o }
belongs_at old new ends met i j li lj k z lk (Accepted x a) is good told =
    let o = good.0 in
    let at = answer_left old new ends met i j li lj k z lk x (Accepted x a) is (accepted_here x a) o in
    (at.0.label, record { direction = o.direction; border = o.border; near = o.near; far = o.far; some = good.1; flight = at.1 ∙ ap (λ q. Some (record { amount = q; label = at.0.label })) (sym at.2.0) })
belongs_at old new ends met i j li lj k z lk (Refused x a d told') is good told =
    let o = good.0 in
    let at = answer_left old new ends met i j li lj k z lk x (Refused x a d told') is (refused_here x a d told') o in
    let label = met.joined.labels (far old.net x) (far_in old.net x met.sized.net o.direction) in
    let turn = ap (λ b. label_of (ends b) (far old.net x)) o.far in (
      record {
        direction = o.direction;
        border = o.border;
        near = o.near;
        far = o.far;
        some = good.1.0;
        flight = at.1 ∙ (ap (λ q. Some (record { amount = q; label = at.0.label })) (sym at.2.0) ∙ ap (λ q. Some (record { amount = a; label = q })) (sym at.2.1));
      },
      at.2.2,
      omega (arith, told, label, turn),
    )

pub belong_met : (old new : State) (ends : ℕ → State) → IsMet old new ends → (i j : ℕ) → All (Belongs old.net old.blocks new.lanes new.labels i j) (way_at new.ways i j)
belong_met old new ends met i j k z lk = elim (in_or_none old.blocks new.ways i j met.square) [
  | inl range ↦
      let told = all_right (IsTold old.net (ends i).labels) (way_at (ends j).ways i j) (way_at new.ways i j) (rw (met.ways i j range.0 range.1) at ((met.own i range.0).log.told j)) in
      belongs_at old new ends met i j range.0 range.1 k z lk (get_or (way_at new.ways i j) k z) refl (good_new old new ends met i j range.0 range.1 k z lk) (told k z lk)
  | inr none ↦ absurd (omega (arith, none, lk))
]

-- ---- and a parcel before an answer to the opposite direction lies below its end

order_pair : (net : Network) (labels : List ℕ) (m1 m2 : Message)
    → ((x : Direction) (n : ℕ) → m2 ≡ Accepted x n → (d : ℕ) × IsUnder x d m1 m2 × (slice_index labels (near net x) ≡ d)) → IsBehind net labels m1 m2
order_pair net labels (Parcel y a k) (Accepted x n) h = λ e.
    let at = h x n refl in
    let low = at.1 (sym (opposite_twice y) ∙ ap opposite (sym e)) refl in
    let label = ap (λ u. slice_index labels u) (ap (near net) e ∙ near_opposite net y) in
    omega (arith, low, label, at.2)
order_pair net labels (Parcel y a k) (Parcel x n d) h = tt
order_pair net labels (Parcel y a k) (Refused x n d told) h = tt
order_pair net labels (Accepted y a) m2 h = tt
order_pair net labels (Refused y a k told) m2 h = tt

accepted_between : (net : Network) (blocks i j : ℕ) (m : Message) (x : Direction) (n : ℕ) → m ≡ Accepted x n → IsGood net blocks i j m → IsBetween net blocks x j i
accepted_between net blocks i j m x n e good = (rw e at good).0

order_at : (old new : State) (ends : ℕ → State) → IsMet old new ends → (i j : ℕ) → i < old.blocks → j < old.blocks → (p q : ℕ) (z : Message) → p < q → q < length (way_at new.ways i j)
    → (x : Direction) (n : ℕ) → get_or (way_at new.ways i j) q z ≡ Accepted x n
    → (d : ℕ) × IsUnder x d (get_or (way_at new.ways i j) p z) (get_or (way_at new.ways i j) q z) × (slice_index new.labels (near old.net x) ≡ d)
order_at old new ends met i j li lj p q z lpq lq x n is =
    let way = way_at new.ways i j in
    let before = way_at (ends j).ways i j in
    let o = accepted_between old.net old.blocks i j (get_or way q z) x n is (good_new old new ends met i j li lj q z lq) in
    let at = answer_left old new ends met i j li lj q z lq x (Accepted x n) is (accepted_here x n) o in
    let f = at.0 in
    let pairs : AllPairs (IsUnder x f.label) (before ++ way) = rw (met.ways i j li lj) at at.2.1 in
    let pair = pairs (length before + p) (length before + q) z (omega (arith, lpq)) (omega (arith, lq, length-append before way)) in
    let pair' = rw (get_or-append-add before way p z, get_or-append-add before way q z) at pair in
    (f.label, pair', (flights_met old new ends met x o.direction f at.1).2)

pub order_met : (old new : State) (ends : ℕ → State) → IsMet old new ends → (i j : ℕ) → AllPairs (IsBehind old.net new.labels) (way_at new.ways i j)
order_met old new ends met i j p q z lpq lq = elim (in_or_none old.blocks new.ways i j met.square) [
  | inl range ↦
      order_pair old.net new.labels (get_or (way_at new.ways i j) p z) (get_or (way_at new.ways i j) q z)
      (λ x n is. order_at old new ends met i j range.0 range.1 p q z lpq lq x n is)
  | inr none ↦ absurd (omega (arith, none, lq))
]
