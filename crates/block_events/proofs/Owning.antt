-- What a parcel in front brings fits: why a parcel must not stand before the answer of the opposite
-- direction.
use Rattle.std.proofs.Common.{◌≡◌, ℕ, suc, ◌+◌, ◌<◌, ◌≤◌, Bool, true, false, List, [], ◌∷◌, length, get_or, sum, Some, refl, sym, ◌∙◌, ap, inl, inr, arith}
use Rattle.std.proofs.lemmas.Bool.{cases_eq, cases_lt, cases_Bool, eq-eqb}
use Rattle.sums.specs.Sums.{count_if}
use Rattle.sums.proofs.SumLemmas.{counted-le}
use Rattle.flow_network.specs.Cut.{nodes}
use Rattle.flow_network.specs.Preflow.{arc_at}
use Rattle.flow_network.specs.Progress.{top}
use Rattle.block_events.specs.declared.direction.Direction.{Direction}
use Rattle.block_events.specs.declared.message.Message.{Message}
use Rattle.block_events.specs.declared.message.Message.TheVariants.{Parcel, Accepted, Refused}
use Rattle.block_events.specs.Directions.{forward, backward, opposite, is_same, near, far}
use Rattle.block_events.specs.States.{State, Flight, way_at, over_messages, excess_of, label_of, flight_of, residual_of, block_of, near_block, far_block}
use Rattle.block_events.specs.Soundness.{IsSound, Belongs, IsBehind, direction_of, names, carries, carries_on, out}
use Rattle.block_events.proofs.Lanes.{cases_direction, near_opposite, far_opposite}
use Rattle.block_events.proofs.Ends.{near_in, far_in}
use Rattle.block_events.proofs.Replies.{front_out}
use Rattle.std.proofs.Common.{sum_by}
use Rattle.std.proofs.lemmas.List.Sums.{sum_by-cons, sum_by-le-sum_by, get_or-le-sum_by}
use Rattle.block_events.proofs.Lanes.{same_itself, not_same, same_means, opposite_twice, opposite_other}
use Rattle.block_events.proofs.Ways.{message-le-messages}
use Rattle.block_events.proofs.Allowed.{cases_flight}
use Rattle.block_events.specs.Soundness.{amount_out}

-- ---- sums over messages

sum_by_add : {A : Type 0} (f g : A → ℕ) (xs : List A) → sum_by (λ x. f x + g x) xs ≡ sum_by f xs + sum_by g xs
sum_by_add f g [] = refl
sum_by_add f g (x ∷ xs) = omega (arith, sum_by_add f g xs, sum_by-cons (λ y. f y + g y) x xs, sum_by-cons f x xs, sum_by-cons g x xs)

sum_by_same : {A : Type 0} (f g : A → ℕ) (xs : List A) → ((x : A) → f x ≡ g x) → sum_by f xs ≡ sum_by g xs
sum_by_same f g [] same = refl
sum_by_same f g (x ∷ xs) same = omega (arith, sum_by_same f g xs same, sum_by-cons f x xs, sum_by-cons g x xs, same x)

messages_add : (f g : Message → ℕ) (ways : List (List (List Message))) → over_messages (λ m. f m + g m) ways ≡ over_messages f ways + over_messages g ways
messages_add f g ways =
    let row : (r : List (List Message)) → sum_by (λ w. sum_by (λ m. f m + g m) w) r ≡ sum_by (λ w. sum_by f w) r + sum_by (λ w. sum_by g w) r = λ r.
    sum_by_same (λ w. sum_by (λ m. f m + g m) w) (λ w. sum_by f w + sum_by g w) r (sum_by_add f g) ∙ sum_by_add (λ w. sum_by f w) (λ w. sum_by g w) r in
    sum_by_same (λ r. sum_by (λ w. sum_by (λ m. f m + g m) w) r) (λ r. sum_by (λ w. sum_by f w) r + sum_by (λ w. sum_by g w) r) ways row
    ∙ sum_by_add (λ r. sum_by (λ w. sum_by f w) r) (λ r. sum_by (λ w. sum_by g w) r) ways

messages_le : (f g : Message → ℕ) (ways : List (List (List Message))) → ((m : Message) → f m ≤ g m) → over_messages f ways ≤ over_messages g ways
messages_le f g ways le =
    sum_by-le-sum_by (λ r. sum_by (λ w. sum_by f w) r) (λ r. sum_by (λ w. sum_by g w) r) ways (λ r.
    sum_by-le-sum_by (λ w. sum_by f w) (λ w. sum_by g w) r (λ w. sum_by-le-sum_by f g w le))

some_of : {A : Type 0} (f : A → ℕ) (xs : List A) (d : A) → 0 < sum_by f xs → (k : ℕ) × (k < length xs) × (0 < f (get_or xs k d))
some_of f [] d h = absurd (omega (arith, h))
some_of f (x ∷ xs) d h = elim (cases_lt 0 (f x)) [
  | inl here ↦ (0, omega arith, here)
  | inr none ↦ let found = some_of f xs d (omega (arith, h, none, sum_by-cons f x xs)) in (suc found.0, omega (arith, found.1), found.2)
]

some_message : (f : Message → ℕ) (ways : List (List (List Message))) (d : Message) → 0 < over_messages f ways
    → (b : ℕ) × (c : ℕ) × (k : ℕ) × (k < length (way_at ways b c)) × (0 < f (get_or (way_at ways b c) k d))
some_message f ways d h =
    let row = some_of (λ r. sum_by (λ w. sum_by f w) r) ways [] h in
    let way = some_of (λ w. sum_by f w) (get_or ways row.0 []) [] row.2 in
    let m = some_of f (way_at ways row.0 way.0) d way.2 in
    (row.0, way.0, m.0, m.1, m.2)

-- ---- the two directions of an arc

abbrev carries_along : Direction → Message → ℕ
carries_along x m = count_if (is_same (direction_of m) x) (carries m)

both_along : (x : Direction) (m : Message) → carries_along x m + carries_along (opposite x) m ≤ carries_on x.arc m
both_along x m =
    let y = direction_of m in
    let a = carries m in
    elim (cases_direction y x) [
      | inl e ↦
          let one = ap (λ (t : Bool). count_if t a) (ap (λ (z : Direction). is_same z x) e ∙ same_itself x) in
          let other = ap (λ (t : Bool). count_if t a) (not_same y (opposite x) (λ h. opposite_other x (sym e ∙ h))) in
          let arc = ap (λ (t : Bool). count_if t a) (eq-eqb y.arc x.arc (ap (λ (z : Direction). z.arc) e)) in
          omega (arith, one, other, arc)
      | inr off ↦ elim (cases_direction y (opposite x)) [
        | inl e ↦
            let none = ap (λ (t : Bool). count_if t a) (not_same y x off) in
            let arc = ap (λ (t : Bool). count_if t a) (eq-eqb y.arc x.arc (ap (λ (z : Direction). z.arc) e)) in
            let part = counted-le (is_same y (opposite x)) a in
            omega (arith, none, arc, part)
        | inr off' ↦
            let none = ap (λ (t : Bool). count_if t a) (not_same y x off) in
            let none' = ap (λ (t : Bool). count_if t a) (not_same y (opposite x) off') in
            omega (arith, none, none')
      ]
    ]

names_means : (x : Direction) (m : Message) → 0 < names x m → direction_of m ≡ x
names_means x m h = elim (cases_Bool (is_same (direction_of m) x)) [
  | inl holds ↦ same_means (direction_of m) x holds
  | inr fails ↦ let none = ap (λ (t : Bool). count_if t 1) fails in absurd (omega (arith, h, none))
]

amount_is : (a d : ℕ) (g : Flight) → Some (record { amount = a; label = d }) ≡ Some g → a ≡ g.amount
amount_is a d g h = let e : record { amount = a; label = d } ≡ g = cc in ap (λ (q : Flight). q.amount) e

-- the message of the opposite direction's parcel carries its amount, where a parcel in front is to
-- be taken
opposite_carries : (s : State) (b c b' c' k : ℕ) (x : Direction) (a d : ℕ) (rest : List Message) (g : Flight) (m : Message) → IsSound s
    → way_at s.ways b c ≡ Parcel x a d ∷ rest → near_block s.net s.blocks x ≡ b → far_block s.net s.blocks x ≡ c → label_of s (far s.net x) + 1 ≡ d
    → flight_of s (opposite x) ≡ Some g → k < length (way_at s.ways b' c') → get_or (way_at s.ways b' c') k (Parcel x a d) ≡ m
    → Belongs s.net s.blocks s.lanes s.labels b' c' m → direction_of m ≡ opposite x → carries m ≡ g.amount
opposite_carries s b c b' c' k x a d rest g (Parcel y n l) sound front near' far' level flies lk at o e =
    amount_is n l g (sym o.flight ∙ (ap (flight_of s) e ∙ flies))
opposite_carries s b c b' c' k x a d rest g (Refused y n l t) sound front near' far' level flies lk at o e =
    amount_is n l g (sym o.0.flight ∙ (ap (flight_of s) e ∙ flies))
opposite_carries s b c b' c' k x a d rest g (Accepted y n) sound front near' far' level flies lk at o e =
    let here : b' ≡ b = sym o.1.far ∙ (ap (λ (z : Direction). far_block s.net s.blocks z) e ∙ (ap (block_of s.net s.blocks) (far_opposite s.net x) ∙ near')) in
    let there : c' ≡ c = sym o.1.near ∙ (ap (λ (z : Direction). near_block s.net s.blocks z) e ∙ (ap (block_of s.net s.blocks) (near_opposite s.net x) ∙ far')) in
    let same : way_at s.ways b' c' ≡ Parcel x a d ∷ rest = rw (here, there) front in
    let len = ap length same in
    elim (cases_eq k 0) [
      | inl first ↦
          let head : get_or (way_at s.ways b' c') k (Parcel x a d) ≡ Parcel x a d = rw (first, same) refl in
          let clash : Parcel x a d ≡ Accepted y n = sym head ∙ at in
          absurd (cc)
      | inr later ↦
          let pair = sound.messages.order b' c' 0 k (Parcel x a d) (omega arith) lk in
          let head : get_or (way_at s.ways b' c') 0 (Parcel x a d) ≡ Parcel x a d = rw same refl in
          let low : IsBehind s.net s.labels (Parcel x a d) (Accepted y n) = rw at at (rw head at pair) in
          let less = low e in
          absurd (omega (arith, less, level))
    ]

-- the residual of one direction is within both of its arc's
residual_at : (s : State) (k : ℕ) (b : Bool) → residual_of s (opposite (record { arc = k; back = b })) ≤ residual_of s (forward k) + residual_of s (backward k)
residual_at s k true = omega arith
residual_at s k false = omega arith

residual-le : (s : State) (x : Direction) → residual_of s (opposite x) ≤ residual_of s (forward x.arc) + residual_of s (backward x.arc)
residual-le s x = residual_at s x.arc x.back

-- in a worker's own terms: the label is within the labels, and the amount fits beside the residual
-- and the flight of the opposite direction
pub accept_fits : (s : State) (b c : ℕ) (x : Direction) (a d : ℕ) (rest : List Message) → IsSound s → way_at s.ways b c ≡ Parcel x a d ∷ rest
    → label_of s (far s.net x) + 1 ≡ d
    → (d ≤ top s.net) × (residual_of s (opposite x) + amount_out (flight_of s (opposite x)) + a ≤ (arc_at s.net x.arc).capacity)
accept_fits s b c x a d rest sound front level =
    let m : Message = Parcel x a d in
    let o = front_out s b c m rest sound front in
    let opp = opposite x in
    let k = x.arc in
    let at_x = sound.flights x o.direction (record { amount = a; label = d }) o.flight in
    let low = sound.labels.top (near s.net x) (near_in s.net x sound.sized.net o.direction) in
    let split = messages_le (λ n. carries_along x n + carries_along opp n) (carries_on k) s.ways (both_along x) in
    let add = messages_add (carries_along x) (carries_along opp) s.ways in
    let lf : 0 < length (way_at s.ways b c) = (let len = ap length front in omega (arith, len)) in
    let head : get_or (way_at s.ways b c) 0 m ≡ m = rw front refl in
    let one = message-le-messages s.blocks (carries_along x) s.ways b c 0 m lf in
    let mine : carries_along x (get_or (way_at s.ways b c) 0 m) ≡ a = ap (carries_along x) head ∙ ap (λ (t : Bool). count_if t a) (same_itself x) in
    let whole = sound.flow.arcs k o.direction in
    let sides = residual-le s x in
    let theirs : amount_out (flight_of s opp) ≤ over_messages (carries_along opp) s.ways = elim (cases_flight (flight_of s opp)) [
      | inl none ↦ omega (arith, ap amount_out none)
      | inr (g, is) ↦
          let is_one : over_messages (names opp) s.ways ≡ 1 = sound.messages.named opp o.direction ∙ ap out is in
          let found = some_message (names opp) s.ways m (omega (arith, is_one)) in
          let n = get_or (way_at s.ways found.0 found.1) found.2 m in
          let e = names_means opp n found.4 in
          let amount = opposite_carries s b c found.0 found.1 found.2 x a d rest g n sound front o.near o.far level is found.3 refl
          (sound.messages.belong found.0 found.1 found.2 m found.3) e in
          let part = message-le-messages s.blocks (carries_along opp) s.ways found.0 found.1 found.2 m found.3 in
          let here : carries_along opp n ≡ carries n = ap (λ (t : Bool). count_if t (carries n)) (ap (λ (z : Direction). is_same z opp) e ∙ same_itself opp) in
          omega (arith, ap amount_out is, amount, part, here)
    ] in
    (omega (arith, at_x.2, low), omega (arith, split, add, one, mine, whole, sides, theirs))

-- a refusal in front: the label told is within the labels, and the amount fits again
pub settle_fits : (s : State) (b c : ℕ) (x : Direction) (a d told : ℕ) (rest : List Message) → IsSound s → way_at s.ways b c ≡ Refused x a d told ∷ rest
    → (told ≤ top s.net) × (flight_of s x ≡ Some (record { amount = a; label = d })) × (residual_of s x + a ≤ (arc_at s.net x.arc).capacity)
settle_fits s b c x a d told rest sound front =
    let m : Message = Refused x a d told in
    let o = front_out s b c m rest sound front in
    let lf : 0 < length (way_at s.ways b c) = (let len = ap length front in omega (arith, len)) in
    let head : get_or (way_at s.ways b c) 0 m ≡ m = rw front refl in
    let one = message-le-messages s.blocks (carries_on x.arc) s.ways b c 0 m lf in
    let mine : carries_on x.arc (get_or (way_at s.ways b c) 0 m) ≡ a = ap (carries_on x.arc) head ∙ ap (λ (t : Bool). count_if t a) (eq-eqb x.arc x.arc refl) in
    let low = sound.labels.top (far s.net x) (far_in s.net x sound.sized.net o.0.direction) in
    let sides = residual-le s (opposite x) in
    let turn = ap (residual_of s) (opposite_twice x) in
    (omega (arith, o.2, low), o.0.flight, omega (arith, sound.flow.arcs x.arc o.0.direction, one, mine, sides, turn))

-- an excess and what a message in front carries are within what the source sends
pub excess_fits : (s : State) (b c v : ℕ) (m : Message) (rest : List Message) → IsSound s → way_at s.ways b c ≡ m ∷ rest → v < nodes s.net
    → excess_of s v + carries m ≤ sum s.net.sources
excess_fits s b c v m rest sound front lv =
    let lf : 0 < length (way_at s.ways b c) = (let len = ap length front in omega (arith, len)) in
    let head : get_or (way_at s.ways b c) 0 m ≡ m = rw front refl in
    let one = message-le-messages s.blocks carries s.ways b c 0 m lf in
    let mine = ap carries head in
    let part = get_or-le-sum_by (λ (n : ℕ). n) s.excess v 0 (omega (arith, lv, sound.sized.excess)) in
    omega (arith, sound.flow.total, one, mine, part)
