-- A sound state that is not finished has an enabled event other than `RaiseAll`.
use Rattle.std.proofs.Common.{◌≡◌, ℕ, zero, suc, ◌+◌, ◌-◌, ◌<◌, ◌≤◌, Bool, true, false, ◌&&◌, cond, eqb, ltb, min, List, [], ◌∷◌, length, Option, refl, sym, ◌∙◌, ap, subst, inl, inr, ◌⊎◌, arith}
use Rattle.std.specs.Option.{is_some}
use Rattle.std.proofs.lemmas.Bool.{cases_eq, cases_lt, cases_Bool, ne_eqb, false≢true}
use Rattle.sums.specs.Sums.{count_if}
use Rattle.sums.proofs.SumLemmas.{counted-same, counted-other}
use Rattle.flow_network.specs.Cut.{nodes}
use Rattle.flow_network.specs.Progress.{top}
use Rattle.block_events.specs.declared.direction.Direction.{Direction}
use Rattle.block_events.specs.declared.message.Message.{Message}
use Rattle.block_events.specs.declared.message.Message.TheVariants.{Parcel, Accepted, Refused}
use Rattle.block_events.specs.Directions.{forward, backward, IsDirection, near, far}
use Rattle.block_events.specs.States.{State, Flight, way_at, excess_of, label_of, room_of, flight_of, residual_of, known_of, is_border, seen_label, IsWay}
use Rattle.block_events.specs.Soundness.{IsSound, out}
use Rattle.block_events.proofs.Ends.{far_in}
use Rattle.block_events.proofs.Replies.{front_out}
use Rattle.std.proofs.lemmas.Bool.{ltb-true, and_parts, or_cases}
use Rattle.sums.specs.Sums.{sum_below}
use Rattle.sums.proofs.SumLemmas.{sum_below-swap, sum_below-pick, sum_below-none, term-le-sum_below}
use Rattle.block_events.specs.declared.event.Event.{Event}
use Rattle.block_events.specs.declared.event.Event.TheVariants.{PushInner, PushSink, Relabel, Send, Accept, Refuse, Settle, RaiseAll}
use Rattle.block_events.specs.Reach.{ReachesSinkIn, ReachesSink}
use Rattle.block_events.specs.Events.{IsActive, IsQuiet, is_open_direction, allowed_label, MayAccept, MayRefuse, IsEnabled}
use Rattle.block_events.specs.Soundness.{IsFinished}
use Rattle.block_events.proofs.Allowed.{lt-least}
use Rattle.block_events.proofs.Raising.{quiet_idle, seen-le}

-- ---- a search below a bound

pub search_below : (n : ℕ) (P Q : ℕ → Type 0) → ((i : ℕ) → i < n → P i ⊎ Q i) → ((i : ℕ) × (i < n) × P i) ⊎ ((i : ℕ) → i < n → Q i)
search_below zero P Q each = inr (λ i l. absurd (omega arith))
search_below (suc n) P Q each = elim (search_below n P Q (λ i l. each i (omega arith))) [
  | inl found ↦ inl (found.0, omega (arith, found.1), found.2)
  | inr none ↦ elim (each n (omega arith)) [
    | inl last ↦ inl (n, omega arith, last)
    | inr not' ↦ inr (λ i l. elim (cases_lt i n) [
      | inl below ↦ none i below
      | inr here ↦ let e : n ≡ i = omega arith in subst Q e not'
    ])
  ]
]

-- an event other than `RaiseAll` that is enabled
abbrev pub HasEvent : State → Type 0
HasEvent s = (e : Event) × (e ≡ RaiseAll → ⊥) × IsEnabled s e

-- ---- a message in front

cases_way : (way : List Message) → ((m : Message) × (rest : List Message) × (way ≡ m ∷ rest)) ⊎ (way ≡ [])
cases_way [] = inr refl
cases_way (m ∷ rest) = inl (m, rest, refl)

front_event : (s : State) (b c : ℕ) (m : Message) (rest : List Message) → IsSound s → IsWay s b c → way_at s.ways b c ≡ m ∷ rest → HasEvent s
front_event s b c (Parcel x a d) rest sound in_range e =
    let o = front_out s b c (Parcel x a d) rest sound e in
    let at_x = sound.flights x o.direction (record { amount = a; label = d }) o.flight in
    let known = sound.labels.known x o.direction o.border in
    elim (cases_lt (label_of s (far s.net x)) d) [
      | inl low ↦
          let may : MayAccept s (Parcel x a d ∷ rest) = omega (arith, at_x.1, at_x.2, known, low) in
          (Accept b c, (λ h. absurd (cc)), (in_range, rw e may))
      | inr high ↦
          let may : MayRefuse s (Parcel x a d ∷ rest) = high in
          (Refuse b c, (λ h. absurd (cc)), (in_range, rw e may))
    ]
front_event s b c (Accepted x a) rest sound in_range e = (Settle b c, (λ h. absurd (cc)), (in_range, rw e tt))
front_event s b c (Refused x a d told) rest sound in_range e = (Settle b c, (λ h. absurd (cc)), (in_range, rw e tt))

message_event : (s : State) → IsSound s → HasEvent s ⊎ IsQuiet s
message_event s sound =
    elim (search_below s.blocks (λ b. HasEvent s) (λ b. (c : ℕ) → c < s.blocks → way_at s.ways b c ≡ []) (λ b lb.
    elim (search_below s.blocks (λ c. HasEvent s) (λ c. way_at s.ways b c ≡ []) (λ c lc.
    elim (cases_way (way_at s.ways b c)) [
      | inl some ↦ inl (front_event s b c some.0 some.1 sound (lb, lc) some.2)
      | inr none ↦ inr none
    ])) [
      | inl found ↦ inl found.2
      | inr none ↦ inr none
    ])) [
      | inl found ↦ inl found.2
      | inr none ↦ inr (λ b c lb lc. none b lb c lc)
    ]

-- ---- a node with excess

allowed_at : (t u : Bool) (y z d : ℕ) → d < z → ((t ≡ true) → (u ≡ true) → d < y) → d < cond (t && u) y z
allowed_at true true y z d top h = h refl refl
allowed_at true false y z d top h = top
allowed_at false u y z d top h = top

-- a direction either lets the node push, or does not hold its label
direction_event : (s : State) (v : ℕ) (x : Direction) → IsSound s → IsQuiet s → IsActive s v → IsDirection s.net x → HasEvent s ⊎ (label_of s v < allowed_label s v x)
direction_event s v x sound quiet active lx =
    let idle = quiet_idle s sound quiet x lx in
    elim (cases_eq (near s.net x) v) [
      | inr off ↦
          let other : eqb (near s.net x) v ≡ false = ne_eqb (near s.net x) v off in
          inr (allowed_at (eqb (near s.net x) v) (is_open_direction s x) (seen_label s x + 1) (top s.net) (label_of s v) active.below (λ h. absurd (false≢true (sym other ∙ h))))
      | inl at_v ↦ elim (cases_lt 0 (residual_of s x)) [
        | inr full ↦ inr (allowed_at (eqb (near s.net x) v) (is_open_direction s x) (seen_label s x + 1) (top s.net) (label_of s v) active.below (λ h opens.
            elim (or_cases (ltb 0 (residual_of s x)) (is_border s.net s.blocks x && is_some (flight_of s x)) opens) [
              | inl some ↦ let some' = ltb-true 0 (residual_of s x) some in absurd (omega arith)
              | inr out ↦
                  let parts = and_parts (is_border s.net s.blocks x) (is_some (flight_of s x)) out in
                  absurd (false≢true (sym (ap (λ (f : Option Flight). is_some f) idle) ∙ parts.1))
            ]))
        | inl some ↦
            let label = ap (label_of s) at_v in
            let steep = sound.labels.steep x lx some in
            let active' : IsActive s (near s.net x) = subst (λ (u : ℕ). IsActive s u) (sym at_v) active in
            elim (cases_lt (label_of s v) (seen_label s x + 1)) [
              | inl low ↦ inr (allowed_at (eqb (near s.net x) v) (is_open_direction s x) (seen_label s x + 1) (top s.net) (label_of s v) active.below (λ h opens. low))
              | inr level ↦ inl (elim (cases_Bool (is_border s.net s.blocks x)) [
                | inl border ↦
                    let seen_is : seen_label s x ≡ known_of s x = rw border refl in
                    (Send x, (λ h. absurd (cc)), (lx, border, active', some, omega (arith, label, steep, level, seen_is), idle))
                | inr inner ↦
                    let seen_is : seen_label s x ≡ label_of s (far s.net x) = rw inner refl in
                    (PushInner x, (λ h. absurd (cc)), (lx, inner, active', some, omega (arith, label, steep, level, seen_is)))
              ])
            ]
      ]
    ]

start_at : (t : Bool) (z d : ℕ) → d < z → (t ≡ true → d < 1) → d < cond t 1 z
start_at true z d top h = h refl
start_at false z d top h = top

node_event : (s : State) (v : ℕ) → IsSound s → IsQuiet s → IsActive s v → HasEvent s
node_event s v sound quiet active =
    elim (search_below (length s.net.arcs) (λ k. HasEvent s) (λ k. label_of s v < min (allowed_label s v (forward k)) (allowed_label s v (backward k))) (λ k lk.
    elim (direction_event s v (forward k) sound quiet active lk) [
      | inl found ↦ inl found
      | inr forth ↦ elim (direction_event s v (backward k) sound quiet active lk) [
        | inl found ↦ inl found
        | inr back ↦ inr (omega arith)
      ]
    ])) [
      | inl found ↦ found.2
      | inr none ↦
          elim (cases_eq (label_of s v) 1) [
            | inr other ↦
                let start = start_at (ltb 0 (room_of s v)) (top s.net) (label_of s v) active.below (λ h.
                (let low = sound.labels.sink v active.node (ltb-true 0 (room_of s v) h) in omega arith)) in
                let high = lt-least (length s.net.arcs) (λ k. min (allowed_label s v (forward k)) (allowed_label s v (backward k))) (cond (ltb 0 (room_of s v)) 1 (top s.net)) (label_of s v) start none in
                (Relabel v, (λ h. absurd (cc)), (active, high))
            | inl one ↦ elim (cases_lt 0 (room_of s v)) [
              | inl some ↦ (PushSink v, (λ h. absurd (cc)), (active, some, one))
              | inr full ↦
                  let start = start_at (ltb 0 (room_of s v)) (top s.net) (label_of s v) active.below (λ h.
                  (let low = ltb-true 0 (room_of s v) h in absurd (omega arith))) in
                  let high = lt-least (length s.net.arcs) (λ k. min (allowed_label s v (forward k)) (allowed_label s v (backward k))) (cond (ltb 0 (room_of s v)) 1 (top s.net)) (label_of s v) start none in
                  (Relabel v, (λ h. absurd (cc)), (active, high))
            ]
          ]
    ]

-- ---- a label that no node has

gap_below : (n : ℕ) (f : ℕ → ℕ) → sum_below (suc n) f ≤ n → (g : ℕ) × (g < suc n) × (f g ≡ 0)
gap_below zero f h = (0, omega arith, omega (arith, h))
gap_below (suc n) f h = elim (cases_eq (f (suc n)) 0) [
  | inl none ↦ (suc n, omega arith, none)
  | inr some ↦ let found = gap_below n f (omega (arith, h, some)) in (found.0, omega (arith, found.1), found.2)
]

pick-le : (k u : ℕ) → sum_below k (λ g. count_if (eqb u g) 1) ≤ 1
pick-le k u = elim (cases_lt u k) [
  | inl inside ↦ omega (arith, sum_below-pick k u (λ g. 1) inside)
  | inr past ↦ omega (arith, sum_below-none k (λ g. count_if (eqb u g) 1) (λ g l. counted-other u g 1 (λ e. absurd (omega arith))))
]

ones : (n : ℕ) (f : ℕ → ℕ) → ((i : ℕ) → i < n → f i ≤ 1) → sum_below n f ≤ n
ones zero f h = omega arith
ones (suc n) f h = omega (arith, ones n f (λ i l. h i (omega arith)), h n (omega arith))

-- some number from 1 to n + 1 is the label of no node
pub label_gap : (n : ℕ) (f : ℕ → ℕ) → (g : ℕ) × (g < suc n) × ((v : ℕ) → v < n → f v ≡ g + 1 → ⊥)
label_gap n f =
    let has = λ (g : ℕ). sum_below n (λ v. count_if (eqb (f v - 1) g) 1) in
    let turn = sum_below-swap (suc n) n (λ g v. count_if (eqb (f v - 1) g) 1) in
    let few = ones n (λ v. sum_below (suc n) (λ g. count_if (eqb (f v - 1) g) 1)) (λ v l. pick-le (suc n) (f v - 1)) in
    let found = gap_below n has (omega (arith, turn, few)) in (
      found.0,
      found.1,
      λ v l e.
          let term = term-le-sum_below n (λ u. count_if (eqb (f u - 1) found.0) 1) v l in
          let same : f v - 1 ≡ found.0 = omega (arith, e) in
          let one = ap (λ q. count_if (eqb q found.0) 1) same ∙ counted-same found.0 1 in
          omega (arith, term, one, found.2),
    )

-- no path leads from above a gap to the sink
above_gap : (s : State) → IsSound s → (g : ℕ) → ((v : ℕ) → v < nodes s.net → label_of s v ≡ g + 1 → ⊥)
    → (d v : ℕ) → g + 1 < label_of s v → ReachesSinkIn s d v → ⊥
above_gap s sound g gap zero v high path = path
above_gap s sound g gap (suc zero) v high (lv, room) = omega (arith, high, sound.labels.sink v lv room)
above_gap s sound g gap (suc (suc d)) v high (x, lx, at_v, some, path) =
    let w = far s.net x in
    let label = ap (label_of s) at_v in
    let steep = sound.labels.steep x lx some in
    let low = seen-le s x sound lx in
    elim (cases_eq (label_of s w) (g + 1)) [
      | inl e ↦ gap w (far_in s.net x sound.sized.net lx) e
      | inr off ↦ above_gap s sound g gap (suc d) w (omega (arith, high, label, steep, low, off)) path
    ]

-- a node with the top label does not reach the sink
pub top_unreached : (s : State) (v : ℕ) → IsSound s → top s.net ≤ label_of s v → ¬ ReachesSink s v
top_unreached s v sound high = λ path.
    let gap = label_gap (nodes s.net) (label_of s) in
    above_gap s sound gap.0 gap.2 path.0 v (omega (arith, gap.1, high)) path.1

-- ---- the law

cases_active : (s : State) (v : ℕ) → v < nodes s.net → IsActive s v ⊎ ((excess_of s v ≡ 0) ⊎ (top s.net ≤ label_of s v))
cases_active s v lv = elim (cases_lt 0 (excess_of s v)) [
  | inl some ↦ elim (cases_lt (label_of s v) (top s.net)) [
    | inl below ↦ inl (record { node = lv; excess = some; below = below })
    | inr high ↦ inr (inr high)
  ]
  | inr none ↦ inr (inl (omega arith))
]

pub progress : (s : State) → IsSound s → HasEvent s ⊎ IsFinished s
progress s sound = elim (message_event s sound) [
  | inl found ↦ inl found
  | inr quiet ↦ elim (search_below (nodes s.net) (λ v. IsActive s v) (λ v. (excess_of s v ≡ 0) ⊎ (top s.net ≤ label_of s v)) (cases_active s)) [
    | inl found ↦ inl (node_event s found.0 sound quiet found.2)
    | inr none ↦ inr (record {
      quiet = quiet;
      ended = λ v lv some. elim (none v lv) [
        | inl zero' ↦ absurd (omega arith)
        | inr high ↦ top_unreached s v sound high
      ];
    })
  ]
]
