-- What a write to one number, one lane or one way changes of each part of a sound state.
use Rattle.std.proofs.Common.{◌≡◌, ℕ, ◌+◌, ◌-◌, ◌<◌, ◌≤◌, Bool, true, false, eqb, List, length, set, get_or, slice_index, sum, All, Some, None, Option, refl, ◌∙◌, ap, inl, inr, arith, get_or-set_same, get_or-set_other}
use Rattle.std.proofs.lemmas.List.Sums.{sum_by-set}
use Rattle.std.proofs.lemmas.Bool.{cases_eq}
use Rattle.sums.specs.Sums.{count_if}
use Rattle.sums.proofs.SumLemmas.{counted-same, counted-other}
use Rattle.flow_network.specs.Cut.{Network}
use Rattle.block_events.specs.declared.direction.Direction.{Direction}
use Rattle.block_events.specs.declared.message.Message.{Message}
use Rattle.block_events.specs.declared.message.Message.TheVariants.{Parcel, Accepted, Refused}
use Rattle.block_events.specs.Directions.{forward, backward, is_same, IsDirection, near, far, sum_leaving}
use Rattle.block_events.specs.States.{State, Lane, Lanes, Flight, lane_at, put_lane, way_at, over_messages}
use Rattle.block_events.specs.Soundness.{IsSized, IsOut, Belongs, IsBehind, direction_of, names, out}
use Rattle.block_events.proofs.Lanes.{IsLong, lane_same, lane_other, directions_changed, cases_direction, same_itself, not_same}
use Rattle.block_events.proofs.Ways.{EachWay, message-le-messages}

-- ---- counted numbers

pub counted_none : (b : Bool) → count_if b 0 ≡ 0
counted_none true = refl
counted_none false = refl

pub counted_add : (b : Bool) (y z : ℕ) → count_if b (y + z) ≡ count_if b y + count_if b z
counted_add true y z = refl
counted_add false y z = refl

pub counted_both : (b : Bool) (w x y z : ℕ) → w + x ≡ y + z → count_if b w + count_if b x ≡ count_if b y + count_if b z
counted_both true w x y z h = h
counted_both false w x y z h = refl

-- ---- one number of a list

pub set_at : (xs : List ℕ) (v y u : ℕ) → v < length xs
    → get_or (set xs v y) u 0 + count_if (eqb v u) (get_or xs v 0) ≡ get_or xs u 0 + count_if (eqb v u) y
set_at xs v y u l = elim (cases_eq u v) [
  | inl e ↦ rw e (omega (arith, get_or-set_same xs v y 0 l, counted-same v y, counted-same v (get_or xs v 0)))
  | inr ne ↦ omega (arith, get_or-set_other xs v u y 0 ne, counted-other v u y ne, counted-other v u (get_or xs v 0) ne)
]

pub set_less : (xs : List ℕ) (v a u : ℕ) → v < length xs → a ≤ get_or xs v 0
    → get_or (set xs v (get_or xs v 0 - a)) u 0 + count_if (eqb v u) a ≡ get_or xs u 0
set_less xs v a u l fits =
    let change = set_at xs v (get_or xs v 0 - a) u l in
    let part = counted_both (eqb v u) (get_or xs v 0 - a) a (get_or xs v 0) 0 (omega arith) in
    omega (arith, change, part, counted_none (eqb v u))

pub set_more : (xs : List ℕ) (v a u : ℕ) → v < length xs
    → get_or (set xs v (get_or xs v 0 + a)) u 0 ≡ get_or xs u 0 + count_if (eqb v u) a
set_more xs v a u l =
    let change = set_at xs v (get_or xs v 0 + a) u l in
    let part = counted_add (eqb v u) (get_or xs v 0) a in
    omega (arith, change, part)

pub sum_less : (xs : List ℕ) (v a : ℕ) → v < length xs → a ≤ get_or xs v 0 → sum (set xs v (get_or xs v 0 - a)) + a ≡ sum xs
sum_less xs v a l fits = let change = sum_by-set (λ (n : ℕ). n) xs v (get_or xs v 0 - a) 0 l in omega (arith, change)

pub sum_more : (xs : List ℕ) (v a : ℕ) → v < length xs → sum (set xs v (get_or xs v 0 + a)) ≡ sum xs + a
sum_more xs v a l = let change = sum_by-set (λ (n : ℕ). n) xs v (get_or xs v 0 + a) 0 l in omega (arith, change)

-- a number that did not fall
pub set_rises : (xs : List ℕ) (v y u : ℕ) → v < length xs → get_or xs v 0 ≤ y → get_or xs u 0 ≤ get_or (set xs v y) u 0
set_rises xs v y u l up = elim (cases_eq u v) [
  | inl e ↦ rw e (omega (arith, get_or-set_same xs v y 0 l))
  | inr ne ↦ omega (arith, get_or-set_other xs v u y 0 ne)
]

-- ---- one lane

-- what is true of each direction's lane, after one was written
pub each_lane : (m : ℕ) (lanes : Lanes) (x : Direction) (lane : Lane) (P : Direction → Lane → Type 0) → IsLong m lanes → x.arc < m
    → ((y : Direction) → (y ≡ x → ⊥) → y.arc < m → P y (lane_at lanes y)) → P x lane
    → (y : Direction) → y.arc < m → P y (lane_at (put_lane lanes x lane) y)
each_lane m lanes x lane P long l others here y ly = elim (cases_direction y x) [
  | inl e ↦ rw e (rw (lane_same m lanes x lane long l) here)
  | inr off ↦ rw (lane_other lanes x y lane off) (others y off ly)
]

-- where the written lane has the old flight, each flight is as it was
pub flights_put : (m : ℕ) (lanes : Lanes) (x : Direction) (lane : Lane) → IsLong m lanes → x.arc < m → lane.flight ≡ (lane_at lanes x).flight
    → (y : Direction) → y.arc < m → (lane_at (put_lane lanes x lane) y).flight ≡ (lane_at lanes y).flight
flights_put m lanes x lane long l same y ly =
    each_lane m lanes x lane (λ y l. l.flight ≡ (lane_at lanes y).flight) long l (λ y off ly. refl) same y ly

arc_here : (m : ℕ) (lanes : Lanes) (k : ℕ) (b : Bool) (lane : Lane) → IsLong m lanes → k < m
    → (lane_at (put_lane lanes (record { arc = k; back = b }) lane) (forward k)).residual + (lane_at (put_lane lanes (record { arc = k; back = b }) lane) (backward k)).residual
    + (lane_at lanes (record { arc = k; back = b })).residual
    ≡ (lane_at lanes (forward k)).residual + (lane_at lanes (backward k)).residual + lane.residual
arc_here m lanes k true lane long l = omega (arith, ap (λ (q : Lane). q.residual) (lane_same m lanes (backward k) lane long l))
arc_here m lanes k false lane long l = omega (arith, ap (λ (q : Lane). q.residual) (lane_same m lanes (forward k) lane long l))

-- the residuals of one arc
pub arc_changed : (m : ℕ) (lanes : Lanes) (x : Direction) (lane : Lane) (a z k : ℕ) → IsLong m lanes → x.arc < m
    → lane.residual + a ≡ (lane_at lanes x).residual + z
    → (lane_at (put_lane lanes x lane) (forward k)).residual + (lane_at (put_lane lanes x lane) (backward k)).residual + count_if (eqb x.arc k) a
    ≡ (lane_at lanes (forward k)).residual + (lane_at lanes (backward k)).residual + count_if (eqb x.arc k) z
arc_changed m lanes x lane a z k long l h = elim (cases_eq k x.arc) [
  | inl e ↦ rw e (omega (arith, counted-same x.arc a, counted-same x.arc z, h, arc_here m lanes x.arc x.back lane long l))
  | inr ne ↦
      let f = ap (λ (q : Lane). q.residual) (lane_other lanes x (forward k) lane (λ e. ne (ap (λ (z : Direction). z.arc) e))) in
      let b = ap (λ (q : Lane). q.residual) (lane_other lanes x (backward k) lane (λ e. ne (ap (λ (z : Direction). z.arc) e))) in
      omega (arith, f, b, counted-other x.arc k a ne, counted-other x.arc k z ne)
]

-- the residuals that leave a node
pub leaving_changed : (net : Network) (lanes : Lanes) (x : Direction) (lane : Lane) (a z u : ℕ) → IsLong (length net.arcs) lanes → IsDirection net x
    → lane.residual + a ≡ (lane_at lanes x).residual + z
    → sum_leaving net u (λ y. (lane_at (put_lane lanes x lane) y).residual) + count_if (eqb (near net x) u) a
    ≡ sum_leaving net u (λ y. (lane_at lanes y).residual) + count_if (eqb (near net x) u) z
leaving_changed net lanes x lane a z u long l h =
    let t = eqb (near net x) u in
    let change = directions_changed (length net.arcs) lanes x lane (λ y q. count_if (eqb (near net y) u) q.residual) long l in
    let part = counted_both t lane.residual a (lane_at lanes x).residual z h in
    omega (arith, change, part)

-- ---- messages

pub out_is : (f : Option Flight) → out f ≡ 0 → f ≡ None
out_is None h = refl
out_is (Some f) h = absurd (omega arith)

-- where no message names a direction, each message names another
pub names_other : (n : ℕ) (ways : List (List (List Message))) (x : Direction) → over_messages (names x) ways ≡ 0
    → EachWay (λ b c way. All (λ m. direction_of m ≡ x → ⊥) way) ways
names_other n ways x none b c k d l e =
    let m = get_or (way_at ways b c) k d in
    let count = message-le-messages n (names x) ways b c k d l in
    let one : names x m ≡ 1 = ap (λ (t : Bool). count_if t 1) (ap (λ (z : Direction). is_same z x) e ∙ same_itself x) in
    omega (arith, count, one, none)

pub names_same : (x : Direction) → count_if (is_same x x) 1 ≡ 1
names_same x = ap (λ (t : Bool). count_if t 1) (same_itself x)

pub names_not : (x y : Direction) → (x ≡ y → ⊥) → count_if (is_same x y) 1 ≡ 0
names_not x y off = ap (λ (t : Bool). count_if t 1) (not_same x y off)

pub out_kept : (net : Network) (blocks : ℕ) (lanes lanes' : Lanes) (x : Direction) (a d b c : ℕ) → IsOut net blocks lanes x a d b c
    → (lane_at lanes' x).flight ≡ (lane_at lanes x).flight → IsOut net blocks lanes' x a d b c
out_kept net blocks lanes lanes' x a d b c o same = record {
  direction = o.direction;
  border = o.border;
  near = o.near;
  far = o.far;
  some = o.some;
  flight = same ∙ o.flight;
}

pub belongs_kept : (net : Network) (blocks : ℕ) (lanes lanes' : Lanes) (labels labels' : List ℕ) (b c : ℕ) (m : Message)
    → Belongs net blocks lanes labels b c m
    → (IsDirection net (direction_of m) → (lane_at lanes' (direction_of m)).flight ≡ (lane_at lanes (direction_of m)).flight)
    → ((v : ℕ) → slice_index labels v ≤ slice_index labels' v)
    → Belongs net blocks lanes' labels' b c m
belongs_kept net blocks lanes lanes' labels labels' b c (Parcel x a d) o same up = out_kept net blocks lanes lanes' x a d b c o (same o.direction)
belongs_kept net blocks lanes lanes' labels labels' b c (Accepted x a) (d, o) same up = (d, out_kept net blocks lanes lanes' x a d c b o (same o.direction))
belongs_kept net blocks lanes lanes' labels labels' b c (Refused x a d told) o same up =
    (out_kept net blocks lanes lanes' x a d c b o.0 (same o.0.direction), o.1, omega (arith, o.2, up (far net x)))

pub belongs_direction : (net : Network) (blocks : ℕ) (lanes : Lanes) (labels : List ℕ) (b c : ℕ) (m : Message)
    → Belongs net blocks lanes labels b c m → IsDirection net (direction_of m)
belongs_direction net blocks lanes labels b c (Parcel x a d) o = o.direction
belongs_direction net blocks lanes labels b c (Accepted x a) (d, o) = o.direction
belongs_direction net blocks lanes labels b c (Refused x a d told) o = o.0.direction

pub behind_kept : (net : Network) (labels labels' : List ℕ) (m n : Message) → ((v : ℕ) → slice_index labels v ≤ slice_index labels' v)
    → IsBehind net labels m n → IsBehind net labels' m n
behind_kept net labels labels' (Parcel x a d) (Accepted y n) up h = λ e. omega (arith, h e, up (far net x))
behind_kept net labels labels' (Parcel x a d) (Parcel y n k) up h = tt
behind_kept net labels labels' (Parcel x a d) (Refused y n k l) up h = tt
behind_kept net labels labels' (Accepted x a) n up h = tt
behind_kept net labels labels' (Refused x a d told) n up h = tt

pub behind_parcel : (net : Network) (labels : List ℕ) (m : Message) (x : Direction) (a d : ℕ) → IsBehind net labels m (Parcel x a d)
behind_parcel net labels (Parcel y b e) x a d = tt
behind_parcel net labels (Accepted y b) x a d = tt
behind_parcel net labels (Refused y b e told) x a d = tt

pub behind_refused : (net : Network) (labels : List ℕ) (m : Message) (x : Direction) (a d told : ℕ) → IsBehind net labels m (Refused x a d told)
behind_refused net labels (Parcel y b e) x a d told = tt
behind_refused net labels (Accepted y b) x a d told = tt
behind_refused net labels (Refused y b e t) x a d told = tt

-- ---- sizes

pub long : (s : State) → IsSized s → IsLong (length s.net.arcs) s.lanes
long s sized = record { forth = sized.forth; back = sized.back }
