-- The labels that a node may get.
use Rattle.std.proofs.Common.{◌≡◌, ℕ, zero, suc, ◌+◌, ◌<◌, ◌≤◌, Bool, true, false, cond, eqb, ltb, min, List, length, set, slice_index, Some, None, Option, refl, ap, inl, inr, ◌⊎◌, arith}
use Rattle.std.specs.Prelude.{◌||◌}
use Rattle.std.proofs.lemmas.Bool.{cases_eq, cases_lt, cases_Bool, eq-eqb, lt-ltb, false≢true}
use Rattle.sums.proofs.SumLemmas.{counted-same, counted-other}
use Rattle.flow_network.specs.Cut.{nodes}
use Rattle.flow_network.specs.Progress.{top}
use Rattle.block_events.specs.declared.direction.Direction.{Direction}
use Rattle.block_events.specs.declared.flight.Flight.{Flight}
use Rattle.block_events.specs.Directions.{forward, backward, IsDirection, near, far}
use Rattle.block_events.specs.States.{State, label_of, room_of, flight_of, residual_of, known_of, is_border, seen_label}
use Rattle.block_events.specs.Events.{least_below, is_open_direction, allowed_label, highest_label}
use Rattle.block_events.proofs.Local.{set_at}

-- the new label, and what it keeps to
pub record IsAllowed (s : State) (v d : ℕ) : Type 0 where
  pub node : v < nodes s.net
  pub rises : label_of s v < d
  pub top : d ≤ top s.net
  pub sink : 0 < room_of s v → d ≤ 1
  pub steep : (x : Direction) → IsDirection s.net x → near s.net x ≡ v → 0 < residual_of s x → d ≤ seen_label s x + 1
  pub idle : (x : Direction) → IsDirection s.net x → near s.net x ≡ v → flight_of s x ≡ None

-- the label at a node after one was written
pub label_at : (s : State) (v d u : ℕ) → v < length s.labels → ((u ≡ v) × (slice_index (set s.labels v d) u ≡ d)) ⊎ ((u ≡ v → ⊥) × (slice_index (set s.labels v d) u ≡ label_of s u))
label_at s v d u l = elim (cases_eq u v) [
  | inl e ↦ inl (e, rw e (omega (arith, set_at s.labels v d v l, counted-same v d, counted-same v (label_of s v))))
  | inr off ↦ inr (off, omega (arith, set_at s.labels v d u l, counted-other v u d off, counted-other v u (label_of s v) off))
]

pub seen_rises : (s : State) (labels : List ℕ) (x : Direction) → ((u : ℕ) → label_of s u ≤ slice_index labels u)
    → seen_label s x ≤ cond (is_border s.net s.blocks x) (known_of s x) (slice_index labels (far s.net x))
seen_rises s labels x up = elim (cases_Bool (is_border s.net s.blocks x)) [
  | inl border ↦ rw border (omega arith)
  | inr inner ↦ rw inner (up (far s.net x))
]

-- ---- the highest label that is allowed

pub least-le-start : (n : ℕ) (f : ℕ → ℕ) (z : ℕ) → least_below n f z ≤ z
least-le-start zero f z = omega arith
least-le-start (suc n) f z = omega (arith, least-le-start n f z)

pub least-le : (n : ℕ) (f : ℕ → ℕ) (z k : ℕ) → k < n → least_below n f z ≤ f k
least-le zero f z k l = absurd (omega arith)
least-le (suc n) f z k l = elim (cases_lt k n) [
  | inl below ↦ omega (arith, least-le n f z k below)
  | inr last ↦ let e : k ≡ n = omega arith in let same = ap f e in omega (arith, same)
]

pub lt-least : (n : ℕ) (f : ℕ → ℕ) (z x : ℕ) → x < z → ((k : ℕ) → k < n → x < f k) → x < least_below n f z
lt-least zero f z x start each = start
lt-least (suc n) f z x start each = omega (arith, lt-least n f z x start (λ k l. each k (omega arith)), each n (omega arith))

pick_min : (f : ℕ → Bool → ℕ) (k : ℕ) (b : Bool) → min (f k false) (f k true) ≤ f k b
pick_min f k true = omega arith
pick_min f k false = omega arith

start_at : (t : Bool) (z : ℕ) → 2 ≤ z → (cond t 1 z ≤ z) × (t ≡ true → cond t 1 z ≤ 1)
start_at true z h = (omega arith, λ e. omega arith)
start_at false z h = (omega arith, λ e. absurd (false≢true e))

pub highest-le-top : (s : State) (v : ℕ) → highest_label s v ≤ top s.net
highest-le-top s v =
    let start = start_at (ltb 0 (room_of s v)) (top s.net) (omega arith) in
    omega (arith, least-le-start (length s.net.arcs) (λ k. min (allowed_label s v (forward k)) (allowed_label s v (backward k))) (cond (ltb 0 (room_of s v)) 1 (top s.net)), start.0)

pub highest-le-one : (s : State) (v : ℕ) → 0 < room_of s v → highest_label s v ≤ 1
highest-le-one s v some =
    let start = start_at (ltb 0 (room_of s v)) (top s.net) (omega arith) in
    let one = start.1 (lt-ltb 0 (room_of s v) some) in
    omega (arith, least-le-start (length s.net.arcs) (λ k. min (allowed_label s v (forward k)) (allowed_label s v (backward k))) (cond (ltb 0 (room_of s v)) 1 (top s.net)), one)

pub highest-le-seen : (s : State) (v : ℕ) (x : Direction) → IsDirection s.net x → near s.net x ≡ v → is_open_direction s x ≡ true → highest_label s v ≤ seen_label s x + 1
highest-le-seen s v x lx at_v opens =
    let least = least-le (length s.net.arcs) (λ k. min (allowed_label s v (forward k)) (allowed_label s v (backward k))) (cond (ltb 0 (room_of s v)) 1 (top s.net)) x.arc lx in
    let pick = pick_min (λ k b. allowed_label s v (record { arc = k; back = b })) x.arc x.back in
    let here : eqb (near s.net x) v ≡ true = eq-eqb (near s.net x) v at_v in
    let is : allowed_label s v x ≡ seen_label s x + 1 = rw (here, opens) refl in
    omega (arith, least, pick, is)

-- residual directions are open, and border directions in flight
pub open_residual : (s : State) (x : Direction) → 0 < residual_of s x → is_open_direction s x ≡ true
open_residual s x some = rw (lt-ltb 0 (residual_of s x) some) refl

-- ---- a direction in flight

pub cases_flight : (f : Option Flight) → (f ≡ None) ⊎ ((g : Flight) × (f ≡ Some g))
cases_flight None = inl refl
cases_flight (Some g) = inr (g, refl)

or_true : (t : Bool) → (t || true) ≡ true
or_true true = refl
or_true false = refl

pub open_flight : (s : State) (x : Direction) (f : Flight) → is_border s.net s.blocks x ≡ true → flight_of s x ≡ Some f → is_open_direction s x ≡ true
open_flight s x f border is = rw (border, is) (or_true (ltb 0 (residual_of s x)))
