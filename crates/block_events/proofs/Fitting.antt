-- How many messages a way can have: one for each direction between its two blocks.
use Rattle.std.proofs.Common.{◌≡◌, ℕ, zero, suc, ◌+◌, ◌<◌, ◌≤◌, Bool, true, false, List, [], length, get_or, Some, None, Option, refl, ◌∙◌, arith}
use Rattle.std.proofs.lemmas.Bool.{eq-eqb, false≢true}
use Rattle.sums.specs.Sums.{count_if}
use Rattle.flow_network.specs.Cut.{Network}
use Rattle.block_events.specs.declared.direction.Direction.{Direction}
use Rattle.block_events.specs.declared.message.Message.{Message}
use Rattle.block_events.specs.declared.message.Message.TheVariants.{Parcel, Accepted, Refused}
use Rattle.block_events.specs.Directions.{forward, backward, IsDirection, over_directions}
use Rattle.block_events.specs.States.{State, Lanes, Flight, way_at, over_messages, flight_of}
use Rattle.block_events.specs.Soundness.{IsSound, IsSquare, Belongs, direction_of, names, out}
use Rattle.block_events.proofs.Local.{names_same, belongs_direction}
use Rattle.std.proofs.Common.{sum_by}
use Rattle.std.specs.Prelude.{◌||◌}
use Rattle.std.proofs.lemmas.Bool.{and_from}
use Rattle.std.proofs.lemmas.List.Sums.{get_or-le-sum_by}
use Rattle.sums.specs.Sums.{sum_below}
use Rattle.sums.proofs.SumLemmas.{sum_below-le, sum_below-swap, sum_below-add, sum_below-counted, sum_by-sum_below, term-le-sum_below, counted-true}
use Rattle.block_events.specs.Soundness.{joins, room_between}

or_left : (t u : Bool) → t ≡ true → (t || u) ≡ true
or_left true u h = refl
or_left false u h = absurd (false≢true h)

or_right : (t u : Bool) → u ≡ true → (t || u) ≡ true
or_right true u h = refl
or_right false true h = refl
or_right false false h = absurd (false≢true h)

-- a message joins the two blocks of its way
belongs_joins : (net : Network) (blocks : ℕ) (lanes : Lanes) (labels : List ℕ) (b c : ℕ) (m : Message) → Belongs net blocks lanes labels b c m → joins net blocks b c (direction_of m) ≡ true
belongs_joins net blocks lanes labels b c (Parcel x a d) o = or_left _ _ (and_from _ _ (eq-eqb _ b o.near) (eq-eqb _ c o.far))
belongs_joins net blocks lanes labels b c (Accepted x a) (d, o) = or_right _ _ (and_from _ _ (eq-eqb _ c o.near) (eq-eqb _ b o.far))
belongs_joins net blocks lanes labels b c (Refused x a d told) o = or_right _ _ (and_from _ _ (eq-eqb _ c o.0.near) (eq-eqb _ b o.0.far))

way-le-messages : (n : ℕ) (f : Message → ℕ) (ways : List (List (List Message))) (b c : ℕ) → IsSquare n ways → b < n → c < n → sum_by f (way_at ways b c) ≤ over_messages f ways
way-le-messages n f ways b c sq lb lc =
    let row = get_or ways b [] in
    let one = get_or-le-sum_by (λ (r : List (List Message)). sum_by (λ w. sum_by f w) r) ways b [] (omega (arith, sq.rows)) in
    let two = get_or-le-sum_by (λ (w : List Message). sum_by f w) row c [] (omega (arith, sq.columns b lb)) in
    omega (arith, one, two)

counted_le : (t : Bool) (y z : ℕ) → y ≤ z → count_if t y ≤ count_if t z
counted_le true y z h = h
counted_le false y z h = omega arith

out-le-one : (f : Option Flight) → out f ≤ 1
out-le-one None = omega arith
out-le-one (Some f) = omega arith

-- the term at a direction is at most the sum over all
direction-le : (m k : ℕ) (b : Bool) (f : Direction → ℕ) → k < m → f (record { arc = k; back = b }) ≤ over_directions m f
direction-le m k true f l = omega (arith, term-le-sum_below m (λ i. f (forward i) + f (backward i)) k l)
direction-le m k false f l = omega (arith, term-le-sum_below m (λ i. f (forward i) + f (backward i)) k l)

at_least_ones : (n : ℕ) (f : ℕ → ℕ) → ((i : ℕ) → i < n → 1 ≤ f i) → n ≤ sum_below n f
at_least_ones zero f h = omega arith
at_least_ones (suc n) f h = omega (arith, at_least_ones n f (λ i l. h i (omega arith)), h n (omega arith))

pub way_fits : (s : State) (b c : ℕ) → IsSound s → b < s.blocks → c < s.blocks → length (way_at s.ways b c) ≤ room_between s.net s.blocks b c
way_fits s b c sound lb lc =
    let way = way_at s.ways b c in
    let n = length way in
    let m = length s.net.arcs in
    let none : Message = Accepted (forward 0) 0 in
    let J = λ (x : Direction). joins s.net s.blocks b c x in
    let at = λ (i : ℕ). get_or way i none in
    let term = λ (x : Direction) (i : ℕ). count_if (J x) (names x (at i)) in
    let ones = at_least_ones n (λ i. over_directions m (λ x. term x i)) (λ i li.
    let o = sound.messages.belong b c i none li in
    let x = direction_of (at i) in
    let whole : term x i ≡ 1 = counted-true (J x) (names x (at i)) (belongs_joins s.net s.blocks s.lanes s.labels b c (at i) o) ∙ names_same x in
    let part = direction-le m x.arc x.back (λ y. term y i) (belongs_direction s.net s.blocks s.lanes s.labels b c (at i) o) in
    omega (arith, whole, part)) in
    let turn = sum_below-swap n m (λ i k. term (forward k) i + term (backward k) i) in
    let each = λ (x : Direction) (l : IsDirection s.net x).
    let all = sum_below-counted n (J x) (λ i. names x (at i)) in
    let is = sum_by-sum_below (names x) way none in
    let few = way-le-messages s.blocks (names x) s.ways b c sound.sized.ways lb lc in
    let most : sum_below n (λ i. names x (at i)) ≤ 1 = omega (arith, is, few, sound.messages.named x l, out-le-one (flight_of s x)) in
    let low = counted_le (J x) (sum_below n (λ i. names x (at i))) 1 most in
    let done : sum_below n (λ i. term x i) ≤ count_if (J x) 1 = omega (arith, all, low) in
    done in
    let few = sum_below-le m (λ k. sum_below n (λ i. term (forward k) i + term (backward k) i)) (λ k. count_if (J (forward k)) 1 + count_if (J (backward k)) 1)
    (λ k l. omega (arith, sum_below-add n (λ i. term (forward k) i) (λ i. term (backward k) i), each (forward k) l, each (backward k) l)) in
    omega (arith, ones, turn, few)
