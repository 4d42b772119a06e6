-- Directions, and the lane of each after one was written.
use Rattle.std.proofs.Common.{◌≡◌, ℕ, ◌+◌, ◌<◌, Bool, true, false, not, cond, eqb, length, refl, sym, ◌∙◌, ap, inl, inr, ◌⊎◌, arith, get_or-set_same, get_or-set_other}
use Rattle.std.proofs.lemmas.List.{length-set}
use Rattle.std.proofs.lemmas.Bool.{cases_eq, cases_Bool, true≢false, false≢true, eqb-true, eq-eqb, ne_eqb, and_parts, and_from}
use Rattle.sums.proofs.SumLemmas.{sum_below-change}
use Rattle.flow_network.specs.Cut.{Network}
use Rattle.block_events.specs.declared.direction.Direction.{Direction}
use Rattle.block_events.specs.Directions.{forward, backward, opposite, alike, is_same, near, far, over_directions}
use Rattle.block_events.specs.States.{Lane, Lanes, no_lane, lane_at, put_lane, near_block, far_block, is_border}

-- ---- directions

cases_sense : (b c : Bool) → (b ≡ c) ⊎ (b ≡ c → ⊥)
cases_sense true true = inl refl
cases_sense true false = inr true≢false
cases_sense false true = inr false≢true
cases_sense false false = inl refl

abbrev along : ℕ → Bool → Direction
along k b = record { arc = k; back = b }

along_same : (k j : ℕ) (b c : Bool) → k ≡ j → b ≡ c → along k b ≡ along j c
along_same k j b c e f = rw (e, f) refl

pub cases_direction : (x y : Direction) → (x ≡ y) ⊎ (x ≡ y → ⊥)
cases_direction x y = elim (cases_eq x.arc y.arc) [
  | inl e ↦ elim (cases_sense x.back y.back) [
    | inl f ↦ inl (along_same x.arc y.arc x.back y.back e f)
    | inr off ↦ inr (λ h. off (ap (λ (z : Direction). z.back) h))
  ]
  | inr off ↦ inr (λ h. off (ap (λ (z : Direction). z.arc) h))
]

not_itself : (b : Bool) → b ≡ not b → ⊥
not_itself true h = true≢false h
not_itself false h = false≢true h

not_not : (b : Bool) → not (not b) ≡ b
not_not true = refl
not_not false = refl

pub opposite_other : (x : Direction) → x ≡ opposite x → ⊥
opposite_other x h = not_itself x.back (ap (λ (z : Direction). z.back) h)

pub opposite_other' : (x : Direction) → opposite x ≡ x → ⊥
opposite_other' x h = opposite_other x (sym h)

pub opposite_twice : (x : Direction) → opposite (opposite x) ≡ x
opposite_twice x = along_same x.arc x.arc (not (not x.back)) x.back refl (not_not x.back)

cond_not : {A : Type 0} (b : Bool) (x y : A) → cond (not b) x y ≡ cond b y x
cond_not true x y = refl
cond_not false x y = refl

pub near_opposite : (net : Network) (x : Direction) → near net (opposite x) ≡ far net x
near_opposite net x = cond_not x.back _ _

pub far_opposite : (net : Network) (x : Direction) → far net (opposite x) ≡ near net x
far_opposite net x = cond_not x.back _ _

eqb_comm : (a b : ℕ) → eqb a b ≡ eqb b a
eqb_comm a b = elim (cases_eq a b) [
  | inl e ↦ eq-eqb a b e ∙ sym (eq-eqb b a (sym e))
  | inr off ↦ ne_eqb a b off ∙ sym (ne_eqb b a (λ h. off (sym h)))
]

pub border_opposite : (net : Network) (blocks : ℕ) (x : Direction) → is_border net blocks (opposite x) ≡ is_border net blocks x
border_opposite net blocks x =
    rw (near_opposite net x, far_opposite net x) (ap not (eqb_comm (far_block net blocks x) (near_block net blocks x)))

alike_itself : (b : Bool) → alike b b ≡ true
alike_itself true = refl
alike_itself false = refl

alike_means : (b c : Bool) → alike b c ≡ true → b ≡ c
alike_means true true h = refl
alike_means true false h = absurd (false≢true h)
alike_means false true h = absurd (false≢true h)
alike_means false false h = refl

pub same_itself : (x : Direction) → is_same x x ≡ true
same_itself x = and_from (eqb x.arc x.arc) (alike x.back x.back) (eq-eqb x.arc x.arc refl) (alike_itself x.back)

pub same_means : (x y : Direction) → is_same x y ≡ true → x ≡ y
same_means x y h =
    let parts = and_parts (eqb x.arc y.arc) (alike x.back y.back) h in
    along_same x.arc y.arc x.back y.back (eqb-true x.arc y.arc parts.0) (alike_means x.back y.back parts.1)

pub not_same : (x y : Direction) → (x ≡ y → ⊥) → is_same x y ≡ false
not_same x y off = elim (cases_Bool (is_same x y)) [
  | inl yes' ↦ absurd (off (same_means x y yes'))
  | inr no' ↦ no'
]

-- ---- lanes

pub record IsLong (m : ℕ) (lanes : Lanes) : Type 0 where
  pub forth : length lanes.forth ≡ m
  pub back : length lanes.back ≡ m

same_at : (m : ℕ) (lanes : Lanes) (k : ℕ) (b : Bool) (lane : Lane) → IsLong m lanes → k < m → lane_at (put_lane lanes (along k b) lane) (along k b) ≡ lane
same_at m lanes k true lane long l = get_or-set_same lanes.back k lane no_lane (omega (arith, long.back))
same_at m lanes k false lane long l = get_or-set_same lanes.forth k lane no_lane (omega (arith, long.forth))

pub lane_same : (m : ℕ) (lanes : Lanes) (x : Direction) (lane : Lane) → IsLong m lanes → x.arc < m → lane_at (put_lane lanes x lane) x ≡ lane
lane_same m lanes x lane long l = same_at m lanes x.arc x.back lane long l

other_at : (lanes : Lanes) (k j : ℕ) (b c : Bool) (lane : Lane) → (j ≡ k → c ≡ b → ⊥) → lane_at (put_lane lanes (along k b) lane) (along j c) ≡ lane_at lanes (along j c)
other_at lanes k j true true lane off = get_or-set_other lanes.back k j lane no_lane (λ e. off e refl)
other_at lanes k j true false lane off = refl
other_at lanes k j false true lane off = refl
other_at lanes k j false false lane off = get_or-set_other lanes.forth k j lane no_lane (λ e. off e refl)

pub lane_other : (lanes : Lanes) (x y : Direction) (lane : Lane) → (y ≡ x → ⊥) → lane_at (put_lane lanes x lane) y ≡ lane_at lanes y
lane_other lanes x y lane off = other_at lanes x.arc y.arc x.back y.back lane (λ e f. off (along_same y.arc x.arc y.back x.back e f))

long_at : (m : ℕ) (lanes : Lanes) (k : ℕ) (b : Bool) (lane : Lane) → IsLong m lanes → IsLong m (put_lane lanes (along k b) lane)
long_at m lanes k true lane long = record { forth = long.forth; back = length-set lanes.back k lane ∙ long.back }
long_at m lanes k false lane long = record { forth = length-set lanes.forth k lane ∙ long.forth; back = long.back }

pub long_put : (m : ℕ) (lanes : Lanes) (x : Direction) (lane : Lane) → IsLong m lanes → IsLong m (put_lane lanes x lane)
long_put m lanes x lane long = long_at m lanes x.arc x.back lane long

-- ---- sums over directions

changed_at : (m : ℕ) (lanes : Lanes) (k : ℕ) (b : Bool) (lane : Lane) (f : Direction → Lane → ℕ) → IsLong m lanes → k < m
    → (f (forward k) (lane_at (put_lane lanes (along k b) lane) (forward k)) + f (backward k) (lane_at (put_lane lanes (along k b) lane) (backward k))) + f (along k b) (lane_at lanes (along k b))
    ≡ (f (forward k) (lane_at lanes (forward k)) + f (backward k) (lane_at lanes (backward k))) + f (along k b) lane
changed_at m lanes k true lane f long l = omega (arith, ap (f (backward k)) (same_at m lanes k true lane long l))
changed_at m lanes k false lane f long l = omega (arith, ap (f (forward k)) (same_at m lanes k false lane long l))

-- a sum over all directions of what depends on the lane of each, after one lane was written
pub directions_changed : (m : ℕ) (lanes : Lanes) (x : Direction) (lane : Lane) (f : Direction → Lane → ℕ) → IsLong m lanes → x.arc < m
    → over_directions m (λ y. f y (lane_at (put_lane lanes x lane) y)) + f x (lane_at lanes x)
    ≡ over_directions m (λ y. f y (lane_at lanes y)) + f x lane
directions_changed m lanes x lane f long l =
    let old = λ (k : ℕ). f (forward k) (lane_at lanes (forward k)) + f (backward k) (lane_at lanes (backward k)) in
    let new = λ (k : ℕ). f (forward k) (lane_at (put_lane lanes x lane) (forward k)) + f (backward k) (lane_at (put_lane lanes x lane) (backward k)) in
    let change = sum_below-change m x.arc old new l (λ i h ne.
    let e1 = ap (f (forward i)) (lane_other lanes x (forward i) lane (λ e. ne (ap (λ (z : Direction). z.arc) e))) in
    let e2 = ap (f (backward i)) (lane_other lanes x (backward i) lane (λ e. ne (ap (λ (z : Direction). z.arc) e))) in
    omega (arith, e1, e2)) in
    let here = changed_at m lanes x.arc x.back lane f long l in
    omega (arith, change, here)
