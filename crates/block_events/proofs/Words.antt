-- What a block's ways tell of a direction, and how that changes by one more message.
use Rattle.std.proofs.Common.{◌≡◌, ℕ, ◌<◌, Bool, true, not, cond, eqb, List, [], ◌∷◌, ◌++◌, length, All, Some, None, Option, refl, sym, ◌∙◌, ap, inl, inr, ◌⊎◌, arith}
use Rattle.std.proofs.lemmas.Bool.{cases_eq, eq-eqb, false≢true}
use Rattle.std.proofs.lemmas.List.{length_push, get_or_push, get_or_append_left, length-append}
use Rattle.sums.specs.Sums.{count_if}
use Rattle.flow_network.specs.Cut.{Network}
use Rattle.block_events.specs.declared.direction.Direction.{Direction}
use Rattle.block_events.specs.declared.flight.Flight.{Flight}
use Rattle.block_events.specs.declared.message.Message.{Message}
use Rattle.block_events.specs.declared.message.Message.TheVariants.{Parcel, Accepted, Refused}
use Rattle.block_events.specs.Directions.{is_same, opposite}
use Rattle.block_events.specs.States.{State, way_at, put_message, near_block, far_block, block_of}
use Rattle.block_events.specs.Soundness.{IsSquare, IsSized}
use Rattle.block_events.proofs.Lanes.{same_itself, not_same, near_opposite, far_opposite, border_opposite}
use Rattle.block_events.proofs.Ways.{way_same, way_other}
use Rattle.block_events.proofs.Ends.{near_block_in, far_block_in}
use Rattle.block_events.specs.Workers.{IsBetween}

-- ---- directions between blocks

not_same_block : (a b : ℕ) → not (eqb a b) ≡ true → a ≡ b → ⊥
not_same_block a b h e = false≢true (sym (ap not (eq-eqb a b e)) ∙ h)

pub apart : (net : Network) (blocks : ℕ) (x : Direction) (b c : ℕ) → IsBetween net blocks x b c → b ≡ c → ⊥
apart net blocks x b c o e = not_same_block (near_block net blocks x) (far_block net blocks x) o.border (o.near ∙ (e ∙ sym o.far))

pub turned : (net : Network) (blocks : ℕ) (x : Direction) (b c : ℕ) → IsBetween net blocks x b c → IsBetween net blocks (opposite x) c b
turned net blocks x b c o = record {
  direction = o.direction;
  border = border_opposite net blocks x ∙ o.border;
  near = ap (block_of net blocks) (near_opposite net x) ∙ o.far;
  far = ap (block_of net blocks) (far_opposite net x) ∙ o.near;
}

pub in_range : (s : State) (x : Direction) (b c : ℕ) → IsSized s → IsBetween s.net s.blocks x b c → (b < s.blocks) × (c < s.blocks)
in_range s x b c sized o = (omega (arith, near_block_in s x sized o.direction, o.near), omega (arith, far_block_in s x sized o.direction, o.far))

-- ---- sums

abbrev pub parcels : (ℕ → ℕ) → Direction → Message → ℕ
parcels w x (Parcel y a d) = count_if (is_same y x) (w a)
parcels w x (Accepted y a) = 0
parcels w x (Refused y a d told) = 0

abbrev pub taken : (ℕ → ℕ) → Direction → Message → ℕ
taken w x (Parcel y a d) = 0
taken w x (Accepted y a) = count_if (is_same y x) (w a)
taken w x (Refused y a d told) = 0

abbrev pub back : (ℕ → ℕ) → Direction → Message → ℕ
back w x (Parcel y a d) = 0
back w x (Accepted y a) = 0
back w x (Refused y a d told) = count_if (is_same y x) (w a)

abbrev pub weight_out : (ℕ → ℕ) → Option Flight → ℕ
weight_out w (Some f) = w f.amount
weight_out w None = 0

abbrev pub self : ℕ → ℕ
self a = a

abbrev pub one : ℕ → ℕ
one a = 1

pub counts_same : (x : Direction) (z : ℕ) → count_if (is_same x x) z ≡ z
counts_same x z = ap (λ (t : Bool). count_if t z) (same_itself x)

pub counts_not : (x y : Direction) (z : ℕ) → (x ≡ y → ⊥) → count_if (is_same x y) z ≡ 0
counts_not x y z off = ap (λ (t : Bool). count_if t z) (not_same x y off)

-- ---- the last of its kind

abbrev pub later : {A : Type 0} → Option A → Option A → Option A
later (Some x) y = Some x
later None y = y

abbrev pub last_of : {A : Type 0} → (Message → Option A) → List Message → Option A
last_of g [] = None
last_of g (m ∷ ms) = later (last_of g ms) (g m)

abbrev pub parcel_of : Direction → Message → Option Flight
parcel_of x (Parcel y a d) = cond (is_same y x) (Some (record { amount = a; label = d })) None
parcel_of x (Accepted y a) = None
parcel_of x (Refused y a d told) = None

abbrev pub answer_of : Direction → Message → Option Message
answer_of x (Parcel y a d) = None
answer_of x (Accepted y a) = cond (is_same y x) (Some (Accepted y a)) None
answer_of x (Refused y a d told) = cond (is_same y x) (Some (Refused y a d told)) None

later_none : {A : Type 0} (x : Option A) → later x None ≡ x
later_none None = refl
later_none (Some x) = refl

later_later : {A : Type 0} (x y z : Option A) → later (later x y) z ≡ later x (later y z)
later_later None y z = refl
later_later (Some x) y z = refl

pub last_append : {A : Type 0} (g : Message → Option A) (xs ys : List Message) → last_of g (xs ++ ys) ≡ later (last_of g ys) (last_of g xs)
last_append g [] ys = sym (later_none (last_of g ys))
last_append g (x ∷ xs) ys = ap (λ r. later r (g x)) (last_append g xs ys) ∙ later_later (last_of g ys) (last_of g xs) (g x)

pub last_push : {A : Type 0} (g : Message → Option A) (xs : List Message) (m : Message) → last_of g (xs ++ m ∷ []) ≡ later (g m) (last_of g xs)
last_push g xs m = last_append g xs (m ∷ [])

-- ---- a way after a message was put

-- is it the way that the message went to?
pub put_at : (n : ℕ) (ways : List (List (List Message))) (i j : ℕ) (m : Message) (p q : ℕ) → IsSquare n ways → i < n → j < n
    → ((p ≡ i) × (q ≡ j) × (way_at (put_message ways i j m) p q ≡ way_at ways p q ++ m ∷ []))
    ⊎ ((p ≡ i → q ≡ j → ⊥) × (way_at (put_message ways i j m) p q ≡ way_at ways p q))
put_at n ways i j m p q sq li lj =
    elim (cases_eq p i) [
      | inl e ↦ elim (cases_eq q j) [
        | inl f ↦ inl (e, f, rw (e, f) (way_same n ways i j (way_at ways i j ++ m ∷ []) sq li lj))
        | inr off ↦ inr ((λ e f. off f), way_other n ways i j (way_at ways i j ++ m ∷ []) p q sq li (λ e f. off f))
      ]
      | inr off ↦ inr ((λ e f. off e), way_other n ways i j (way_at ways i j ++ m ∷ []) p q sq li (λ e f. off e))
    ]

-- the way that it went to
pub put_here : (n : ℕ) (ways : List (List (List Message))) (i j : ℕ) (m : Message) → IsSquare n ways → i < n → j < n
    → way_at (put_message ways i j m) i j ≡ way_at ways i j ++ m ∷ []
put_here n ways i j m sq li lj = way_same n ways i j (way_at ways i j ++ m ∷ []) sq li lj

pub put_other : (n : ℕ) (ways : List (List (List Message))) (i j : ℕ) (m : Message) (p q : ℕ) → IsSquare n ways → i < n
    → (p ≡ i → q ≡ j → ⊥) → way_at (put_message ways i j m) p q ≡ way_at ways p q
put_other n ways i j m p q sq li off = way_other n ways i j (way_at ways i j ++ m ∷ []) p q sq li off

pub all_left : (P : Message → Type 0) (xs ys : List Message) → All P (xs ++ ys) → All P xs
all_left P xs ys all k d l =
    let at = all k d (omega (arith, length-append xs ys)) in
    rw (get_or_append_left xs ys d k l) at at

pub all_last : (P : Message → Type 0) (xs : List Message) (m : Message) → All P (xs ++ m ∷ []) → P m
all_last P xs m all =
    let at = all (length xs) m (omega (arith, length_push xs m)) in
    rw (get_or_push xs m m (length xs) refl) at at

pub all_before : (n : ℕ) (P : Message → Type 0) (ways : List (List (List Message))) (i j : ℕ) (m : Message) (p q : ℕ) → IsSquare n ways → i < n → j < n
    → All P (way_at (put_message ways i j m) p q) → All P (way_at ways p q)
all_before n P ways i j m p q sq li lj all = elim (put_at n ways i j m p q sq li lj) [
  | inl here ↦ all_left P (way_at ways p q) (m ∷ []) (rw here.2 at all)
  | inr other ↦ rw other.1 at all
]

-- a message that is not of the kind leaves the last of the kind
pub last_kept : {A : Type 0} (g : Message → Option A) (n : ℕ) (ways : List (List (List Message))) (i j : ℕ) (m : Message) (p q : ℕ) → IsSquare n ways → i < n → j < n
    → g m ≡ None → last_of g (way_at (put_message ways i j m) p q) ≡ last_of g (way_at ways p q)
last_kept g n ways i j m p q sq li lj none = elim (put_at n ways i j m p q sq li lj) [
  | inl here ↦ ap (last_of g) here.2 ∙ (last_push g (way_at ways p q) m ∙ ap (λ r. later r (last_of g (way_at ways p q))) none)
  | inr other ↦ ap (last_of g) other.1
]

pub last_here : {A : Type 0} (g : Message → Option A) (n : ℕ) (ways : List (List (List Message))) (i j : ℕ) (m : Message) (f : A) → IsSquare n ways → i < n → j < n
    → g m ≡ Some f → last_of g (way_at (put_message ways i j m) i j) ≡ Some f
last_here g n ways i j m f sq li lj is =
    ap (last_of g) (put_here n ways i j m sq li lj) ∙ (last_push g (way_at ways i j) m ∙ ap (λ r. later r (last_of g (way_at ways i j))) is)
