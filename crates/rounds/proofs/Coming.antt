-- Hands that come back from work.
use Rattle.std.proofs.Common.{◌≡◌, ℕ, ◌+◌, ◌*◌, ◌/◌, ◌%◌, ◌<◌, List, [], length, map, get_or, sym, ◌∙◌, ap, subst, inl, inr, arith}
use Rattle.std.proofs.Math.Nat.{mod-lt}
use Rattle.std.proofs.lemmas.Bool.{cases_lt}
use Rattle.std.proofs.lemmas.List.{get_or-map, length-map}
use Rattle.block_workers.specs.declared.seat.Seat.{Seat}
use Rattle.block_workers.specs.Workers.{AllWorked, HasWorked}
use Rattle.block_workers.proofs.Places.{at_place}
use Rattle.rounds.specs.Dealing.{hand, AreHands}
use Rattle.rounds.specs.Laws.{AreWorked, HandsComeBack, SeatsAreWorked}
use Rattle.rounds.proofs.Filling.{round_and_turn}

pub hands_come_back : HandsComeBack
hands_come_back t n old new are worked = record {
  some = are.some;
  len = worked.len ∙ are.len;
  places = λ q w low. rw ((worked.each w (omega (arith, low, are.len))).seats) (are.places q w low);
}

not_more : {X : Type 0} → (t m n : ℕ) (hands : List (List X)) → AreHands t m hands → AreHands t n hands → m < n → ⊥
not_more t m n hands one two less =
    let low : m % t < t = mod-lt m one.some in
    let at : m ≡ m / t * t + m % t = round_and_turn m t in
    let place = (two.places (m / t) (m % t) low).1 (omega (arith, at, less)) in
    let inside = (one.places (m / t) (m % t) low).0 place in
    absurd (omega (arith, at, inside))

-- hands tell how many cards they are for
pub same_count : {X : Type 0} → (t m n : ℕ) (hands : List (List X)) → AreHands t m hands → AreHands t n hands → m ≡ n
same_count t m n hands one two = elim (cases_lt m n) [
  | inl less ↦ absurd (not_more t m n hands one two less)
  | inr upto ↦ elim (cases_lt n m) [
    | inl more ↦ absurd (not_more t n m hands two one more)
    | inr least ↦ omega (arith, upto, least)
  ]
]

pub seats_are_worked : SeatsAreWorked
seats_are_worked t old new dealt back before worked after =
    let are = hands_come_back t (length old) dealt back before.shape worked in
    let len : length new ≡ length old = same_count t (length new) (length old) back after.shape are in
    record {
      seats = len;
      each = λ b d below.
          let q = b / t in
          let w = b % t in
          let low : w < t = mod-lt b before.shape.some in
          let at : b ≡ q * t + w = round_and_turn b t in
          let inside : q * t + w < length old = omega (arith, at, below) in
          let here = worked.each w (omega (arith, low, before.shape.len)) in
          let was : get_or (hand dealt w) q d ≡ get_or old b d = before.each q w d low inside ∙ ap (λ i. get_or old i d) (sym at) in
          let is : get_or (hand back w) q d ≡ get_or new b d = after.each q w d low (omega (arith, inside, len)) ∙ ap (λ i. get_or new i d) (sym at) in
          subst (λ x. HasWorked x (get_or new b d)) was (subst (λ y. HasWorked (get_or (hand dealt w) q d) y) is (here.each q d ((before.shape.places q w low).1 inside)));
    }

-- what workers hold, by what is said of each worker
pub workers_worked : {W : Type 0} → (seats : W → List Seat) (workers back : List W) → length back ≡ length workers
    → ((i : ℕ) (d : W) → i < length workers → AllWorked (seats (get_or workers i d)) (seats (get_or back i d)))
    → AreWorked (map seats workers) (map seats back)
workers_worked seats workers back len each = record {
  len = length-map back seats ∙ (len ∙ sym (length-map workers seats));
  each = λ w below.
      let low : w < length workers = omega (arith, below, length-map workers seats) in
      let d = at_place workers w low in
      let was : hand (map seats workers) w ≡ seats (get_or workers w d) = get_or-map seats workers w d [] low in
      let is : hand (map seats back) w ≡ seats (get_or back w d) = get_or-map seats back w d [] (omega (arith, low, len)) in
      rw (was, is) (each w d low);
}
