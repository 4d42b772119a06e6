-- Seats that are dealt, and the turns that they drew.
use Rattle.std.proofs.Common.{◌≡◌, ℕ, suc, ◌+◌, ◌*◌, ◌/◌, ◌<◌, List, [], ◌∷◌, ◌++◌, length, map, get_or, refl, sym, ◌∙◌, ap, subst, inl, inr, arith}
use Rattle.std.proofs.Math.Nat.{lt-div-mul-add, suc-mul}
use Rattle.std.proofs.lemmas.Bool.{cases_lt}
use Rattle.std.proofs.lemmas.List.Sums.{sum_by-cons}
use Rattle.std.proofs.lemmas.List.{get_or-map, get_or_past, get_or_at, length-append, length-map}
use Rattle.block_workers.specs.declared.seat.Seat.{Seat}
use Rattle.block_workers.specs.Workers.{AreNew, turns_of}
use Rattle.rounds.specs.Dealing.{hand, AreDealt}

pub no_turns : (seats : List Seat) → AreNew seats → turns_of seats ≡ 0
no_turns [] new = refl
no_turns (x ∷ xs) new =
    let first : x.turn ≡ 0 = new 0 x (omega arith) in
    let rest : turns_of xs ≡ 0 = no_turns xs (λ i d below. new (suc i) d (omega (arith, below))) in
    sum_by-cons (λ (s : Seat). s.turn) x xs ∙ omega (arith, first, rest)

-- each hand of seats that drew no turn
pub new_hands : (t : ℕ) (seats : List Seat) (hands : List (List Seat)) → AreDealt t seats hands → AreNew seats → (w : ℕ) → AreNew (hand hands w)
new_hands t seats hands dealt new w i d below = elim (cases_lt w t) [
  | inl low ↦
      let inside = (dealt.shape.places i w low).0 below in
      ap (λ (s : Seat). s.turn) (dealt.each i w d low inside) ∙ new (i * t + w) d inside
  | inr high ↦
      let none : hand hands w ≡ [] = get_or_past hands w [] (omega (arith, high, dealt.shape.len)) in
      absurd (omega (arith, below, ap length none))
]

pub enough : (n t : ℕ) → 0 < t → n < (n / t + 1) * t
enough n t some =
    let e : n < n / t * t + t = lt-div-mul-add some in
    omega (arith, e, suc-mul (n / t) t)

-- what a holder of each hand holds
pub each_held : {V : Type 0} → (f : V → List Seat) (P : List Seat → Type 0) (vs : List V) (hands : List (List Seat)) → map f vs ≡ hands → ((w : ℕ) → P (hand hands w))
    → (i : ℕ) (d : V) → i < length vs → P (f (get_or vs i d))
each_held f P vs hands is each i d below =
    subst P (ap (λ h. hand h i) (sym is) ∙ get_or-map f vs i d [] below) (each i)

-- the hand that comes next
pub next_hand : {V W : Type 0} → (f : V → List Seat) (g : W → List Seat) (vs : List V) (w : W) (rest : List W) (hands : List (List Seat)) → map f vs ++ map g (w ∷ rest) ≡ hands → hand hands (length vs) ≡ g w
next_hand f g vs w rest hands is = ap (λ h. hand h (length vs)) (sym is) ∙ get_or_at (map f vs) (g w) (map g rest) [] (length vs) (length-map vs f)

pub less_held : {V W : Type 0} → (f : V → List Seat) (g : W → List Seat) (vs : List V) (w : W) (rest : List W) (hands : List (List Seat)) → map f vs ++ map g (w ∷ rest) ≡ hands → length vs < length hands
less_held f g vs w rest hands is =
    let all = ap length (sym is) ∙ length-append (map f vs) (map g (w ∷ rest)) in
    let long = length-map vs f in
    omega (arith, all, long)
