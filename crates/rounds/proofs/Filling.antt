-- Hands that hold their cards in something: the one whose turn it is gets a card more.
use Rattle.std.proofs.Common.{◌≡◌, ℕ, ◌+◌, ◌*◌, ◌%◌, ◌/◌, ◌<◌, ◌≤◌, List, All, [], ◌∷◌, ◌++◌, length, map, set, get_or, sym, ◌∙◌, ap, subst, arith}
use Rattle.std.proofs.Math.Nat.{mod-lt, div-add-mod, mul_comm, lt_of_mul-lt-mul_right}
use Rattle.std.proofs.lemmas.List.{get_or-map, map-set}
use Rattle.std.proofs.lemmas.List.Elements.{All-set}
use Rattle.rounds.specs.Dealing.{hand, AreDealt}
use Rattle.rounds.proofs.Dealing.{hand_len, dealt_more}

pub round_and_turn : (n t : ℕ) → n ≡ n / t * t + n % t
round_and_turn n t = omega (arith, div-add-mod n t, mul_comm t (n / t))

module _ {V X : Type 0} (f : V → List X) where
  held_here : (vs : List V) (w : ℕ) (v : V) → w < length vs → v ≡ get_or vs w v → hand (map f vs) w ≡ f v
  held_here vs w v below is = get_or-map f vs w v [] below ∙ sym (ap f is)

  module _ (t n : ℕ) (cards : List X) (vs : List V) (v : V) (long : length vs ≡ t) (dealt : AreDealt t cards (map f vs)) (count : length cards ≡ n) (is : v ≡ get_or vs (n % t) v) where
    here : hand (map f vs) (n % t) ≡ f v
    here = held_here vs (n % t) v (omega (arith, mod-lt n dealt.shape.some, long)) is

    at_round : length cards ≡ n / t * t + n % t
    at_round = count ∙ round_and_turn n t

    pub len_here : length (f v) ≡ n / t
    len_here = ap length (sym here) ∙ hand_len t (length cards) (n / t) (n % t) (map f vs) dealt.shape at_round (mod-lt n dealt.shape.some)

    has_room : (rooms : V → ℕ) (room : ℕ) → All (λ u. room ≤ rooms u) vs → room ≤ rooms v
    has_room rooms room all =
        let below : n % t < t = mod-lt n dealt.shape.some in
        subst (λ u. room ≤ rooms u) (sym is) (all (n % t) v (omega (arith, below, long)))

    -- where there is room for so many rounds
    pub room_here : (rooms : V → ℕ) (room : ℕ) → All (λ u. room ≤ rooms u) vs → n < room * t → length (f v) < rooms v
    room_here rooms room all more =
        let less : n / t < room = lt_of_mul-lt-mul_right t (omega (arith, round_and_turn n t, more)) in
        omega (arith, len_here, has_room rooms room all, less)

    pub rooms_stay : (rooms : V → ℕ) (room : ℕ) (v' : V) → All (λ u. room ≤ rooms u) vs → rooms v' ≡ rooms v → All (λ u. room ≤ rooms u) (set vs (n % t) v')
    rooms_stay rooms room v' all same = All-set (λ u. room ≤ rooms u) vs (n % t) v' (omega (arith, same, has_room rooms room all)) all

    pub dealt_here : (v' : V) (x : X) → f v' ≡ f v ++ x ∷ [] → AreDealt t (cards ++ x ∷ []) (map f (set vs (n % t) v'))
    dealt_here v' x push =
        let new : f v' ≡ hand (map f vs) (n % t) ++ x ∷ [] = push ∙ ap (λ l. l ++ x ∷ []) (sym here) in
        subst (AreDealt t (cards ++ x ∷ [])) (ap (λ l. set (map f vs) (n % t) l) (sym new) ∙ sym (map-set f vs (n % t) v'))
        (dealt_more t (n / t) (n % t) cards (map f vs) x dealt at_round (mod-lt n dealt.shape.some))
