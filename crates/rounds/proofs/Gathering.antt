-- Hands whose cards are taken in turn: what was taken of each, and what is left.
use Rattle.std.proofs.Common.{◌≡◌, ℕ, zero, suc, ◌+◌, ◌*◌, ◌/◌, ◌%◌, ◌<◌, List, [], ◌∷◌, ◌++◌, length, map, set, get_or, replicate, sum_by, refl, sym, ◌∙◌, ap, inl, inr, arith}
use Rattle.std.proofs.Math.Nat.{mod-lt}
use Rattle.std.proofs.lemmas.Bool.{cases_eq, cases_lt}
use Rattle.std.proofs.lemmas.List.{append-nil, append_assoc, length-append, length-map, length-replicate, get_or-map, get_or-set_same, get_or-set_other, get_or_default, map-set, nil_from_length, same_lists}
use Rattle.std.proofs.lemmas.List.Folds.{sum_by-replicate}
use Rattle.std.proofs.lemmas.List.Sums.{sum_by-set, sum_by_push}
use Rattle.rounds.specs.Dealing.{hand, AreHands, AreDealt}
use Rattle.rounds.proofs.Dealing.{hand_len, dealt_more, dealt_none}
use Rattle.rounds.proofs.Filling.{round_and_turn}

module _ {X : Type 0} where
  none_in : (t w : ℕ) → hand {X = X} (replicate t []) w ≡ []
  none_in zero w = refl
  none_in (suc t) zero = refl
  none_in (suc t) (suc w) = none_in t w

  pub none_taken : (t : ℕ) → 0 < t → AreDealt {X = X} t [] (replicate t [])
  none_taken t some = dealt_none t (replicate t []) some (length-replicate t []) (none_in t)

  pub all_left : (t w : ℕ) (whole : List (List X)) → hand (replicate t []) w ++ hand whole w ≡ hand whole w
  all_left t w whole = ap (λ l. l ++ hand whole w) (none_in t w)

  pub sum_none : (g : X → ℕ) (t : ℕ) → 0 ≡ sum_by (λ h. sum_by g h) (replicate {A = List X} t [])
  sum_none g t = let e = sum_by-replicate (λ h. sum_by g h) t [] in omega (arith, e)

  -- hands for as many cards have the same lengths
  pub same_len : (t n w : ℕ) (a b : List (List X)) → AreHands t n a → AreHands t n b → w < t → length (hand b w) ≡ length (hand a w)
  same_len t n w a b one two low =
      let p = length (hand a w) in
      let q = length (hand b w) in
      elim (cases_lt p q) [
        | inl less ↦ absurd (omega (arith, (one.places p w low).1 ((two.places p w low).0 less)))
        | inr upto ↦ elim (cases_lt q p) [
          | inl more ↦ absurd (omega (arith, (two.places q w low).1 ((one.places q w low).0 more)))
          | inr least ↦ omega (arith, upto, least)
        ]
      ]

  -- where all is taken
  pub all_taken : (t n : ℕ) (parts left whole : List (List X)) → AreHands t n parts → AreHands t n whole → ((w : ℕ) → w < t → hand parts w ++ hand left w ≡ hand whole w) → parts ≡ whole
  all_taken t n parts left whole taken are both = same_lists parts whole (taken.len ∙ sym are.len) (λ w d below.
      let low : w < t = omega (arith, below, taken.len) in
      let long : length (hand whole w) ≡ length (hand parts w) = same_len t n w parts whole taken are low in
      let sum = ap length (sym (both w low)) ∙ length-append (hand parts w) (hand left w) in
      let none : hand left w ≡ [] = nil_from_length (hand left w) (omega (arith, long, sum)) in
      let same : hand parts w ≡ hand whole w = sym (append-nil (hand parts w)) ∙ (ap (λ l. hand parts w ++ l) (sym none) ∙ both w low) in
      get_or_default parts w d [] below ∙ (same ∙ get_or_default whole w [] d (omega (arith, low, are.len))))

  module _ (t n : ℕ) (cards : List X) (parts : List (List X)) (dealt : AreDealt t cards parts) (count : length cards ≡ n) where
    low : n % t < t
    low = mod-lt n dealt.shape.some

    at_round : length cards ≡ n / t * t + n % t
    at_round = count ∙ round_and_turn n t

    pub taken_more : (x : X) → AreDealt t (cards ++ x ∷ []) (set parts (n % t) (hand parts (n % t) ++ x ∷ []))
    taken_more x = dealt_more t (n / t) (n % t) cards parts x dealt at_round low

    -- a sum over all cards, hand by hand
    pub sum_more : (g : X → ℕ) (x : X) → sum_by g cards ≡ sum_by (λ h. sum_by g h) parts
        → sum_by g (cards ++ x ∷ []) ≡ sum_by (λ h. sum_by g h) (set parts (n % t) (hand parts (n % t) ++ x ∷ []))
    sum_more g x is =
        let h = hand parts (n % t) in
        let more = sum_by-set (λ l. sum_by g l) parts (n % t) (h ++ x ∷ []) [] (omega (arith, low, dealt.shape.len)) in
        omega (arith, more, is, sum_by_push g h x, sum_by_push g cards x)

    module _ {V : Type 0} (f : V → List X) (total : ℕ) (vs : List V) (v : V) (whole : List (List X)) (long : length vs ≡ t) (is : v ≡ get_or vs (n % t) v)
        (both : (w : ℕ) → w < t → hand parts w ++ hand (map f vs) w ≡ hand whole w) where
      left_here : hand (map f vs) (n % t) ≡ f v
      left_here = get_or-map f vs (n % t) v [] (omega (arith, low, long)) ∙ sym (ap f is)

      pub has_next : AreHands t total whole → n < total → 0 < length (f v)
      has_next are less =
          let taken : length (hand parts (n % t)) ≡ n / t = hand_len t (length cards) (n / t) (n % t) parts dealt.shape at_round low in
          let more : n / t < length (hand whole (n % t)) = (are.places (n / t) (n % t) low).1 (omega (arith, round_and_turn n t, less)) in
          let sum = ap length (sym (both (n % t) low)) ∙ length-append (hand parts (n % t)) (hand (map f vs) (n % t)) in
          omega (arith, taken, more, sum, ap length left_here)

      pub left_less : (v' : V) (x : X) → f v ≡ x ∷ f v' → (w : ℕ) → w < t
          → hand (set parts (n % t) (hand parts (n % t) ++ x ∷ [])) w ++ hand (map f (set vs (n % t) v')) w ≡ hand whole w
      left_less v' x step w below = elim (cases_eq w (n % t)) [
        | inl same ↦
            let h = hand parts (n % t) in
            let taken : hand (set parts (n % t) (h ++ x ∷ [])) (n % t) ≡ h ++ x ∷ [] = get_or-set_same parts (n % t) (h ++ x ∷ []) [] (omega (arith, low, dealt.shape.len)) in
            let left : hand (map f (set vs (n % t) v')) (n % t) ≡ f v' =
            ap (λ l. hand l (n % t)) (map-set f vs (n % t) v') ∙ get_or-set_same (map f vs) (n % t) (f v') [] (omega (arith, low, long, length-map vs f)) in
            rw (same, taken, left) (append_assoc h (x ∷ []) (f v') ∙ (ap (λ l. h ++ l) (sym step ∙ sym left_here) ∙ both (n % t) low))
        | inr off ↦
            let taken = get_or-set_other parts (n % t) w (hand parts (n % t) ++ x ∷ []) [] off in
            let left : hand (map f (set vs (n % t) v')) w ≡ hand (map f vs) w =
            ap (λ l. hand l w) (map-set f vs (n % t) v') ∙ get_or-set_other (map f vs) (n % t) w (f v') [] off in
            rw (taken, left) (both w below)
      ]
