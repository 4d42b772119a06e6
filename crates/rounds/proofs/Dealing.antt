-- One card more, to the hand whose turn it is.
use Rattle.std.proofs.Common.{◌≡◌, ℕ, suc, ◌+◌, ◌*◌, ◌%◌, ◌<◌, ◌≤◌, List, [], ◌∷◌, ◌++◌, length, set, get_or, sym, ◌∙◌, ap, inl, inr, arith}
use Rattle.std.proofs.Math.Nat.{suc-mul, mul-le-mul_right}
use Rattle.std.proofs.lemmas.Nat.{mod-mul-add}
use Rattle.std.proofs.lemmas.Bool.{cases_eq, cases_lt}
use Rattle.std.proofs.lemmas.List.{length-set, length-append, get_or-set_same, get_or-set_other, get_or_append_left, get_or_push}
use Rattle.rounds.specs.Dealing.{hand, AreHands, AreDealt}

-- ---- numbers of cards

pub number_less : (t p q w : ℕ) → p < q → w < t → p * t + w + 1 ≤ q * t + w
number_less t p q w less below =
    let more : suc p * t ≤ q * t = mul-le-mul_right t (omega (arith, less)) in
    omega (arith, more, suc-mul p t, below)

pub number_upto : (t p q w : ℕ) → p ≤ q → p * t + w ≤ q * t + w
number_upto t p q w upto =
    let more : p * t ≤ q * t = mul-le-mul_right t upto in
    omega (arith, more)

pub place_upto : (t p q w : ℕ) → w < t → p * t + w ≤ q * t + w → p ≤ q
place_upto t p q w below upto = elim (cases_lt q p) [
  | inl more ↦ absurd (omega (arith, number_less t q p w more below, upto))
  | inr less ↦ less
]

-- the number tells the hand
pub same_hand : (t p v q w : ℕ) → v < t → w < t → p * t + v ≡ q * t + w → v ≡ w
same_hand t p v q w low below same = sym (mod-mul-add p t v low) ∙ (ap (λ n. n % t) same ∙ mod-mul-add q t w below)

-- ---- one card more

module _ {X : Type 0} where
  pub hand_len : (t n q w : ℕ) (hands : List (List X)) → AreHands t n hands → n ≡ q * t + w → w < t → length (hand hands w) ≡ q
  hand_len t n q w hands are is below =
      let long = length (hand hands w) in
      elim (cases_lt q long) [
        | inl more ↦ absurd (omega (arith, (are.places q w below).0 more, is))
        | inr upto ↦ elim (cases_lt long q) [
          | inl less ↦ absurd (omega (arith, (are.places long w below).1 (omega (arith, is, number_less t long q w less below))))
          | inr least ↦ omega (arith, upto, least)
        ]
      ]

  pub hands_more : (t n q w : ℕ) (hands : List (List X)) (h : List X) → AreHands t n hands → n ≡ q * t + w → w < t → length h ≡ q + 1 → AreHands t (n + 1) (set hands w h)
  hands_more t n q w hands h are is below long = record {
    some = are.some;
    len = length-set hands w h ∙ are.len;
    places = λ p v low.
        elim (cases_eq v w) [
          | inl same ↦
              let here : hand (set hands w h) v ≡ h = ap (λ i. hand (set hands w h) i) same ∙ get_or-set_same hands w h [] (omega (arith, below, are.len)) in
              rw (here, long, same) (
                (λ less. let upto = number_upto t p q w (omega (arith, less)) in omega (arith, upto, is)),
                (λ less. let upto = place_upto t p q w below (omega (arith, less, is)) in omega (arith, upto)),
              )
          | inr off ↦
              let here : hand (set hands w h) v ≡ hand hands v = get_or-set_other hands w v h [] off in
              let old = are.places p v low in
              rw here (
                (λ less. let more = old.0 less in omega (arith, more)),
                (λ less. old.1 (elim (cases_eq (p * t + v) n) [
                  | inl same ↦ absurd (off (same_hand t p v q w low below (same ∙ is)))
                  | inr apart ↦ omega (arith, less, apart)
                ])),
              )
        ];
  }

  pub dealt_more : (t q w : ℕ) (cards : List X) (hands : List (List X)) (x : X) → AreDealt t cards hands → length cards ≡ q * t + w → w < t
      → AreDealt t (cards ++ x ∷ []) (set hands w (hand hands w ++ x ∷ []))
  dealt_more t q w cards hands x dealt is below =
      let h = hand hands w ++ x ∷ [] in
      let n = length cards in
      let old_long : length (hand hands w) ≡ q = hand_len t n q w hands dealt.shape is below in
      let long : length h ≡ q + 1 = omega (arith, length-append (hand hands w) (x ∷ []), old_long) in
      let all : length (cards ++ x ∷ []) ≡ n + 1 = length-append cards (x ∷ []) in
      let shape = hands_more t n q w hands h dealt.shape is below long in
      record {
        shape = rw all shape;
        each = λ p v d low inside.
            elim (cases_eq (p * t + v) n) [
              | inl same ↦
                  let at_w : v ≡ w = same_hand t p v q w low below (same ∙ is) in
                  let at_q : p ≡ q = omega (arith, place_upto t p q w below (omega (arith, same, is, at_w)), place_upto t q p w below (omega (arith, same, is, at_w))) in
                  let here : hand (set hands w h) v ≡ h = ap (λ i. hand (set hands w h) i) at_w ∙ get_or-set_same hands w h [] (omega (arith, below, dealt.shape.len)) in
                  ap (λ l. get_or l p d) here ∙ (get_or_push (hand hands w) x d p (omega (arith, old_long, at_q)) ∙ sym (get_or_push cards x d (p * t + v) (sym same)))
              | inr apart ↦
                  let old_inside : p * t + v < n = omega (arith, inside, all, apart) in
                  let was = dealt.each p v d low old_inside in
                  let place = (dealt.shape.places p v low).1 old_inside in
                  let card : get_or (cards ++ x ∷ []) (p * t + v) d ≡ get_or cards (p * t + v) d = get_or_append_left cards (x ∷ []) d (p * t + v) old_inside in
                  elim (cases_eq v w) [
                    | inl at_w ↦
                        let here : hand (set hands w h) v ≡ hand hands v ++ x ∷ [] = ap (λ i. hand (set hands w h) i) at_w ∙ (get_or-set_same hands w h [] (omega (arith, below, dealt.shape.len)) ∙ ap (λ i. hand hands i ++ x ∷ []) (sym at_w)) in
                        ap (λ l. get_or l p d) here ∙ (get_or_append_left (hand hands v) (x ∷ []) d p place ∙ (was ∙ sym card))
                    | inr off ↦
                        ap (λ l. get_or l p d) (get_or-set_other hands w v h [] off) ∙ (was ∙ sym card)
                  ]
            ];
      }

  -- no card yet
  pub dealt_none : (t : ℕ) (hands : List (List X)) → 0 < t → length hands ≡ t → ((w : ℕ) → hand hands w ≡ []) → AreDealt t [] hands
  dealt_none t hands some len none = record {
    shape = record {
      some = some;
      len = len;
      places = λ q w low. rw (none w) ((λ less. absurd (omega (arith, less))), (λ less. absurd (omega (arith, less))));
    };
    each = λ q w d low inside. absurd (omega (arith, inside));
  }
