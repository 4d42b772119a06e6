-- By how much the energy of a move rises where one site turns.
use Rattle.std.proofs.Common.{◌≡◌, ◌≢◌, ℕ, ◌<◌, ◌≤◌, Bool, true, false, List, [], ◌∷◌, ℤ, pos, ◌+ℤ◌, ◌-ℤ◌, ◌≤ℤ◌, refl, sym, ap, ◌∙◌, inl, inr, arith}
use Rattle.std.specs.List.{All, sum_by}
use Rattle.std.proofs.lemmas.Int.{ints}
use Rattle.std.proofs.lemmas.Bool.{cases_eq, cases_lt}
use Rattle.std.proofs.lemmas.List.Elements.{All-head, All-tail}
use Rattle.std.proofs.lemmas.List.Sums.{sum_by-cons}
use Rattle.sums.specs.IntegerSums.{int_sum_by}
use Rattle.sums.proofs.SumLemmas.{sum_below-change}
use Rattle.label_field.specs.declared.pair.Pair.{Pair}
use Rattle.label_field.specs.PairLists.{IsPair}
use Rattle.label_energies.specs.declared.change.Move.{Move}
use Rattle.label_energies.specs.Energies.{Instance, IsInstance, data_energy, pair_cost}
use Rattle.label_energies.specs.Moves.{label_after, labelling_made, pair_entry, IsRegularPair, IsAllowed}
use Rattle.label_energies.proofs.Energy.{plain-same}
use Rattle.move_energy.specs.Assignments.{set_bit, rise, OnesWithin, IsSubmodular, IsOver}
use Rattle.move_energy.specs.MoveValues.{move_value, data_rise, pair_rise}
use Rattle.move_energy.proofs.Assignments.{set_at, set_other}

-- the energy depends on the values of the sites alone
pub move_over : (m : Instance) (move : Move) (f : ℕ → ℕ) → IsInstance m → IsOver m.sites (move_value m move f)
move_over m move f pairs x y same = ap pos (plain-same m (labelling_made move f x) (labelling_made move f y) pairs (λ p l. ap (label_after move (f p)) (same p l)))

-- so does its rise
pub rise_over : (m : Instance) (move : Move) (f : ℕ → ℕ) (u : ℕ) (x y : ℕ → Bool) → IsInstance m → ((p : ℕ) → p < m.sites → x p ≡ y p)
    → rise (move_value m move f) u x ≡ rise (move_value m move f) u y
rise_over m move f u x y pairs same =
    let set_same : (b : Bool) (k : ℕ) → k < m.sites → set_bit x u b k ≡ set_bit y u b k = λ b k l. elim (cases_eq k u) [
      | inl here ↦ set_at x u k b here ∙ sym (set_at y u k b here)
      | inr other ↦ set_other x u k b other ∙ same k l ∙ sym (set_other y u k b other)
    ] in
    let one = move_over m move f pairs (set_bit x u true) (set_bit y u true) (set_same true) in
    let none = move_over m move f pairs (set_bit x u false) (set_bit y u false) (set_same false) in
    (λ i. one i -ℤ none i)

data_parts : (m : Instance) (move : Move) (f : ℕ → ℕ) (u : ℕ) (x : ℕ → Bool) → u < m.sites
    → pos (data_energy m (labelling_made move f (set_bit x u true))) -ℤ pos (data_energy m (labelling_made move f (set_bit x u false))) ≡ data_rise m move f u
data_parts m move f u x l =
    let one = set_at x u u true refl in
    let none = set_at x u u false refl in
    let turned = λ (p : ℕ). m.data_cost p (labelling_made move f (set_bit x u true) p) in
    let stayed = λ (p : ℕ). m.data_cost p (labelling_made move f (set_bit x u false) p) in
    let here : turned u ≡ m.data_cost u (label_after move (f u) true) = ap (λ b. m.data_cost u (label_after move (f u) b)) one in
    let there : stayed u ≡ m.data_cost u (label_after move (f u) false) = ap (λ b. m.data_cost u (label_after move (f u) b)) none in
    let sums = sum_below-change m.sites u stayed turned l
    (λ p k other. ap (λ b. m.data_cost p (label_after move (f p) b)) (set_other x u p false other ∙ sym (set_other x u p true other))) in
    omega (arith, ints, here, there, sums)

add_differences : (a b c d : ℤ) → (a -ℤ b) +ℤ (c -ℤ d) ≡ (a +ℤ c) -ℤ (b +ℤ d)
add_differences a b c d = omega (arith, ints)

zero_difference : pos 0 ≡ (pos 0 -ℤ pos 0)
zero_difference = omega (arith, ints)

smooth_parts : (m : Instance) (move : Move) (f : ℕ → ℕ) (u : ℕ) (x : ℕ → Bool) (pairs : List Pair)
    → int_sum_by (pair_rise m move f u x) pairs
    ≡ pos (sum_by (pair_cost m (labelling_made move f (set_bit x u true))) pairs) -ℤ pos (sum_by (pair_cost m (labelling_made move f (set_bit x u false))) pairs)
smooth_parts m move f u x [] = zero_difference
smooth_parts m move f u x (p ∷ ps) =
    let rest = smooth_parts m move f u x ps in
    let turned = sum_by-cons (pair_cost m (labelling_made move f (set_bit x u true))) p ps in
    let stayed = sum_by-cons (pair_cost m (labelling_made move f (set_bit x u false))) p ps in
    omega (arith, ints, rest, turned, stayed)

-- all together
pub rise_parts : (m : Instance) (move : Move) (f : ℕ → ℕ) (u : ℕ) (x : ℕ → Bool) → u < m.sites
    → rise (move_value m move f) u x ≡ data_rise m move f u +ℤ int_sum_by (pair_rise m move f u x) m.pairs
rise_parts m move f u x l =
    let data_is = data_parts m move f u x l in
    let smooth_is = smooth_parts m move f u x m.pairs in
    omega (arith, ints, data_is, smooth_is)

-- the rise of a pair by the value of its other end
pub pair_rise-first : (m : Instance) (move : Move) (f : ℕ → ℕ) (u : ℕ) (x : ℕ → Bool) (pair : Pair) → pair.first ≡ u → pair.second ≢ u
    → pair_rise m move f u x pair ≡ pos (pair_entry m move f pair true (x pair.second)) -ℤ pos (pair_entry m move f pair false (x pair.second))
pair_rise-first m move f u x pair is other =
    (λ j. pos (pair_entry m move f pair (set_at x u pair.first true is j) (set_other x u pair.second true other j))
    -ℤ pos (pair_entry m move f pair (set_at x u pair.first false is j) (set_other x u pair.second false other j)))

pub pair_rise-second : (m : Instance) (move : Move) (f : ℕ → ℕ) (u : ℕ) (x : ℕ → Bool) (pair : Pair) → pair.first ≢ u → pair.second ≡ u
    → pair_rise m move f u x pair ≡ pos (pair_entry m move f pair (x pair.first) true) -ℤ pos (pair_entry m move f pair (x pair.first) false)
pair_rise-second m move f u x pair other is =
    (λ j. pos (pair_entry m move f pair (set_other x u pair.first true other j) (set_at x u pair.second true is j))
    -ℤ pos (pair_entry m move f pair (set_other x u pair.first false other j) (set_at x u pair.second false is j)))

zero_of : (z : ℤ) → z -ℤ z ≡ pos 0
zero_of z = omega (arith, ints)

pub pair_rise-none : (m : Instance) (move : Move) (f : ℕ → ℕ) (u : ℕ) (x : ℕ → Bool) (pair : Pair) → pair.first ≢ u → pair.second ≢ u
    → pair_rise m move f u x pair ≡ pos 0
pair_rise-none m move f u x pair first second =
    (λ j. pos (pair_entry m move f pair (set_other x u pair.first true first j) (set_other x u pair.second true second j))
    -ℤ pos (pair_entry m move f pair (set_other x u pair.first false first j) (set_other x u pair.second false second j)))
    ∙ zero_of (pos (pair_entry m move f pair (x pair.first) (x pair.second)))

-- of a regular term it falls as the other end turns
le_refl : (z : ℤ) → z ≤ℤ z
le_refl z = omega (arith, ints)

first_falls : (m : Instance) (move : Move) (f : ℕ → ℕ) (pair : Pair) (a b : Bool) → IsRegularPair m move f pair → (a ≡ true → b ≡ true)
    → (pos (pair_entry m move f pair true b) -ℤ pos (pair_entry m move f pair false b)) ≤ℤ (pos (pair_entry m move f pair true a) -ℤ pos (pair_entry m move f pair false a))
first_falls m move f pair true true regular within = le_refl _
first_falls m move f pair false false regular within = le_refl _
first_falls m move f pair false true regular within = omega (arith, ints, regular)
first_falls m move f pair true false regular within = absurd (let e = within refl in cc (e))

second_falls : (m : Instance) (move : Move) (f : ℕ → ℕ) (pair : Pair) (a b : Bool) → IsRegularPair m move f pair → (a ≡ true → b ≡ true)
    → (pos (pair_entry m move f pair b true) -ℤ pos (pair_entry m move f pair b false)) ≤ℤ (pos (pair_entry m move f pair a true) -ℤ pos (pair_entry m move f pair a false))
second_falls m move f pair true true regular within = le_refl _
second_falls m move f pair false false regular within = le_refl _
second_falls m move f pair false true regular within = omega (arith, ints, regular)
second_falls m move f pair true false regular within = absurd (let e = within refl in cc (e))

pair_falls : (m : Instance) (move : Move) (f : ℕ → ℕ) (u : ℕ) (x y : ℕ → Bool) (pair : Pair) → IsPair m.sites pair → IsRegularPair m move f pair
    → OnesWithin x y → pair_rise m move f u y pair ≤ℤ pair_rise m move f u x pair
pair_falls m move f u x y pair is regular within = elim (cases_eq pair.first u) [
  | inl here ↦
      let other : pair.second ≢ u = λ same. is.unequal (here ∙ sym same) in
      rw (pair_rise-first m move f u x pair here other, pair_rise-first m move f u y pair here other)
      (first_falls m move f pair (x pair.second) (y pair.second) regular (within pair.second))
  | inr apart ↦ elim (cases_eq pair.second u) [
    | inl there ↦
        rw (pair_rise-second m move f u x pair apart there, pair_rise-second m move f u y pair apart there)
        (second_falls m move f pair (x pair.first) (y pair.first) regular (within pair.first))
    | inr neither ↦
        rw (pair_rise-none m move f u x pair apart neither, pair_rise-none m move f u y pair apart neither) (le_refl (pos 0))
  ]
]

add_up : (a b c d : ℤ) → a ≤ℤ b → c ≤ℤ d → (a +ℤ c) ≤ℤ (b +ℤ d)
add_up a b c d h k = omega (arith, ints, h, k)

pairs_fall : (m : Instance) (move : Move) (f : ℕ → ℕ) (u : ℕ) (x y : ℕ → Bool) (pairs : List Pair) → All (IsPair m.sites) pairs → All (IsRegularPair m move f) pairs
    → OnesWithin x y → int_sum_by (pair_rise m move f u y) pairs ≤ℤ int_sum_by (pair_rise m move f u x) pairs
pairs_fall m move f u x y [] are regular within = le_refl (pos 0)
pairs_fall m move f u x y (p ∷ ps) are regular within =
    add_up _ _ _ _ (pair_falls m move f u x y p (All-head (IsPair m.sites) p ps are) (All-head (IsRegularPair m move f) p ps regular) within)
    (pairs_fall m move f u x y ps (All-tail (IsPair m.sites) p ps are) (All-tail (IsRegularPair m move f) p ps regular) within)

same_rise : (a b c d : ℤ) → a ≡ b → c ≡ d → (a -ℤ b) ≤ℤ (c -ℤ d)
same_rise a b c d h k = omega (arith, ints, h, k)

-- where there is no such site, nothing changes
no_site : (m : Instance) (move : Move) (f : ℕ → ℕ) (u : ℕ) (x : ℕ → Bool) → IsInstance m → m.sites ≤ u
    → move_value m move f (set_bit x u true) ≡ move_value m move f (set_bit x u false)
no_site m move f u x pairs l = move_over m move f pairs _ _ (λ k below.
    set_other x u k true (λ same. absurd (omega (arith, same, below, l))) ∙ sym (set_other x u k false (λ same. absurd (omega (arith, same, below, l)))))

le_by : (a b c d e : ℤ) → a ≡ (c +ℤ d) → b ≡ (c +ℤ e) → d ≤ℤ e → a ≤ℤ b
le_by a b c d e h k l = omega (arith, ints, h, k, l)

pub move_falls : (m : Instance) (move : Move) (f : ℕ → ℕ) → IsInstance m → IsAllowed m move f → IsSubmodular (move_value m move f)
move_falls m move f pairs allowed x y u within = elim (cases_lt u m.sites) [
  | inl below ↦ le_by _ _ (data_rise m move f u) _ _ (rise_parts m move f u y below) (rise_parts m move f u x below) (pairs_fall m move f u x y m.pairs pairs allowed within)
  | inr above ↦ same_rise _ _ _ _ (no_site m move f u y pairs above) (no_site m move f u x pairs above)
]
