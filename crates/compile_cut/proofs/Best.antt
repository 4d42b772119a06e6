-- What a smallest least cut says, where the net shows the values of an energy.
use Rattle.std.proofs.Common.{◌≡◌, ℕ, ◌≤◌, Bool, false, List, take, slice_index_or, ℤ, pos, ◌+ℤ◌, ◌≤ℤ◌, sym, ◌∙◌, arith}
use Rattle.std.proofs.lemmas.Int.{ints}
use Rattle.std.proofs.lemmas.List.{get_or-take}
use Rattle.pseudo_bool.specs.Energies.{Energy, value_at}
use Rattle.flow_network.specs.Cut.{Network, nodes, capacity_of, IsLeastCut, IsSmallestLeastCut}
use Rattle.compile_cut.specs.Shown.{IsSmallestLeastAssignment, Shows, ShowsValues}

-- where each value is a least shown capacity and a constant, values are ordered as capacities are
below : (u v k : ℤ) (m n c d : ℕ) → u ≡ pos m +ℤ k → v ≡ pos n +ℤ k → m ≤ c → c ≤ d → d ≡ n → u ≤ℤ v
below u v k m n c d at_u at_v a b e = omega (arith, ints, at_u, at_v, a, b, e)

reached : (u v k : ℤ) (m n c d : ℕ) → u ≡ pos m +ℤ k → v ≡ pos n +ℤ k → m ≤ c → d ≡ n → v ≡ u → d ≤ c
reached u v k m n c d at_u at_v a e same = omega (arith, ints, at_u, at_v, a, e, same)

least_too : (net : Network) (side other : ℕ → Bool) → IsLeastCut net side → capacity_of net other ≤ capacity_of net side → IsLeastCut net other
least_too net side other least low third = let base = least third in omega (arith, low, base)

-- the assignment that it shows is a least one, whose ones are among the ones of every least
-- assignment
pub best_of_cut : (e : Energy) (net : Network) (k : ℤ) (side x : ℕ → Bool) → e.variables ≤ nodes net → ShowsValues net k e
    → IsSmallestLeastCut net side → Shows e.variables x side → IsSmallestLeastAssignment e x
best_of_cut e net k side x within shown best shows =
    let here = shown x in
    let low = here.1.lowest side shows in
    record {
      least = λ y. (let cut = shown y in below _ _ k _ _ _ _ here.2 cut.2 low (best.least cut.1.side) cut.1.reached);
      smallest = λ y same v l inside.
          let cut = shown y in
          let least = least_too net side cut.1.side best.least (reached _ _ k _ _ _ _ here.2 cut.2 low cut.1.reached same) in
          sym (cut.1.shows v l) ∙ best.smallest cut.1.side least v (omega (arith, within, l)) (shows v l ∙ inside);
    }

-- and its value is the cut's capacity and the constant
pub value_of_cut : (e : Energy) (net : Network) (k : ℤ) (side x : ℕ → Bool) → ShowsValues net k e
    → IsLeastCut net side → Shows e.variables x side → value_at e x ≡ pos (capacity_of net side) +ℤ k
value_of_cut e net k side x shown least shows =
    let here = shown x in
    omega (arith, ints, here.2, here.1.lowest side shows, least here.1.side, here.1.reached)

-- the front of a list of bits shows the same assignment
pub front_shows : (n : ℕ) (bits front : List Bool) → front ≡ take n bits
    → Shows n (λ i. slice_index_or front i false) (λ i. slice_index_or bits i false)
front_shows n bits front is i l = rw (is, get_or-take n bits i false l)
