-- Rises that are listed pair by pair.
use Rattle.std.proofs.Common.{◌≡◌, ◌==◌, ◌&&◌, ℕ, ◌+◌, ◌≤◌, Bool, true, false, cond, ℤ, pos, ◌-ℤ◌, ◌≤ℤ◌, inl, inr, arith}
use Rattle.std.proofs.lemmas.Bool.{cases_eq, eq-eqb, ne_eqb}
use Rattle.std.proofs.lemmas.Int.{ints}
use Rattle.label_field.specs.declared.pair.Pair.{Pair}
use Rattle.label_energies.specs.declared.change.Move.{Move}
use Rattle.label_energies.specs.Energies.{Instance}
use Rattle.label_energies.specs.Moves.{IsRegularPair}
use Rattle.move_energy.specs.BySite.{pair_from}
use Rattle.move_energy.specs.Rising.{AreRises}
use Rattle.form_lists.specs.declared.by_pair.PairRises.{PairRises}
use Rattle.form_lists.specs.PairSides.{AreSidesOf}

falls_back : (a b c d : ℕ) (low high : ℤ) → low ≡ pos c -ℤ pos a → high ≡ pos d -ℤ pos b → high ≤ℤ low → a + d ≤ b + c
falls_back a b c d low high l h le = omega (arith, ints, l, h, le)

falls_too : (a b c d : ℕ) (low high : ℤ) → low ≡ pos c -ℤ pos a → high ≡ pos d -ℤ pos b → a + d ≤ b + c → high ≤ℤ low
falls_too a b c d low high l h le = omega (arith, ints, l, h, le)

-- the term of a pair is regular exactly where its first end rises no more beside a 1 than
-- beside a 0
pub regular_by : (m : Instance) (move : Move) (f : ℕ → ℕ) (pair : Pair) (sides : PairRises) → AreSidesOf m move f pair sides → sides.first.high ≤ℤ sides.first.low → IsRegularPair m move f pair
regular_by m move f pair sides are falls = falls_back _ _ _ _ _ _ are.first.0 are.first.1 falls

pub falls_by : (m : Instance) (move : Move) (f : ℕ → ℕ) (pair : Pair) (sides : PairRises) → AreSidesOf m move f pair sides → IsRegularPair m move f pair → sides.first.high ≤ℤ sides.first.low
falls_by m move f pair sides are regular = falls_too _ _ _ _ _ _ are.first.0 are.first.1 regular

-- the rises at one end of a pair
pub side_of : (m : Instance) (move : Move) (f : ℕ → ℕ) (first : Bool) (site head weight : ℕ) (sides : PairRises) → AreSidesOf m move f (pair_from first site head weight) sides
    → AreRises m move weight first (f site) (f head) (cond first sides.first sides.second)
side_of m move f true site head weight sides are = are.first
side_of m move f false site head weight sides are = are.second

-- a pair is another whose sites and weight are its own
pub same_pair : (one other : Pair) → ((one.first == other.first) && ((one.second == other.second) && (one.weight == other.weight))) ≡ true → one ≡ other
same_pair one other same = elim (cases_eq one.first other.first) [
  | inr apart ↦ absurd (let no = ne_eqb one.first other.first apart in cc (same, no))
  | inl first ↦ elim (cases_eq one.second other.second) [
    | inr apart ↦ absurd (let f = eq-eqb one.first other.first first in let no = ne_eqb one.second other.second apart in cc (same, f, no))
    | inl second ↦ elim (cases_eq one.weight other.weight) [
      | inr apart ↦ absurd (let f = eq-eqb one.first other.first first in let s = eq-eqb one.second other.second second in let no = ne_eqb one.weight other.weight apart in cc (same, f, s, no))
      | inl weight ↦ λ i. record { first = first i; second = second i; weight = weight i }
    ]
  ]
]
