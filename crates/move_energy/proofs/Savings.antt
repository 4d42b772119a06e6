-- What the rises of one end of a pair tell of what its two ends save together.
use Rattle.std.proofs.Common.{◌≡◌, ℕ, true, false, ℤ, pos, ◌+ℤ◌, ◌-ℤ◌, arith}
use Rattle.std.proofs.lemmas.Int.{ints}
use Rattle.label_field.specs.declared.pair.Pair.{Pair}
use Rattle.label_energies.specs.declared.change.Move.{Move}
use Rattle.label_energies.specs.Energies.{Instance}
use Rattle.label_energies.specs.Moves.{pair_entry}
use Rattle.move_energy.specs.Weights.{surplus_of, pair_table}
use Rattle.move_energy.specs.declared.rises.EndRises.{EndRises}
use Rattle.move_energy.specs.Rising.{AreRises}

difference : (low high a b c d : ℤ) → low ≡ c -ℤ a → high ≡ d -ℤ b → low -ℤ high ≡ (b +ℤ c) -ℤ (a +ℤ d)
difference low high a b c d l h = omega (arith, ints, l, h)

pub told_surplus : (m : Instance) (move : Move) (f : ℕ → ℕ) (pair : Pair) (rises : EndRises) → AreRises m move pair.weight true (f pair.first) (f pair.second) rises
    → rises.low -ℤ rises.high ≡ surplus_of (pair_table m move f pair)
told_surplus m move f pair rises are =
    difference rises.low rises.high (pos (pair_entry m move f pair false false)) (pos (pair_entry m move f pair false true))
    (pos (pair_entry m move f pair true false)) (pos (pair_entry m move f pair true true)) are.0 are.1
