-- What is 0 in the least values of what is open.
use Rattle.std.proofs.Common.{◌≡◌, ℕ, List, Bool, true, false, refl, sym, ◌∙◌}
use Rattle.label_energies.specs.declared.change.Move.{Move}
use Rattle.label_energies.specs.Energies.{Instance, IsInstance}
use Rattle.label_energies.specs.Moves.{IsAllowed}
use Rattle.move_energy.specs.declared.choice.Choice.{Choice}
use Rattle.move_energy.specs.declared.choice.Choice.TheVariants.{Zero}
use Rattle.move_energy.specs.Choices.{choice_at, choice_of, value_of}
use Rattle.move_energy.specs.MoveValues.{move_value}
use Rattle.move_energy.proofs.Rising.{move_falls, move_over}
use Rattle.persistency.specs.Fixing.{AreLeastZeros}
use Rattle.persistency.proofs.Fixing.{ones_bound}
use Rattle.strip_nets.specs.Looking.{IsStageLeast}

zero_bit : (b : Bool) → choice_of b ≡ Zero → b ≡ false
zero_bit true is = absurd (cc is)
zero_bit false is = refl

none_of : (b : Bool) → (b ≡ true → ⊥) → b ≡ false
none_of true h = absurd (h refl)
none_of false h = refl

-- where each zero was one of the least values of the move, so is each zero of the least values of
-- what is open
pub stage_zeros : (m : Instance) (move : Move) (f : ℕ → ℕ) (known : List Choice) (bits : List Bool) → IsInstance m → IsAllowed m move f
    → IsStageLeast m move f known bits → AreLeastZeros m.sites (move_value m move f) (choice_at known)
    → AreLeastZeros m.sites (move_value m move f) (λ p. choice_of (value_of known bits p))
stage_zeros m move f known bits pairs allowed stage zeros s best p l is =
    let E = move_value m move f in
    let within = ones_bound m.sites E (choice_at known) s stage.values (move_falls m move f pairs allowed) (move_over m move f pairs) best (zeros s best) stage.least.least in
    none_of (s p) (λ one. (let shown = sym (stage.shown p) ∙ within p l one in let none = zero_bit (value_of known bits p) is in cc (shown, none)))
