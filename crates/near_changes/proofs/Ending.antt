-- The end of the stages, and their beginning.
use Rattle.std.proofs.Common.{◌≡◌, ℕ, ◌<◌, Bool, true, false, cond, List, ℤ, ◌≤ℤ◌, refl, sym, ap, ◌∙◌, arith}
use Rattle.std.proofs.lemmas.Int.{ints}
use Rattle.label_energies.specs.declared.change.Move.TheVariants.{Expand}
use Rattle.label_energies.specs.Energies.{Instance, IsInstance, AreLabelsFree, labelling}
use Rattle.label_energies.specs.Moves.{IsBest, IsAllowed, labelling_made}
use Rattle.label_energies.proofs.Best.{made-reached}
use Rattle.label_energies.proofs.Energy.{free-plain}
use Rattle.label_energies.proofs.Repeating.{best_again}
use Rattle.move_energy.specs.declared.choice.Choice.{Choice}
use Rattle.move_energy.specs.declared.choice.Choice.TheVariants.{Open, Zero, One}
use Rattle.move_energy.specs.Choices.{bit_of}
use Rattle.move_energy.specs.Assignments.{IsOver}
use Rattle.site_bounds.specs.Decisions.{IsSmallestLeast}
use Rattle.move_energy.specs.MoveValues.{move_value}
use Rattle.move_energy.proofs.Rising.{move_falls, move_over}
use Rattle.persistency.specs.Fixing.{with_choices, fixed_value, AreLeastZeros, OnesLieWithin, IsLeftOpen}
use Rattle.near_changes.specs.Fresh.{LowersNothing, WasExpanded, AreFresh, HoldsFresh, IsPartOf}
use Rattle.near_changes.proofs.Parts.{swapped_le, closing}
use Rattle.persistency.proofs.Fixing.{ones_bound}
use Rattle.persistency.proofs.Existing.{least_exists}

pub best_is_low : (m : Instance) (a : ℕ) (f g : List ℕ) → AreLabelsFree m → IsBest m (Expand a) f g → LowersNothing m a (labelling g)
best_is_low m a f g free best x =
    let low = (best_again m (Expand a) f g best).lowest _ (made-reached (Expand a) m.sites (labelling g) x) in
    omega (arith, free-plain m (labelling g) free, free-plain m (labelling_made (Expand a) (labelling g) x) free, low)

abbrev in_place : (ℕ → Bool) → (ℕ → Bool) → (ℕ → Bool) → ℕ → Bool
in_place s t R k = cond (R k) (s k) (t k)

-- where the set is open, the others stay fixed
fixed_in_place : (c : Choice) (r s z : Bool) → (r ≡ true → c ≡ Open) → bit_of c (cond r s (bit_of c z)) ≡ cond r s (bit_of c z)
fixed_in_place Open r s z opened = refl
fixed_in_place Zero true s z opened = absurd (let e = opened refl in cc (e))
fixed_in_place Zero false s z opened = refl
fixed_in_place One true s z opened = absurd (let e = opened refl in cc (e))
fixed_in_place One false s z opened = refl

open_bit : (c : Choice) (z : Bool) → c ≡ Open → bit_of c z ≡ z
open_bit c z h = ap (λ (d : Choice). bit_of d z) h

level_from : (a b c : ℤ) → a ≡ b → b ≤ℤ c → c ≤ℤ a → a ≡ c
level_from a b c h k l = omega (arith, ints, h, k, l)

both_ways : (x y : Bool) → (x ≡ true → y ≡ true) → (y ≡ true → x ≡ true) → x ≡ y
both_ways true y f g = sym (f refl)
both_ways false true f g = g refl
both_ways false false f g = refl

le_same : (a b c : ℤ) → b ≡ a → a ≤ℤ c → b ≤ℤ c
le_same a b c h k = omega (arith, ints, h, k)

smallest_same : (n : ℕ) (E : (ℕ → Bool) → ℤ) (x y : ℕ → Bool) → IsOver n E → IsSmallestLeast n E x → ((k : ℕ) → k < n → y k ≡ x k) → IsSmallestLeast n E y
smallest_same n E x y over best same = record {
  least = λ z. le_same _ _ _ (over y x same) (best.least z);
  smallest = λ z level k l one. best.smallest z (level ∙ over y x same) k l (sym (same k l) ∙ one);
}

-- the set lies within what takes the label
set_within : (m : Instance) (a : ℕ) (f : ℕ → ℕ) (choice : ℕ → Choice) (s z R : ℕ → Bool) → IsInstance m
    → IsSmallestLeast m.sites (move_value m (Expand a) f) s
    → IsSmallestLeast m.sites (fixed_value (move_value m (Expand a) f) choice) z
    → OnesLieWithin m.sites s R → IsPartOf m a f (with_choices choice z) R
    → IsLeftOpen m.sites choice R → OnesLieWithin m.sites R s
set_within m a f choice s z R pairs best least inner is opened p l one =
    let E = move_value m (Expand a) f in
    let new = in_place s (with_choices choice z) R in
    let kept : E (with_choices choice new) ≡ E new =
    move_over m (Expand a) f pairs (with_choices choice new) new (λ k below. fixed_in_place (choice k) (R k) (s k) (z k) (opened k below)) in
    let level = level_from (E (with_choices choice new)) (E new) (E (with_choices choice z)) kept (swapped_le m a f s (with_choices choice z) R pairs best inner is) (least.least new) in
    let here : z p ≡ true = sym (open_bit (choice p) (z p) (opened p l one)) ∙ is.within p l one in
    sym (ap (λ b. cond b (s p) (with_choices choice z p)) one) ∙ least.smallest new level p l here

pub set_least : (m : Instance) (a : ℕ) (f : ℕ → ℕ) (choice : ℕ → Choice) (s z R : ℕ → Bool) → IsInstance m
    → IsSmallestLeast m.sites (move_value m (Expand a) f) s
    → IsSmallestLeast m.sites (fixed_value (move_value m (Expand a) f) choice) z
    → OnesLieWithin m.sites s R → IsPartOf m a f (with_choices choice z) R
    → IsLeftOpen m.sites choice R → IsSmallestLeast m.sites (move_value m (Expand a) f) R
set_least m a f choice s z R pairs best least inner is opened =
    smallest_same m.sites (move_value m (Expand a) f) s R (move_over m (Expand a) f pairs) best
    (λ k l. both_ways (R k) (s k) (set_within m a f choice s z R pairs best least inner is opened k l) (inner k l))

-- all together: a stage whose closed set holds the fresh sites ends the move
pub stage_ends : (m : Instance) (a : ℕ) (f : ℕ → ℕ) (changed fresh : ℕ → Bool) (choice : ℕ → Choice) (z R : ℕ → Bool) → IsInstance m → IsAllowed m (Expand a) f
    → WasExpanded m a changed f → AreFresh m a f changed fresh → AreLeastZeros m.sites (move_value m (Expand a) f) choice
    → IsSmallestLeast m.sites (fixed_value (move_value m (Expand a) f) choice) z → IsPartOf m a f (with_choices choice z) R
    → HoldsFresh m.sites fresh (with_choices choice z) R → IsLeftOpen m.sites choice R → IsSmallestLeast m.sites (move_value m (Expand a) f) R
stage_ends m a f changed fresh choice z R pairs allowed was are_fresh zeros least is looked opened =
    let falls = move_falls m (Expand a) f pairs allowed in
    let over = move_over m (Expand a) f pairs in
    let s = least_exists m.sites (move_value m (Expand a) f) falls over in
    let bound = ones_bound m.sites (move_value m (Expand a) f) choice s.0 z falls over s.1 (zeros s.0 s.1) least.least in
    let inner = closing m a f changed fresh s.0 (with_choices choice z) R pairs was are_fresh s.1 bound is.apart looked in
    set_least m a f choice s.0 z R pairs s.1 least inner is opened
