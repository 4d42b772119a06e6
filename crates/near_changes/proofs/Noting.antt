-- What is remembered of the moves of a run survives each move that is noted.
use Rattle.std.proofs.Common.{◌≡◌, ◌≢◌, ℕ, ◌<◌, ◌≤◌, Bool, true, false, cond, List, [], length, refl, sym, ap, ◌∙◌, inl, inr, subst, arith}
use Rattle.std.specs.Prelude.{slice_index}
use Rattle.std.proofs.lemmas.Bool.{cases_eq}
use Rattle.std.proofs.lemmas.Bool.Decides.{nat_tests}
use Rattle.std.proofs.lemmas.List.{get_or-set_same, get_or-set_other}
use Rattle.label_energies.specs.declared.change.Move.TheVariants.{Expand}
use Rattle.label_energies.specs.Energies.{Instance, AreLabelsFree, labelling}
use Rattle.label_energies.specs.Moves.{IsBest}
use Rattle.near_changes.specs.declared.changes.Changes.{Changes}
use Rattle.near_changes.specs.Fresh.{WasExpanded}
use Rattle.near_changes.specs.Looking.{changed_since}
use Rattle.near_changes.specs.Changes.{made_of, changed_after, AreStamped, IsNoted, IsNotedMove}
use Rattle.near_changes.proofs.Ending.{best_is_low}

-- nothing is remembered
pub none_stamped : (m : Instance) (f : ℕ → ℕ) (changes : Changes) → changes.made.items ≡ [] → AreStamped m f changes
none_stamped m f changes none =
    let zero_at : (a : ℕ) → made_of changes a ≡ 0 = λ a. ap (λ (xs : List ℕ). slice_index xs a) none in
    record {
      sites = λ some. (let e = ap (λ (xs : List ℕ). length xs) none in absurd (omega (arith, some, e)));
      made = λ a. omega (arith, zero_at a);
      known = λ a some. absurd (omega (arith, some, zero_at a));
    }

not_since : (stamps : List ℕ) (since p : ℕ) → changed_since stamps since p ≡ false → slice_index stamps p ≤ since
not_since stamps since p is = grind (arith, nat_tests)

since_not : (stamps : List ℕ) (since p : ℕ) → slice_index stamps p ≤ since → changed_since stamps since p ≡ false
since_not stamps since p is = grind (arith, nat_tests)

taken_stamp : (b : Bool) (new old since : ℕ) → cond b new old ≤ since → since < new → (b ≡ false) × (old ≤ since)
taken_stamp true new old since is less = absurd (omega (arith, is, less))
taken_stamp false new old since is less = (refl, is)

-- of another label
kept_known : (m : Instance) (f g : ℕ → ℕ) (a b : ℕ) (took : ℕ → Bool) (old new : Changes) → IsNoted a took old new
    → length old.stamps.items ≡ m.sites → made_of old b ≤ old.count → made_of new b ≡ made_of old b
    → ((p : ℕ) → p < m.sites → took p ≡ false → g p ≡ f p) → WasExpanded m b (changed_after old b) f → WasExpanded m b (changed_after new b) g
kept_known m f g a b took old new noted size most same kept was = record {
  old = was.old;
  lowest = was.lowest;
  marked = λ p l still.
      let low : slice_index new.stamps.items p ≤ made_of old b = (let h = not_since new.stamps.items (made_of new b) p still in omega (arith, h, same)) in
      let at = noted.stamps p (omega (arith, l, size)) in
      let apart = taken_stamp (took p) new.count (slice_index old.stamps.items p) (made_of old b) (omega (arith, at, low)) (omega (arith, most, noted.count)) in
      kept p l apart.0 ∙ was.marked p l (since_not old.stamps.items (made_of old b) p apart.1);
}

own_known : (m : Instance) (b : ℕ) (changed : ℕ → Bool) (f g : List ℕ) (a : ℕ) → b ≡ a → AreLabelsFree m → IsBest m (Expand a) f g → WasExpanded m b changed (labelling g)
own_known m b changed f g a is free best = record {
  old = labelling g;
  lowest = best_is_low m b f g free (subst (λ (l : ℕ). IsBest m (Expand l) f g) (sym is) best);
  marked = λ p l still. refl;
}

noted_stamped : (m : Instance) (a : ℕ) (f g : List ℕ) (took : ℕ → Bool) (old new : Changes) → AreLabelsFree m → IsBest m (Expand a) f g
    → ((p : ℕ) → p < m.sites → took p ≡ false → labelling g p ≡ labelling f p) → IsNoted a took old new
    → AreStamped m (labelling f) old → AreStamped m (labelling g) new
noted_stamped m a f g took old new free best kept noted stamped =
    let own : made_of new a ≡ new.count = ap (λ (xs : List ℕ). slice_index xs a) noted.made ∙ get_or-set_same old.made.items a new.count 0 noted.within in
    let other : (b : ℕ) → b ≢ a → made_of new b ≡ made_of old b =
    λ b apart. ap (λ (xs : List ℕ). slice_index xs b) noted.made ∙ get_or-set_other old.made.items a b new.count 0 apart in
    let size = stamped.sites (let w = noted.within in omega (arith, w)) in
    record {
      sites = λ some. noted.sites ∙ size;
      made = λ b. elim (cases_eq b a) [
        | inl same ↦ omega (arith, own, ap (made_of new) same)
        | inr apart ↦ omega (arith, other b apart, stamped.made b, noted.count)
      ];
      known = λ b some. elim (cases_eq b a) [
        | inl same ↦ own_known m b (changed_after new b) f g a same free best
        | inr apart ↦
            kept_known m (labelling f) (labelling g) a b took old new noted size (stamped.made b) (other b apart) kept
            (stamped.known b (omega (arith, some, other b apart)))
      ];
    }

-- a move that is noted
pub move_stamped : (m : Instance) (a : ℕ) (f g : List ℕ) (took : ℕ → Bool) (old new : Changes) → AreLabelsFree m → IsBest m (Expand a) f g
    → ((p : ℕ) → p < m.sites → took p ≡ false → labelling g p ≡ labelling f p) → IsNotedMove a took old new
    → AreStamped m (labelling f) old → AreStamped m (labelling g) new
move_stamped m a f g took old new free best kept (inl noted) stamped = noted_stamped m a f g took old new free best kept noted stamped
move_stamped m a f g took old new free best kept (inr forgotten) stamped = none_stamped m (labelling g) new forgotten.none

-- a run that begins
pub new_stamped : (m : Instance) (f : ℕ → ℕ) (changes : Changes) (labels : ℕ) → length changes.stamps.items ≡ m.sites
    → ((a : ℕ) → made_of changes a ≡ 0) → AreStamped m f changes
new_stamped m f changes labels size none = record {
  sites = λ some. size;
  made = λ a. omega (arith, none a);
  known = λ a some. absurd (omega (arith, some, none a));
}
