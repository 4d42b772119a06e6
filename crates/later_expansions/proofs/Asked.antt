-- What labels cost at sites that are fixed: the same for all values of the others, so it need not
-- be asked.
use Rattle.std.proofs.Common.{◌≡◌, ℕ, ◌+◌, ◌<◌, Bool, true, false, cond, List, [], All, length, get_or, subst, pos, ◌≤ℤ◌, refl, sym, ap, ◌∙◌, inl, inr, arith}
use Rattle.std.proofs.lemmas.Bool.{cases_Bool}
use Rattle.std.proofs.lemmas.Int.{ints}
use Rattle.std.proofs.lemmas.List.Elements.{All-get_or, All-nil}
use Rattle.sums.specs.Sums.{sum_below}
use Rattle.sums.proofs.SumLemmas.{sum_below-add, sum_below-same}
use Rattle.label_energies.specs.declared.change.Move.{Move}
use Rattle.label_energies.specs.Energies.{Instance, data_energy, smooth_energy, plain_energy}
use Rattle.label_energies.specs.Moves.{label_after, labelling_made}
use Rattle.move_energy.specs.declared.choice.Choice.{Choice}
use Rattle.move_energy.specs.declared.choice.Choice.TheVariants.{Open, Zero, One}
use Rattle.move_energy.specs.Choices.{bit_of, choice_at, open_at, AreOpenSites}
use Rattle.move_energy.proofs.Listings.{chosen_below, listing_place}
use Rattle.move_energy.proofs.Opened.{open_true}
use Rattle.form_lists.specs.declared.lists.FormLists.{FormLists}
use Rattle.move_energy.specs.declared.by_site.Neighbours.{Neighbours}
use Rattle.form_lists.proofs.Taking.{pairs_near}
use Rattle.form_lists.specs.Lists.{with_costs_at, IsReadOf, IsReadNear}
use Rattle.persistency.specs.Fixing.{with_choices}
use Rattle.strip_nets.specs.Looking.{IsStageLeast}

-- what the labels cost the sites that were not asked
abbrev rest_cost : Instance → (ℕ → Bool) → (ℕ → ℕ) → ℕ
rest_cost m asked g = sum_below m.sites (λ p. cond (asked p) 0 (m.data_cost p (g p)))

two_parts : (asked : Bool) (z : ℕ) → z ≡ cond asked z 0 + cond asked 0 z
two_parts true z = omega arith
two_parts false z = omega arith

whole_and_rest : (m : Instance) (asked : ℕ → Bool) (g : ℕ → ℕ)
    → plain_energy m g ≡ plain_energy (with_costs_at asked m) g + rest_cost m asked g
whole_and_rest m asked g =
    let parts : data_energy m g ≡ data_energy (with_costs_at asked m) g + rest_cost m asked g =
    sum_below-same m.sites (λ p. m.data_cost p (g p)) (λ p. cond (asked p) (m.data_cost p (g p)) 0 + cond (asked p) 0 (m.data_cost p (g p)))
    (λ p l. two_parts (asked p) (m.data_cost p (g p)))
    ∙ sum_below-add m.sites (λ p. cond (asked p) (m.data_cost p (g p)) 0) (λ p. cond (asked p) 0 (m.data_cost p (g p))) in
    let s = smooth_energy m g in
    omega (arith, parts)

rest_same : (m : Instance) (asked : ℕ → Bool) (g h : ℕ → ℕ) → ((p : ℕ) → p < m.sites → asked p ≡ false → g p ≡ h p)
    → rest_cost m asked g ≡ rest_cost m asked h
rest_same m asked g h same =
    sum_below-same m.sites (λ p. cond (asked p) 0 (m.data_cost p (g p))) (λ p. cond (asked p) 0 (m.data_cost p (h p))) (λ p l. elim (cases_Bool (asked p)) [
      | inl was ↦ ap (λ b. cond b 0 (m.data_cost p (g p))) was ∙ sym (ap (λ b. cond b 0 (m.data_cost p (h p))) was)
      | inr was ↦ ap (λ label. cond (asked p) 0 (m.data_cost p label)) (same p l was)
    ])

fixed_same : (choice : Choice) (a b : Bool) → (choice ≡ Open → ⊥) → bit_of choice a ≡ bit_of choice b
fixed_same Open a b closed = absurd (closed refl)
fixed_same Zero a b closed = refl
fixed_same One a b closed = refl

le_shift : (a b c d k l : ℕ) → a ≡ c + k → b ≡ d + l → k ≡ l → pos c ≤ℤ pos d → pos a ≤ℤ pos b
le_shift a b c d k l one other same h = omega (arith, ints, one, other, same, h)

eq_shift : (a b c d k l : ℕ) → a ≡ c + k → b ≡ d + l → k ≡ l → pos a ≡ pos b → pos c ≡ pos d
eq_shift a b c d k l one other same h = omega (arith, ints, one, other, same, h)

-- the least values of a stage are those of the whole problem, where each open site was asked
pub stage_of_asked : (m : Instance) (move : Move) (f : ℕ → ℕ) (choices : List Choice) (bits : List Bool) (asked : ℕ → Bool)
    → ((p : ℕ) → p < m.sites → choice_at choices p ≡ Open → asked p ≡ true)
    → IsStageLeast (with_costs_at asked m) move f choices bits → IsStageLeast m move f choices bits
stage_of_asked m move f choices bits asked covers stage =
    let made : (ℕ → Bool) → ℕ → ℕ = λ x. labelling_made move f (with_choices (choice_at choices) x) in
    let rest : (ℕ → Bool) → ℕ = λ x. rest_cost m asked (made x) in
    let least_part : (ℕ → Bool) → ℕ = λ x. plain_energy (with_costs_at asked m) (made x) in
    let whole : (ℕ → Bool) → ℕ = λ x. plain_energy m (made x) in
    let v = stage.values in
    let same : (x y : ℕ → Bool) → rest x ≡ rest y = λ x y. rest_same m asked (made x) (made y)
    (λ p l other. ap (label_after move (f p)) (fixed_same (choice_at choices p) (x p) (y p) (λ is_open. (let was = covers p l is_open in cc (was, other))))) in
    record {
      values = v;
      least = record {
        least = λ y. le_shift (whole v) (whole y) (least_part v) (least_part y) (rest v) (rest y) (whole_and_rest m asked (made v)) (whole_and_rest m asked (made y)) (same v y) (stage.least.least y);
        smallest = λ y equal k l one. stage.least.smallest y
            (eq_shift (whole y) (whole v) (least_part y) (least_part v) (rest y) (rest v) (whole_and_rest m asked (made y)) (whole_and_rest m asked (made v)) (same y v) equal) k l one;
      };
      shown = stage.shown;
    }

-- what is read of a move at all sites is so at any
pub read_everywhere : (m : Instance) (move : Move) (ends : Neighbours) (at : List ℕ) (lists : FormLists) → IsReadOf m move ends at lists → IsReadNear m move ends at lists []
read_everywhere m move ends at lists read = record {
  asked = λ p. true;
  covers = All-nil _;
  read = record { pairs = pairs_near m (λ p. true) move ends at lists read.pairs; own_are = read.own_are };
}

-- what is read at some sites is read at none, for what is read next
pub read_at_none : (m : Instance) (move : Move) (ends : Neighbours) (at : List ℕ) (lists : FormLists) (sites : List ℕ) → IsReadNear m move ends at lists sites → IsReadNear m move ends at lists []
read_at_none m move ends at lists sites near = record { asked = near.asked; covers = All-nil _; read = near.read }

-- where the listed open sites were asked, so was each open one
pub opened_asked : (asked : ℕ → Bool) (old new : List Choice) (opened : List ℕ) (p : ℕ) → p < length old → new ≡ old → AreOpenSites old opened
    → All (λ q. asked q ≡ true) opened → choice_at new p ≡ Open → asked p ≡ true
opened_asked asked old new opened p l same listed covers is =
    let was : choice_at old p ≡ Open = ap (λ (cs : List Choice). choice_at cs p) (sym same) ∙ is in
    let found = listing_place (open_at old) (length old) p l (open_true (choice_at old p) was) in
    let i = chosen_below (open_at old) p in
    let e = ap (λ (xs : List ℕ). length xs) listed in
    let C : ℕ → Type 0 = λ q. asked q ≡ true in
    subst C (ap (λ (xs : List ℕ). get_or xs i 0) listed ∙ found.1) (All-get_or C opened i 0 (omega (arith, found.0, e)) covers)
