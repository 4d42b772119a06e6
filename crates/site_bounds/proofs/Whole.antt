-- From the first bounds to the last.
use Rattle.std.proofs.Common.{◌≡◌, ℕ, ◌+◌, ◌<◌, ◌≤◌, ◌==◌, Bool, true, false, List, length, ℤ, pos, ◌-ℤ◌, ◌≤ℤ◌, ◌<ℤ◌, refl, sym, ap, ◌∙◌, inl, inr, subst, arith}
use Rattle.label_energies.specs.declared.change.Move.{Move}
use Rattle.label_energies.specs.Energies.{Instance, IsInstance, labelling}
use Rattle.move_energy.specs.declared.choice.Choice.{Choice}
use Rattle.move_energy.specs.declared.choice.Choice.TheVariants.{Open}
use Rattle.move_energy.specs.Weights.{AreWeights}
use Rattle.std.proofs.lemmas.Bool.{cases_eq}
use Rattle.move_energy.specs.Choices.{bit_of, choice_at}
use Rattle.move_energy.proofs.Assignments.{set_at, set_other}
use Rattle.move_energy.proofs.SiteSums.{test_true, test_false}
use Rattle.move_energy.proofs.Rising.{rise_over, move_over}
use Rattle.site_bounds.proofs.Ranges.{AreAdded, least_before, least_at}
use Rattle.site_bounds.specs.declared.bounds.Bounds.{Bounds}
use Rattle.move_energy.specs.Assignments.{set_bit, rise}
use Rattle.site_bounds.specs.Decisions.{with_decisions, Passes}
use Rattle.move_energy.specs.MoveValues.{move_value}
use Rattle.move_energy.specs.Ends.{decided_or}
use Rattle.site_bounds.specs.Working.{bound_at, CanDecide, AreUndecided, AreUnsummed, ArePartlyDecided}
use Rattle.site_bounds.specs.Parts.{ArePassedChoices, site_weight}
use Rattle.site_bounds.specs.Decided.{AreDecided}
use Rattle.site_bounds.proofs.Fixed.{fixed_site, shown_by, shown_put, shown_passed}

-- only the sites that the move cannot change are decided, and none was summed
pub partly_first : (m : Instance) (move : Move) (f : List ℕ) (b : Bounds) → m.sites ≤ length f → AreUndecided move f b → ArePartlyDecided m move (labelling f) 0 b
partly_first m move f b most undecided =
    let cs = b.choices.items in
    let n = length f in
    let fixed = λ (p : ℕ) (l : p < n). fixed_site move f cs p undecided.opened l in
    record {
      decisions = shown_by cs n;
      passed = shown_passed m move (labelling f) cs n fixed undecided.opened.none;
      shown = λ x p l. shown_put cs n x p (omega (arith, l, most));
      least = λ u l opened. absurd (omega (arith, l));
      greatest = λ u l opened. absurd (omega (arith, l));
    }

pub unsummed_first : (move : Move) (f : List ℕ) (b : Bounds) → AreUndecided move f b → AreUnsummed (length f) b
unsummed_first move f b undecided = record { choices = undecided.opened.count; unsummed = undecided.unsummed }

-- the choices at the beginning are those of decisions that passed
pub chosen_first : (m : Instance) (move : Move) (f : List ℕ) (b : Bounds) → m.sites ≤ length f → AreUndecided move f b → ArePassedChoices m move (labelling f) (choice_at b.choices.items)
chosen_first m move f b most undecided =
    let first = partly_first m move f b most undecided in
    record { decisions = first.decisions; passed = first.passed; shown = first.shown }

-- and once they are others such, none is summed still
pub partly_begun : (m : Instance) (move : Move) (f : ℕ → ℕ) (b : Bounds) → ArePassedChoices m move f (choice_at b.choices.items) → ArePartlyDecided m move f 0 b
partly_begun m move f b chosen = record {
  decisions = chosen.decisions;
  passed = chosen.passed;
  shown = chosen.shown;
  least = λ u l opened. absurd (omega (arith, l));
  greatest = λ u l opened. absurd (omega (arith, l));
}

-- one site more is summed
pub partly_more : (m : Instance) (move : Move) (f : ℕ → ℕ) (k : ℕ) (least greatest : ℤ) (old new : Bounds) → IsInstance m → AreAdded k least greatest old new
    → (choice_at old.choices.items k ≡ Open
    → (least ≡ rise (move_value m move f) k (decided_or old.choices.items true)) × (greatest ≡ rise (move_value m move f) k (decided_or old.choices.items false)))
    → ArePartlyDecided m move f k old → ArePartlyDecided m move f (k + 1) new
partly_more m move f k least greatest old new pairs added rises decided =
    let was = λ (u : ℕ) (opened : choice_at new.choices.items u ≡ Open). ap (λ (v : _). choice_at v.items u) (sym added.choices) ∙ opened in
    let shown = λ (b : Bool). rise_over m move f k (decided_or old.choices.items b) (with_decisions decided.decisions (λ v. b)) pairs (λ p l. sym (decided.shown (λ v. b) p l)) in
    let at = least_at k least greatest old new added in
    record {
      decisions = decided.decisions;
      passed = decided.passed;
      shown = λ x p l. decided.shown x p l ∙ ap (λ (v : _). bit_of (choice_at v.items p) (x p)) (sym added.choices);
      least = λ u l opened. elim (cases_eq u k) [
        | inl same ↦
            ap (bound_at new.least.items) same ∙ at.0 ∙ (rises (sym (ap (choice_at old.choices.items) same) ∙ was u opened)).0 ∙ shown true
            ∙ sym (ap (λ v. rise (move_value m move f) v (with_decisions decided.decisions (λ w. true))) same)
        | inr other ↦
            let before : u < k = omega (arith, l, other) in
            (least_before k u least greatest old new added before).0 ∙ decided.least u before (was u opened)
      ];
      greatest = λ u l opened. elim (cases_eq u k) [
        | inl same ↦
            ap (bound_at new.greatest.items) same ∙ at.1 ∙ (rises (sym (ap (choice_at old.choices.items) same) ∙ was u opened)).1 ∙ shown false
            ∙ sym (ap (λ v. rise (move_value m move f) v (with_decisions decided.decisions (λ w. false))) same)
        | inr other ↦
            let before : u < k = omega (arith, l, other) in
            (least_before k u least greatest old new added before).1 ∙ decided.greatest u before (was u opened)
      ];
    }

tells_of : (m : Instance) (move : Move) (f : ℕ → ℕ) (n : ℕ) (b : Bounds) (u : ℕ) (value : Bool) → (decided : ArePartlyDecided m move f n b) → u < n → choice_at b.choices.items u ≡ Open
    → Passes (move_value m move f) decided.decisions u value → CanDecide b u
tells_of m move f n b u false decided l opened passes = (let P : ℤ → Type 0 = λ z. pos 0 ≤ℤ z in inl (subst P (sym (decided.least u l opened)) passes))
tells_of m move f n b u true decided l opened passes = (let P : ℤ → Type 0 = λ z. z <ℤ pos 0 in inr (subst P (sym (decided.greatest u l opened)) passes))

-- nothing is left that passes
pub decided_last : (m : Instance) (move : Move) (f : ℕ → ℕ) (n : ℕ) (b : Bounds) → m.sites ≤ n → ((u : ℕ) → u < n → choice_at b.choices.items u ≡ Open → ¬ CanDecide b u)
    → ArePartlyDecided m move f n b → AreDecided m move f (choice_at b.choices.items)
decided_last m move f n b most none decided = record {
  decisions = decided.decisions;
  passed = decided.passed;
  shown = decided.shown;
  none_left = λ p value l opened passes. none p (omega (arith, l, most)) opened (tells_of m move f n b p value decided (omega (arith, l, most)) opened passes);
}

-- ---- the weights

ones_set : (choices : List Choice) (x : ℕ → Bool) (u k : ℕ) → choice_at choices u ≡ Open → x k ≡ bit_of (choice_at choices k) false
    → set_bit x u true k ≡ bit_of (choice_at choices k) (k == u)
ones_set choices x u k opened is = elim (cases_eq k u) [
  | inl same ↦
      let here : bit_of (choice_at choices k) (k == u) ≡ (k == u) = ap (λ (c : Choice). bit_of c (k == u)) (ap (choice_at choices) same ∙ opened) in
      set_at x u k true same ∙ sym (here ∙ test_true k u same)
  | inr other ↦ set_other x u k true other ∙ is ∙ sym (ap (bit_of (choice_at choices k)) (test_false k u other))
]

zeros_set : (choices : List Choice) (x : ℕ → Bool) (u k : ℕ) → choice_at choices u ≡ Open → x k ≡ bit_of (choice_at choices k) false
    → set_bit x u false k ≡ bit_of (choice_at choices k) false
zeros_set choices x u k opened is = elim (cases_eq k u) [
  | inl same ↦ set_at x u k false same ∙ sym (ap (λ (c : Choice). bit_of c false) (ap (choice_at choices) same ∙ opened))
  | inr other ↦ set_other x u k false other ∙ is
]

-- the greatest rise of an open site is its weight
pub weight_is : (m : Instance) (move : Move) (f : ℕ → ℕ) (known : List Choice) (u : ℕ) → IsInstance m → choice_at known u ≡ Open
    → rise (move_value m move f) u (decided_or known false) ≡ site_weight m move f (choice_at known) u
weight_is m move f known u pairs opened =
    let x = decided_or known false in
    let one = move_over m move f pairs (set_bit x u true) (λ k. bit_of (choice_at known k) (k == u)) (λ k within. ones_set known x u k opened refl) in
    let none = move_over m move f pairs (set_bit x u false) (λ k. bit_of (choice_at known k) false) (λ k within. zeros_set known x u k opened refl) in
    λ i. one i -ℤ none i

-- the greatest rises of the open sites are their weights
pub partly_weights : (m : Instance) (move : Move) (f : ℕ → ℕ) (n : ℕ) (b : Bounds) → IsInstance m → m.sites ≤ n → ArePartlyDecided m move f n b
    → AreWeights m move f (choice_at b.choices.items) b.greatest.items
partly_weights m move f n b pairs most decided u l opened =
    let x = with_decisions decided.decisions (λ v. false) in
    let one = move_over m move f pairs (set_bit x u true) (λ k. bit_of (choice_at b.choices.items k) (k == u))
    (λ k within. ones_set b.choices.items x u k opened (decided.shown (λ v. false) k within)) in
    let none = move_over m move f pairs (set_bit x u false) (λ k. bit_of (choice_at b.choices.items k) false)
    (λ k within. zeros_set b.choices.items x u k opened (decided.shown (λ v. false) k within)) in
    decided.greatest u (omega (arith, l, most)) opened ∙ (λ i. one i -ℤ none i)
