-- Closed sites are passed over.
use Rattle.std.proofs.Common.{◌≡◌, ◌≢◌, ℕ, zero, suc, ◌+◌, ◌-◌, ◌<◌, ◌≤◌, All, Contains, List, [], ◌∷◌, ◌++◌, cond, length, ℤ, unsigned_abs, refl, sym, ap, ◌∙◌, inl, inr, subst, arith}
use Rattle.std.proofs.lemmas.Bool.{cases_lt}
use Rattle.std.proofs.lemmas.List.{append-nil}
use Rattle.label_energies.specs.declared.change.Move.{Move}
use Rattle.label_energies.specs.Energies.{Instance}
use Rattle.compile_cut.specs.Weights.{weights_size}
use Rattle.move_energy.specs.declared.choice.Choice.{Choice}
use Rattle.move_energy.specs.declared.choice.Choice.TheVariants.{Open, Zero, One}
use Rattle.move_energy.specs.Choices.{bit_of, choice_at, is_open}
use Rattle.move_energy.specs.Weights.{open_weights}
use Rattle.site_bounds.specs.declared.bounds.Bounds.{Bounds}
use Rattle.site_bounds.specs.Working.{bound_at, IsSummed, IsWithinRange, AreWaiting, ArePartlyDecided, PassesClosed, greatest_total}
use Rattle.site_bounds.proofs.Ranges.{below_not, tells_same}

pub passed_sized : (n to : ℕ) (old new : Bounds) → PassesClosed to old new → IsSummed n old → to ≤ n → IsSummed n new
passed_sized n to old new passes was inside = record {
  sized = record {
    choices = ap (λ (v : _). length v.items) passes.choices ∙ was.sized.choices;
    least = ap (λ (v : _). length v.items) passes.least ∙ was.sized.least;
    greatest = ap (λ (v : _). length v.items) passes.greatest ∙ was.sized.greatest;
  };
  within = omega (arith, passes.summed, inside);
}

pub passed_bounds : (to : ℕ) (old new : Bounds) → PassesClosed to old new → (u : ℕ)
    → (bound_at new.least.items u ≡ bound_at old.least.items u) × (bound_at new.greatest.items u ≡ bound_at old.greatest.items u)
passed_bounds to old new passes u = (ap (λ (v : _). bound_at v.items u) passes.least, ap (λ (v : _). bound_at v.items u) passes.greatest)

with_none : (c : Choice) (xs : List ℤ) (z : ℤ) → c ≢ Open → xs ++ cond (is_open c) (z ∷ []) [] ≡ xs
with_none Open xs z off = absurd (off refl)
with_none Zero xs z off = append-nil xs
with_none One xs z off = append-nil xs

-- closed sites have no weights
weights_on : (choices : List Choice) (numbers : List ℤ) (n k : ℕ) → ((u : ℕ) → n ≤ u → u < n + k → choice_at choices u ≢ Open)
    → open_weights choices numbers (n + k) ≡ open_weights choices numbers n
weights_on choices numbers n zero none = (let same : n + zero ≡ n = omega arith in ap (open_weights choices numbers) same)
weights_on choices numbers n (suc k) none =
    let next : n + suc k ≡ suc (n + k) = omega arith in
    ap (open_weights choices numbers) next
    ∙ with_none (choice_at choices (n + k)) (open_weights choices numbers (n + k)) (bound_at numbers (n + k)) (none (n + k) (omega arith) (omega arith))
    ∙ weights_on choices numbers n k (λ u l h. none u l (omega (arith, h)))

pub passed_total : (to : ℕ) (old new : Bounds) → PassesClosed to old new → greatest_total new ≡ greatest_total old
passed_total to old new passes =
    let n = old.summed in
    let all : n + (to - n) ≡ to = omega (arith, passes.on) in
    let on = weights_on old.choices.items old.greatest.items n (to - n) (λ u l h. passes.closed u l (omega (arith, h, all))) in
    (λ i. weights_size (open_weights ((passes.choices i).items) ((passes.greatest i).items) (passes.summed i)))
    ∙ ap (λ k. weights_size (open_weights old.choices.items old.greatest.items k)) (sym all) ∙ ap (λ (ws : List ℤ). weights_size ws) on

-- an open one of them is one that was passed before
earlier : (to u : ℕ) (old new : Bounds) → PassesClosed to old new → u < to → choice_at new.choices.items u ≡ Open → (u < old.summed) × (choice_at old.choices.items u ≡ Open)
earlier to u old new passes below now =
    let was = ap (λ (v : _). choice_at v.items u) (sym passes.choices) ∙ now in
    elim (cases_lt u old.summed) [
      | inl before ↦ (before, was)
      | inr after ↦ absurd (passes.closed u after below was)
    ]

pub passed_range : (to most : ℕ) (old new : Bounds) → PassesClosed to old new → IsWithinRange most old → IsWithinRange most new
passed_range to most old new passes within u now =
    let was = within u (earlier to u old new passes (omega (arith, now.0, passes.summed)) now.1) in
    let same = passed_bounds to old new passes u in
    let a = ap unsigned_abs same.0 in
    let b = ap unsigned_abs same.1 in
    (omega (arith, a, was.0), omega (arith, b, was.1))

pub passed_waits : (to : ℕ) (old new : Bounds) → PassesClosed to old new → AreWaiting old.summed old → AreWaiting to new
passed_waits to old new passes waiting =
    let items = ap (λ (v : _). v.items) passes.waiting in
    let P : List ℕ → Type 0 = λ xs. All (λ u. u < to) xs in
    record {
      sites = subst P (sym items) (λ i d l. (let h = waiting.sites i d l in omega (arith, h, passes.on)));
      each = λ u l off now tells.
          let was = earlier to u old new passes l now in
          let same = passed_bounds to old new passes u in
          let C : List ℕ → Type 0 = λ xs. Contains xs u in
          subst C (sym items) (waiting.each u was.0 (below_not u old.summed was.0) was.1 (tells_same old new u same.0 same.1 tells));
    }

pub passed_decides : (m : Instance) (move : Move) (f : ℕ → ℕ) (to : ℕ) (old new : Bounds) → PassesClosed to old new → ArePartlyDecided m move f old.summed old → ArePartlyDecided m move f to new
passed_decides m move f to old new passes decided = record {
  decisions = decided.decisions;
  passed = decided.passed;
  shown = λ x p l. decided.shown x p l ∙ ap (λ (v : _). bit_of (choice_at v.items p) (x p)) (sym passes.choices);
  least = λ u l now. (let was = earlier to u old new passes l now in (passed_bounds to old new passes u).0 ∙ decided.least u was.0 was.1);
  greatest = λ u l now. (let was = earlier to u old new passes l now in (passed_bounds to old new passes u).1 ∙ decided.greatest u was.0 was.1);
}
