use Rattle.std.proofs.Common.{◌≡◌, ◌==◌, ◌||◌, ◌⊎◌, Bool, true, false, ℕ, zero, suc, ◌<◌, List, [], ◌∷◌, refl, ap, ◌∙◌, inl, inr, arith}
use Rattle.std.proofs.lemmas.Bool.Decides.{nat_tests}
use Rattle.std.proofs.lemmas.Bool.{cases_lt}
use Rattle.std.specs.List.{All, sum_by}
use Rattle.std.proofs.lemmas.List.Sums.{sum_by-cons}
use Rattle.std.proofs.lemmas.List.Elements.{All-head, All-tail}
use Rattle.sums.specs.Sums.{count_if}
use Rattle.sums.proofs.SumLemmas.{sum_below-same, sum_below-none}
use Rattle.label_field.specs.PairLists.{IsPair}
use Rattle.label_energies.specs.Energies.{Instance, IsInstance, pair_cost, plain_energy, is_used, label_energy, energy, AreLabelsFree, Agrees}

pub sum_by-same : {A : Type 0} (P : A → Type 0) (f g : A → ℕ) (xs : List A) → All P xs → ((x : A) → P x → f x ≡ g x) → sum_by f xs ≡ sum_by g xs
sum_by-same P f g [] all same = refl
sum_by-same P f g (x ∷ xs) all same =
    omega (arith, sum_by-cons f x xs, sum_by-cons g x xs, same x (All-head P x xs all), sum_by-same P f g xs (All-tail P x xs all) same)

-- an energy depends on the labels of the sites alone
pub plain-same : (m : Instance) (f g : ℕ → ℕ) → IsInstance m → Agrees m.sites f g → plain_energy m f ≡ plain_energy m g
plain-same m f g pairs same =
    let at_sites = sum_below-same m.sites (λ p. m.data_cost p (f p)) (λ p. m.data_cost p (g p)) (λ p l. ap (m.data_cost p) (same p l)) in
    let smooth = sum_by-same (IsPair m.sites) (pair_cost m f) (pair_cost m g) m.pairs pairs
    (λ pair within. (let a = same pair.first within.first in let b = same pair.second within.second in cc)) in
    omega (arith, at_sites, smooth)

pub used-same : (n : ℕ) (f g : ℕ → ℕ) (label : ℕ) → Agrees n f g → is_used n f label ≡ is_used n g label
used-same zero f g label same = refl
used-same (suc n) f g label same =
    ap (λ b. b || (f n == label)) (used-same n f g label (λ p l. same p (omega (arith, l)))) ∙ ap (λ a. is_used n g label || (a == label)) (same n (omega arith))

pub labels-same : (m : Instance) (f g : ℕ → ℕ) → Agrees m.sites f g → label_energy m f ≡ label_energy m g
labels-same m f g same =
    sum_below-same m.labels (λ label. count_if (is_used m.sites f label) (m.label_cost label)) (λ label. count_if (is_used m.sites g label) (m.label_cost label))
    (λ label l. ap (λ b. count_if b (m.label_cost label)) (used-same m.sites f g label same))

pub energy-same : (m : Instance) (f g : ℕ → ℕ) → IsInstance m → Agrees m.sites f g → energy m f ≡ energy m g
energy-same m f g pairs same = (let plain = plain-same m f g pairs same in let labels = labels-same m f g same in cc)

-- where no label costs anything by itself, the energy is what the labels cost the sites and the
-- pairs
none_counted : (b : Bool) (cost : ℕ) → cost ≡ 0 → count_if b cost ≡ 0
none_counted true cost h = h
none_counted false cost h = refl

pub free-plain : (m : Instance) (f : ℕ → ℕ) → AreLabelsFree m → energy m f ≡ plain_energy m f
free-plain m f free =
    let none = sum_below-none m.labels (λ label. count_if (is_used m.sites f label) (m.label_cost label)) (λ label l. none_counted (is_used m.sites f label) (m.label_cost label) (free label l)) in
    omega (arith, none)

-- a label is used exactly where some site has it
pub is_equal : (a b : ℕ) → (a == b) ≡ true → a ≡ b
is_equal a b h = grind (arith, nat_tests)

pub equal_is : (a b : ℕ) → a ≡ b → (a == b) ≡ true
equal_is a b h = grind (arith, nat_tests)

either_true : (a b : Bool) → (a || b) ≡ true → (a ≡ true) ⊎ (b ≡ true)
either_true true b h = inl refl
either_true false b h = inr h

first_true : (a b : Bool) → a ≡ true → (a || b) ≡ true
first_true true b h = refl
first_true false b h = absurd (cc (h))

second_true : (a b : Bool) → b ≡ true → (a || b) ≡ true
second_true true b h = refl
second_true false b h = h

pub used_somewhere : (n : ℕ) (f : ℕ → ℕ) (label : ℕ) → is_used n f label ≡ true → (p : ℕ) × (p < n) × (f p ≡ label)
used_somewhere zero f label h = absurd (cc (h))
used_somewhere (suc n) f label h = elim (either_true (is_used n f label) (f n == label) h) [
  | inl before ↦ (let there = used_somewhere n f label before in (there.0, omega (arith, there.1), there.2))
  | inr here ↦ (n, omega arith, is_equal (f n) label here)
]

pub somewhere_used : (n : ℕ) (f : ℕ → ℕ) (label p : ℕ) → p < n → f p ≡ label → is_used n f label ≡ true
somewhere_used zero f label p l h = absurd (omega (arith, l))
somewhere_used (suc n) f label p l h = elim (cases_lt p n) [
  | inl before ↦ first_true (is_used n f label) (f n == label) (somewhere_used n f label p before h)
  | inr last ↦ (let same : n ≡ p = omega (arith, l, last) in second_true (is_used n f label) (f n == label) (equal_is (f n) label (ap f same ∙ h)))
]
