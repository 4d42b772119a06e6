-- The best labelling that an expansion of label 1 from label 0 reaches, as an assignment.
use Rattle.std.proofs.Common.{◌≡◌, ◌≢◌, ℕ, zero, suc, ◌+◌, ◌<◌, ◌≤◌, ◌⊎◌, Bool, true, false, inl, inr, List, [], ◌∷◌, ◌*◌, All, length, get_or, replicate, slice_index, vec_len, refl, sym, ap, ◌∙◌, arith, ℤ, pos, ◌+ℤ◌, ◌≤ℤ◌}
use Rattle.std.specs.Prelude.{◌==◌}
use Rattle.std.proofs.lemmas.Int.{ints}
use Rattle.std.proofs.lemmas.Bool.{cases_lt}
use Rattle.std.proofs.lemmas.Bool.Decides.{nat_tests}
use Rattle.std.proofs.lemmas.List.{get_or-replicate, get_or_past, length-replicate}
use Rattle.label_field.specs.declared.pair.Pair.{Pair}
use Rattle.label_field.specs.PairLists.{PairList, IsPair, number_pairs}
use Rattle.label_field.proofs.Numbers.{numbered_list}
use Rattle.label_energies.specs.declared.change.Move.TheVariants.{Expand}
use Rattle.label_energies.specs.Energies.{Instance, IsInstance, energy, labelling}
use Rattle.label_energies.specs.Moves.{IsBest, IsReached, MayBecome}
use Rattle.label_energies.proofs.Energy.{energy-same}
use Rattle.pseudo_bool.specs.Energies.{Energy, IsEnergy, IsTerm, entry, term_value, value_at, digit}
use Rattle.pseudo_bool.specs.declared.term.Term.{Term}
use Rattle.pseudo_bool.specs.declared.term.Term.TheVariants.{One, Two, Three}
use Rattle.sums.specs.IntegerSums.{int_sum_by}
use Rattle.std.proofs.lemmas.List.Elements.{All-head, All-tail}
use Rattle.compile_cut.specs.declared.quadratic.Quadratic.{Quadratic}
use Rattle.compile_cut.specs.Quadratics.{quadratic_value, SaysValues}
use Rattle.compile_cut.specs.Shown.{IsSmallestLeastAssignment}
use Rattle.form_costs.specs.FormCosts.{AreFormPairs, instance_of_form, bits_as_labels}
use Rattle.form_costs.proofs.Values.{form_rest, form_energy}

-- the assignment of a labelling
abbrev pub bits_of : List ℕ → ℕ → Bool
bits_of g p = slice_index g p == 1

digit_of : (k : ℕ) → (k ≡ 0) ⊎ (k ≡ 1) → k ≡ digit (k == 1)
digit_of k (inl none) = none ∙ ap (λ n. digit (n == 1)) (sym none)
digit_of k (inr one) = one ∙ ap (λ n. digit (n == 1)) (sym one)

begins : (old new : ℕ) → old ≡ 0 → (new ≡ old) ⊎ (new ≡ 1) → (new ≡ 0) ⊎ (new ≡ 1)
begins old new none (inl same) = inl (same ∙ none)
begins old new none (inr one) = inr one

reached_bit : (b : Bool) (k : ℕ) → k ≡ 0 → (digit b ≡ k) ⊎ (digit b ≡ 1)
reached_bit true k none = inr refl
reached_bit false k none = inl (sym none)

one_bit : (b : Bool) → digit b ≡ 1 → b ≡ true
one_bit true h = refl
one_bit false h = absurd (omega (arith, h))

is_one : (k : ℕ) → (k == 1) ≡ true → k ≡ 1
is_one k h = grind (arith, nat_tests, h)

same_order : (u v k : ℤ) (m n : ℕ) → u ≡ k +ℤ pos m → v ≡ k +ℤ pos n → m ≤ n → u ≤ℤ v
same_order u v k m n at_u at_v l = omega (arith, ints, at_u, at_v, l)

same_energy : (u v k : ℤ) (m n : ℕ) → u ≡ k +ℤ pos m → v ≡ k +ℤ pos n → u ≡ v → m ≤ n
same_energy u v k m n at_u at_v same = omega (arith, ints, at_u, at_v, same)

lowest : (a b c d : ℤ) → a ≤ℤ b → b ≤ℤ c → c ≡ d → a ≤ℤ d
lowest a b c d h k e = omega (arith, ints, h, k, e)

meet : (a b c d : ℤ) → a ≤ℤ b → b ≤ℤ c → c ≡ d → d ≡ a → c ≡ b
meet a b c d h k e f = omega (arith, ints, h, k, e, f)

pub form_instance : (q : Quadratic) (pairs : PairList) → AreFormPairs q pairs → IsInstance (instance_of_form q pairs)
form_instance q pairs h = (numbered_list pairs.sites pairs.list pairs.numbered h.are).each

-- what is said of the assignment over all nodes
record IsLeastForm (n : ℕ) (q : Quadratic) (z : ℕ → Bool) : Type 0 where
  pub least : (y : ℕ → Bool) → quadratic_value q z ≤ℤ quadratic_value q y
  pub smallest : (y : ℕ → Bool) → quadratic_value q y ≡ quadratic_value q z → (p : ℕ) → p < n → z p ≡ true → y p ≡ true

none_at : (n p : ℕ) → slice_index (replicate n 0) p ≡ 0
none_at n p = elim (cases_lt p n) [
  | inl l ↦ get_or-replicate n p 0 0 l
  | inr past ↦ get_or_past (replicate n 0) p 0 (omega (arith, past, length-replicate {A = ℕ} n 0))
]

least_form : (q : Quadratic) (pairs : PairList) (g : List ℕ) → AreFormPairs q pairs → IsBest (instance_of_form q pairs) (Expand 1) (replicate (vec_len q.weights) 0) g
    → IsLeastForm (vec_len q.weights) q (bits_of g)
least_form q pairs g h best =
    let n = vec_len q.weights in
    let m = instance_of_form q pairs in
    let f : List ℕ = replicate n 0 in
    let z = bits_of g in
    let same : energy m (labelling g) ≡ energy m (bits_as_labels z) =
    energy-same m (labelling g) (bits_as_labels z) (form_instance q pairs h)
    (λ p l. digit_of (labelling g p) (begins (labelling f p) (labelling g p) (none_at n p) (best.reached p l))) in
    let may : (y : ℕ → Bool) → IsReached (Expand 1) m.sites (labelling f) (bits_as_labels y) = λ y p l. reached_bit (y p) (labelling f p) (none_at n p) in
    let value = form_energy q pairs h in
    record {
      least = λ y. same_order _ _ (form_rest q) _ _ (value z) (value y) (omega (arith, same, best.lowest (bits_as_labels y) (may y)));
      smallest = λ y equal p l one.
          let low : energy m (bits_as_labels y) ≤ energy m (labelling g) = omega (arith, same, same_energy _ _ (form_rest q) _ _ (value y) (value z) equal) in
          elim (cases_lt (energy m (labelling g)) (energy m (labelling f))) [
            | inl lower ↦ one_bit (y p) (best.smallest lower (bits_as_labels y) (may y) low p (omega (arith, l, h.sites)) (is_one (labelling g p) one))
            | inr not_lower ↦ absurd (let e : labelling g p ≡ 0 = ap (λ (xs : List ℕ). slice_index xs p) (best.kept (omega (arith, not_lower))) ∙ none_at n p in omega (arith, e, is_one (labelling g p) one))
          ];
    }

-- a term depends on its variables alone
term_same : (n : ℕ) (x z : ℕ → Bool) (t : Term) → IsTerm n t → ((i : ℕ) → i < n → x i ≡ z i) → term_value x t ≡ term_value z t
term_same n x z (One first table) is same = ap (λ b. entry table (digit b)) (same first is.0)
term_same n x z (Two first second table) is same = (let one = same first is.0 in let two = same second is.1 in λ i. entry table (2 * digit (one i) + digit (two i)))
term_same n x z (Three first second third table) is same =
    (let one = same first is.0 in let two = same second is.1 in let three = same third is.2 in λ i. entry table (4 * digit (one i) + 2 * digit (two i) + digit (three i)))

terms_same : (n : ℕ) (x z : ℕ → Bool) (ts : List Term) → All (IsTerm n) ts → ((i : ℕ) → i < n → x i ≡ z i) → int_sum_by (term_value x) ts ≡ int_sum_by (term_value z) ts
terms_same n x z [] all same = refl
terms_same n x z (t ∷ ts) all same =
    (let here = term_same n x z t (All-head (IsTerm n) t ts all) same in let rest = terms_same n x z ts (All-tail (IsTerm n) t ts all) same in λ i. here i +ℤ rest i)

pub best_is_minimum : (e : Energy) (q : Quadratic) (pairs : PairList) (g : List ℕ) (x : ℕ → Bool) → IsEnergy e → SaysValues e q → e.variables ≤ vec_len q.weights
    → AreFormPairs q pairs → IsBest (instance_of_form q pairs) (Expand 1) (replicate (vec_len q.weights) 0) g
    → ((p : ℕ) → p < e.variables → x p ≡ (slice_index g p == 1)) → IsSmallestLeastAssignment e x
best_is_minimum e q pairs g x is says within h best bits =
    let z = bits_of g in
    let all = least_form q pairs g h best in
    let same : value_at e x ≡ value_at e z = ap (λ (v : ℤ). e.constant +ℤ v) (terms_same e.variables x z e.terms is.terms bits) in
    record {
      least = λ y. (let other = says.reached y in omega (arith, ints, same, lowest (value_at e z) (quadratic_value q z) (quadratic_value q other.0) (value_at e y) (says.lower z) (all.least other.0) other.2));
      smallest = λ y equal v l one.
          let other = says.reached y in
          let level = meet (value_at e z) (quadratic_value q z) (quadratic_value q other.0) (value_at e y) (says.lower z) (all.least other.0) other.2 (equal ∙ same) in
          sym (other.1 v l) ∙ all.smallest other.0 level v (omega (arith, within, l)) (sym (bits v l) ∙ one);
    }
