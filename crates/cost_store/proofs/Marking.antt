-- Which labels are marked, site by site.
use Rattle.std.proofs.Common.{◌≡◌, ◌≢◌, ◌==◌, ◌||◌, ℕ, suc, ◌+◌, ◌<◌, Bool, true, false, List, length, set, replicate, slice_index_or, refl, sym, ap, ◌∙◌, inl, inr, subst, add-one, arith}
use Rattle.std.proofs.lemmas.Bool.{cases_eq}
use Rattle.std.proofs.lemmas.Bool.Decides.{nat_tests}
use Rattle.std.proofs.lemmas.List.{get_or-replicate, get_or-set_same, get_or-set_other, length-set, length-replicate}
use Rattle.label_energies.specs.Energies.{is_used}
use Rattle.label_energies.proofs.Energy.{equal_is}
use Rattle.cost_store.specs.LabelCosts.{AreLabelMarks}

any_true : (b : Bool) → (b || true) ≡ true
any_true true = refl
any_true false = refl

any_false : (b : Bool) → (b || false) ≡ b
any_false true = refl
any_false false = refl

apart : (a b : ℕ) → a ≢ b → (a == b) ≡ false
apart a b h = grind (arith, nat_tests)

-- before the first site no label is marked
pub none_marked : (f : ℕ → ℕ) → AreLabelMarks 0 f (replicate 256 false)
none_marked f = record {
  size = length-replicate 256 false;
  each = λ label l. get_or-replicate 256 label false false l;
}

mark_here : (n : ℕ) (f : ℕ → ℕ) (at label : ℕ) (marks : List Bool) → AreLabelMarks n f marks → f n ≡ at → label < 256 → label ≡ at
    → slice_index_or (set marks at true) label false ≡ is_used (suc n) f label
mark_here n f at label marks are is l same =
    let there : at < length marks = omega (arith, l, same, are.size) in
    ap (λ (k : ℕ). slice_index_or (set marks at true) k false) same ∙ get_or-set_same marks at true false there
    ∙ sym (ap (λ b. is_used n f label || b) (equal_is (f n) label (is ∙ sym same)) ∙ any_true (is_used n f label))

mark_there : (n : ℕ) (f : ℕ → ℕ) (at label : ℕ) (marks : List Bool) → AreLabelMarks n f marks → f n ≡ at → label < 256 → label ≢ at
    → slice_index_or (set marks at true) label false ≡ is_used (suc n) f label
mark_there n f at label marks are is l off =
    get_or-set_other marks at label true false off ∙ are.each label l
    ∙ sym (ap (λ b. is_used n f label || b) (apart (f n) label (λ same. off (sym same ∙ is))) ∙ any_false (is_used n f label))

-- each site marks its label
pub one_marked : (n : ℕ) (f : ℕ → ℕ) (at : ℕ) (marks : List Bool) → AreLabelMarks n f marks → f n ≡ at → AreLabelMarks (n + 1) f (set marks at true)
one_marked n f at marks are is =
    let P : ℕ → Type 0 = λ k. AreLabelMarks k f (set marks at true) in
    subst P (sym (add-one n)) (record {
      size = length-set marks at true ∙ are.size;
      each = λ label l. (elim (cases_eq label at) [ inl same ↦ mark_here n f at label marks are is l same | inr off ↦ mark_there n f at label marks are is l off ]);
    })
