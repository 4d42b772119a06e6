-- Flags of the blocks that directions lead to.
use Rattle.std.proofs.Common.{◌≡◌, ℕ, zero, suc, ◌+◌, ◌<◌, Bool, false, true, List, [], ◌∷◌, ◌++◌, length, replicate, set, get_or, get_or-set_other, refl, sym, ◌∙◌, ap, subst, inl, inr, arith}
use Rattle.std.proofs.Math.Seq.{get_or-append_seam}
use Rattle.std.proofs.lemmas.Bool.{cases_eq}
use Rattle.std.proofs.lemmas.List.{get_or_append_left}
use Rattle.block_net.specs.Views.{CellsView, border_in}
use Rattle.block_rings.specs.Joining.{AreScanned, IsScanned}

-- one of the first so many directions of the block leads to block c
pub record LeadsBefore (block : CellsView) (j c : ℕ) : Type 0 where
  pub place : ℕ
  pub below : place < j
  pub is : (border_in block place).to ≡ c

pub none_set : (n c : ℕ) → get_or (replicate n false) c false ≡ true → ⊥
none_set zero zero e = cc
none_set zero (suc c) e = cc
none_set (suc n) zero e = cc
none_set (suc n) (suc c) e = none_set n c e

pub leads_later : (block : CellsView) (j c : ℕ) → LeadsBefore block j c → LeadsBefore block (j + 1) c
leads_later block j c was = record { place = was.place; below = omega (arith, was.below); is = was.is }

pub sets_one : (block : CellsView) (flags : List Bool) (j : ℕ) → ((c : ℕ) → get_or flags c false ≡ true → LeadsBefore block j c)
    → (c : ℕ) → get_or (set flags (border_in block j).to true) c false ≡ true → LeadsBefore block (j + 1) c
sets_one block flags j was c on = elim (cases_eq c (border_in block j).to) [
  | inl is ↦ record { place = j; below = omega arith; is = sym is }
  | inr off ↦ leads_later block j c (was c (sym (get_or-set_other flags (border_in block j).to c true false off) ∙ on))
]

pub any_default : {X : Type 0} (xs : List X) (k : ℕ) (d e : X) → k < length xs → get_or xs k d ≡ get_or xs k e
any_default [] k d e low = absurd (omega (arith, low))
any_default (x ∷ xs) zero d e low = refl
any_default (x ∷ xs) (suc k) d e low = any_default xs k d e (omega (arith, low))

pub scans_more : (cells : List CellsView) (rows : List (List Bool)) (row : List Bool) (block : CellsView) (k : ℕ) → length rows ≡ k → k < length cells
    → block ≡ get_or cells k block → IsScanned (length cells) block row
    → ((i : ℕ) (d : CellsView) → i < k → IsScanned (length cells) (get_or cells i d) (get_or rows i []))
    → (i : ℕ) (d : CellsView) → i < k + 1 → IsScanned (length cells) (get_or cells i d) (get_or (rows ++ row ∷ []) i [])
scans_more cells rows row block k long low is last before i d less = elim (cases_eq i k) [
  | inl same ↦
      let at : get_or (rows ++ row ∷ []) i [] ≡ row = ap (λ m. get_or (rows ++ row ∷ []) m []) (same ∙ sym long) ∙ get_or-append_seam rows row [] [] in
      let one : block ≡ get_or cells i d = is ∙ (any_default cells k block d low ∙ ap (λ m. get_or cells m d) (sym same)) in
      subst (λ r. IsScanned (length cells) (get_or cells i d) r) (sym at) (subst (λ b. IsScanned (length cells) b row) one last)
  | inr off ↦
      let i_low : i < length rows = omega (arith, long, less, off) in
      subst (λ r. IsScanned (length cells) (get_or cells i d) r) (sym (get_or_append_left rows (row ∷ []) [] i i_low)) (before i d (omega (arith, less, off)))
]

at_place : {X : Type 0} → (xs : List X) (k : ℕ) → k < length xs → X
at_place [] k below = absurd (omega (arith, below))
at_place (x ∷ xs) k below = x

pub all_scans : (cells : List CellsView) (rows : List (List Bool)) (k : ℕ) → length rows ≡ k → k ≡ length cells
    → ((i : ℕ) (d : CellsView) → i < k → IsScanned (length cells) (get_or cells i d) (get_or rows i [])) → AreScanned cells rows
all_scans cells rows k long all before = record {
  square = record {
    len = long ∙ all;
    each = λ b low. (before b (at_place cells b low) (omega (arith, low, all))).len;
  };
  each = λ b d low. before b d (omega (arith, low, all));
}
