-- Lists that threads fill.
use Rattle.std.proofs.Common.{◌≡◌, ℕ, ◌+◌, ◌*◌, ◌/◌, ◌%◌, ◌<◌, ◌++◌, List, [], ◌∷◌, length, get_or, map, ℤ, pos, sym, ap, ◌∙◌, inl, inr, arith}
use Rattle.std.specs.List.{AllZip, range_with_len}
use Rattle.std.proofs.lemmas.Bool.{cases_lt}
use Rattle.std.proofs.lemmas.Nat.{mul-add-lt, div-mul-add, mod-mul-add}
use Rattle.std.proofs.Math.Nat.{mul_comm}
use Rattle.std.proofs.lemmas.List.FromFn.{get_or-map-range_with_len, length-map-range_with_len}
use Rattle.std.proofs.lemmas.Slice.Zip.{AllZip-map}
use Rattle.std.proofs.lemmas.List.{get_or_push, get_or_append_left}
use Rattle.cost_store.specs.Promises.{IsTable, IsColumn}

-- a weaker fact of each two
pub allzip_weaken : {A B : Type 0} (R S : A → B → Type 0) → ((x : A) (y : B) → R x y → S x y) → (xs : List A) (ys : List B) → AllZip R xs ys → AllZip S xs ys
allzip_weaken R S to [] [] all = all
allzip_weaken R S to [] (y ∷ ys) all = all
allzip_weaken R S to (x ∷ xs) [] all = all
allzip_weaken R S to (x ∷ xs) (y ∷ ys) all = (to x y all.0, allzip_weaken R S to xs ys all.1)

-- the values of a function at the first numbers
pub filled_by : (f : ℕ → ℤ) (n : ℕ) (xs : List ℕ) (ys : List ℤ) → xs ≡ range_with_len 0 n → AllZip (λ (x : ℕ) (y : ℤ). y ≡ f x) xs ys → ys ≡ map f (range_with_len 0 n)
filled_by f n xs ys e all = AllZip-map f xs ys all ∙ ap (map f) e

pub filled_table : (rows k : ℕ) (cost : ℕ → ℕ → ℕ) (list : List ℤ) → list ≡ map (λ (i : ℕ). pos (cost (i / k) (i % k))) (range_with_len 0 (rows * k)) → IsTable rows k cost list
filled_table rows k cost list is =
    let f : ℕ → ℤ = λ (i : ℕ). pos (cost (i / k) (i % k)) in
    record {
      size = ap length is ∙ length-map-range_with_len f 0 (rows * k);
      each = λ a b la lb.
          let within : a * k + b < rows * k = omega (arith, mul-add-lt a k b rows la lb, mul_comm rows k) in
          ap (λ (xs : List ℤ). get_or xs (a * k + b) (pos 0)) is ∙ (get_or-map-range_with_len f 0 (rows * k) (a * k + b) (a * k + b) (pos 0) within (omega arith)
          ∙ (λ i. pos (cost (div-mul-add a k b lb i) (mod-mul-add a k b lb i))));
    }

pub filled_column : (rows label : ℕ) (cost : ℕ → ℕ → ℕ) (list : List ℤ) → list ≡ map (λ (i : ℕ). pos (cost i label)) (range_with_len 0 rows) → IsColumn rows label cost list
filled_column rows label cost list is =
    let f : ℕ → ℤ = λ (i : ℕ). pos (cost i label) in
    record {
      size = ap length is ∙ length-map-range_with_len f 0 rows;
      each = λ a la. ap (λ (xs : List ℤ). get_or xs a (pos 0)) is ∙ get_or-map-range_with_len f 0 rows a a (pos 0) la (omega arith);
    }

-- one more entry
pub column_push : (f : ℕ → ℤ) (s : ℕ) (old new : List ℤ) (z : ℤ) → new ≡ old ++ z ∷ [] → length old ≡ s → z ≡ f s
    → ((a : ℕ) → a < s → get_or old a (pos 0) ≡ f a) → (a : ℕ) → a < s + 1 → get_or new a (pos 0) ≡ f a
column_push f s old new z is len own each a within = elim (cases_lt a s) [
  | inl before ↦ ap (λ (xs : List ℤ). get_or xs a (pos 0)) is ∙ get_or_append_left old (z ∷ []) (pos 0) a (omega (arith, before, len)) ∙ each a before
  | inr here ↦
      let same : a ≡ s = omega (arith, here, within) in
      ap (λ (xs : List ℤ). get_or xs a (pos 0)) is ∙ get_or_push old z (pos 0) a (omega (arith, len, same)) ∙ own ∙ ap f (sym same)
]
