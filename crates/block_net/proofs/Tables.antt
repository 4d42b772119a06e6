-- Lists made from a function of the index.
use Rattle.std.proofs.Common.{◌≡◌, ℕ, ◌<◌, List, length, get_or, sym, ◌∙◌, arith}
use Rattle.std.proofs.lemmas.List.{same_lists}
use Rattle.std.proofs.lemmas.List.FromFn.{get_or-map-range_with_len, length-map-range_with_len}
use Rattle.block_net.specs.Whole.{table}

pub length_table : {A : Type 0} (n : ℕ) (f : ℕ → A) → length (table n f) ≡ n
length_table n f = length-map-range_with_len f 0 n

pub table_at : {A : Type 0} (n : ℕ) (f : ℕ → A) (i : ℕ) (d : A) → i < n → get_or (table n f) i d ≡ f i
table_at n f i d l = get_or-map-range_with_len f 0 n i i d l (omega arith)

-- a list of n elements that are those of f
pub table_is : {A : Type 0} (n : ℕ) (f : ℕ → A) (xs : List A) → length xs ≡ n → ((i : ℕ) (d : A) → i < n → get_or xs i d ≡ f i) → table n f ≡ xs
table_is n f xs len each =
    same_lists (table n f) xs (length_table n f ∙ sym len) (λ k d l.
    let lk : k < n = omega (arith, l, length_table n f) in
    table_at n f k d lk ∙ sym (each k d lk))
