-- The list of an array, beside the values that it holds.
use Rattle.std.proofs.Common.{◌≡◌, ℕ, ◌+◌, ◌<◌, ◌≤◌, nat_lt, true, false, Bool, not, ◌&&◌, cond, List, [], ◌∷◌, length, get_or, map, ℤ, pos, negsuc, unsigned_abs, int_le, All, Some, None, refl, sym, ap, suc, ◌∙◌, arith}
use Rattle.std.specs.List.{position, position_or_len, prefix_len}
use Rattle.std.proofs.lemmas.Bool.Decides.{nat_tests}
use Rattle.std.proofs.lemmas.List.Sums.{prefix_len_passes}
use Rattle.toml.specs.Data.{Data}
use Rattle.toml.specs.View.{items_of, items_view, view}
use Rattle.toml.specs.declared.value.Value.{Value}
use Rattle.problem_files.specs.ListFields.{integer_of, is_out_of_range, list_of, natural_of}

back : (ds : List Data) → list_of (items_of ds) ≡ ds
back [] = refl
back (d ∷ ds) = ap (λ es. d ∷ es) (back ds)

pub items : (vs : List Value) → list_of (items_view vs) ≡ map view vs
items vs = back (map view vs)

pub length_viewed : (vs : List Value) → length (map view vs) ≡ length vs
length_viewed [] = refl
length_viewed (v ∷ vs) = ap (λ n. suc n) (length_viewed vs)

prefix_viewed : (p : Data → Bool) (vs : List Value) → prefix_len p (map view vs) ≡ prefix_len (λ v. p (view v)) vs
prefix_viewed p [] = refl
prefix_viewed p (v ∷ vs) = ap (λ n. cond (p (view v)) (1 + n) 0) (prefix_viewed p vs)

pub position_viewed : (p : Data → Bool) (vs : List Value) → position p (map view vs) ≡ position (λ v. p (view v)) vs
position_viewed p vs =
    λ i. cond (nat_lt (prefix_viewed (λ d. not (p d)) vs i) (length_viewed vs i)) (Some (prefix_viewed (λ d. not (p d)) vs i)) None

-- where no element passes, each one fails
chosen : (b : Bool) (n : ℕ) → cond b (Some n) None ≡ None → b ≡ false
chosen true n e = cc
chosen false n e = refl

unpassed : (b : Bool) → not b ≡ true → b ≡ false
unpassed true e = cc
unpassed false e = refl

pub none_passes : {X : Type 0} (p : X → Bool) (vs : List X) → position p vs ≡ None → (k : ℕ) (d : X) → k < length vs → p (get_or vs k d) ≡ false
none_passes p vs e k d below =
    let whole : nat_lt (position_or_len p vs) (length vs) ≡ false = chosen (nat_lt (position_or_len p vs) (length vs)) (position_or_len p vs) e in
    let within : k < prefix_len (λ v. not (p v)) vs = grind (arith, nat_tests) in
    unpassed (p (get_or vs k d)) (prefix_len_passes (λ v. not (p v)) vs k d within)

pub small : (most : ℕ) (z : ℤ) → not (int_le (pos 0) z && int_le z (pos most)) ≡ false → unsigned_abs z ≤ most
small most (pos n) e = grind (arith, nat_tests)
small most (negsuc n) e = absurd (let no = e in cc)

pub all_in_range : (most : ℕ) (vs : List Value) → position (is_out_of_range most) (map view vs) ≡ None → All (λ v. natural_of (view v) ≤ most) vs
all_in_range most vs e k d below =
    small most (integer_of (view (get_or vs k d))) (none_passes (λ v. is_out_of_range most (view v)) vs (sym (position_viewed (is_out_of_range most) vs) ∙ e) k d below)

pub map_viewed : {A : Type 0} (f : Data → A) (vs : List Value) → map f (map view vs) ≡ map (λ v. f (view v)) vs
map_viewed f [] = refl
map_viewed f (v ∷ vs) = ap (λ xs. f (view v) ∷ xs) (map_viewed f vs)
