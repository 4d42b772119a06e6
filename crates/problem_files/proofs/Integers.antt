-- An array of integers has as many as it has items.
use Rattle.std.proofs.Common.{◌≡◌, ℕ, ℤ, ◌<◌, List, [], ◌∷◌, length, Option, Some, None, option_map, option_and_then, refl, ap, sym, ◌∙◌, arith, suc}
use Rattle.std.proofs.lemmas.Bool.Decides.{nat_tests}
use Rattle.toml.specs.Data.{as_integer}
use Rattle.toml.specs.View.{items_view, view}
use Rattle.toml.specs.declared.value.Value.{Value}
use Rattle.problem_files.specs.Problem.{integers_of}
use Rattle.problem_files.specs.Within.{list_within}

both_read : (o : Option ℤ) (r : Option (List ℤ)) (zs : List ℤ) → option_and_then (λ z. option_map (λ t. z ∷ t) r) o ≡ Some zs
    → (z : ℤ) × (t : List ℤ) × (r ≡ Some t) × (zs ≡ z ∷ t)
both_read None r zs e = cc
both_read (Some z) None zs e = cc
both_read (Some z) (Some t) zs e = (z, t, refl, cc)

-- as many integers as items
one_each : (vs : List Value) (zs : List ℤ) → integers_of (items_view vs) ≡ Some zs → length zs ≡ length vs
one_each [] zs e = let same : zs ≡ [] = cc in ap length same
one_each (v ∷ vs) zs e =
    let (z, t, rest, is) = both_read (as_integer (view v)) (integers_of (items_view vs)) zs e in
    ap length is ∙ ap (λ n. suc n) (one_each vs t rest)

beyond : (o : Option (List ℤ)) (n m : ℕ) → n < m → ((zs : List ℤ) → o ≡ Some zs → length zs ≡ m) → option_and_then (list_within n) o ≡ None
beyond None n m h e = refl
beyond (Some zs) n m h e = let is : length zs ≡ m = e zs refl in grind (arith, nat_tests)

pub too_many : (vs : List Value) (n : ℕ) → n < length vs → None ≡ option_and_then (list_within n) (integers_of (items_view vs))
too_many vs n h = sym (beyond (integers_of (items_view vs)) n (length vs) h (one_each vs))
