-- The pairs that a table names.
use Rattle.std.specs.Prelude.{ℕ, ◌+◌, ℤ, pos, negsuc, unsigned_abs, int_le, Bool, false, not, ◌&&◌}
use Rattle.std.specs.Prelude.{nat_le, nat_lt, List, [], ◌∷◌, length, Option, Some, None}
use Rattle.std.specs.Prelude.{option_and_then, option_map, Result, Ok, Err, if◌then◌else◌}
use Rattle.std.specs.Ordering.{int_eq}
use Rattle.toml.specs.Data.{Data, Members, as_array, get_member}
use Rattle.problem_files.specs.Problem.{integers_of}
use Rattle.label_field.specs.declared.pair.Pair.{Pair}
use Rattle.label_field.specs.Limits.{pair_limit, weight_limit}
use Rattle.problem_files.specs.LabelFieldNames.{and_then, field_name}
use Rattle.problem_files.specs.ListFields.{list_of}
use Rattle.problem_files.specs.declared.label_fault.LabelKey.TheVariants.{Pairs}
use Rattle.problem_files.specs.declared.label_fault.LabelFault.{LabelFault}
use Rattle.problem_files.specs.declared.label_fault.LabelFault.TheVariants.{BadField, BadElement}
use Rattle.problem_files.specs.declared.label_fault.LabelFault.TheVariants.{NoSuchSite, SamePair}
use Rattle.problem_files.specs.declared.label_fault.LabelFault.TheVariants.{TooManyPairs}
use Rattle.problem_files.specs.declared.label_fault.LabelFault.TheVariants.{WeightRange}

-- the integer is the number of one of n sites
abbrev pub is_site : ℕ → ℤ → Bool
is_site n (pos p) = nat_lt p n
is_site n (negsuc p) = false

abbrev pub is_weight : ℤ → Bool
is_weight w = int_le (pos 0) w && int_le w (pos weight_limit)

-- the pair at place i, over n sites, of two integers and a weight
unfoldable pub pair_with : ℕ → ℕ → ℤ → ℤ → ℤ → Result Pair LabelFault
pair_with n i p q w =
    if not (is_site n p && is_site n q) then Err (NoSuchSite i)
    else if int_eq p q then Err (SamePair i)
    else if not (is_weight w) then Err (WeightRange i)
    else Ok (record { first = unsigned_abs p; second = unsigned_abs q; weight = unsigned_abs w })

-- the pair of a list of integers: two sites, and the weight, which is 1 where it is left out
abbrev pub pair_field : ℕ → ℕ → Option (List ℤ) → Result Pair LabelFault
pair_field n i (Some (p ∷ q ∷ [])) = pair_with n i p q (pos 1)
pair_field n i (Some (p ∷ q ∷ w ∷ [])) = pair_with n i p q w
pair_field n i _ = Err (BadElement Pairs i)

-- the pair that the item at place i names
unfoldable pub pair_at : ℕ → ℕ → Data → Result Pair LabelFault
pair_at n i d = pair_field n i (option_and_then integers_of (as_array d))

-- the pairs that the items from place i on name
abbrev pub pairs_from : ℕ → ℕ → List Data → Result (List Pair) LabelFault
pairs_from n i [] = Ok []
pairs_from n i (d ∷ ds) =
    and_then (pair_at n i d)
    (λ pair. and_then (pairs_from n (i + 1) ds) (λ pairs. Ok (pair ∷ pairs)))

abbrev pub pairs_or_fault : ℕ → List Data → Result (List Pair) LabelFault
pairs_or_fault n ds = if nat_le (length ds) pair_limit then pairs_from n 0 ds else Err TooManyPairs

abbrev pub pairs_listed : ℕ → Option (List Data) → Result (List Pair) LabelFault
pairs_listed n None = Err (BadField Pairs)
pairs_listed n (Some ds) = pairs_or_fault n ds

abbrev pub pairs_field : ℕ → Option Data → Result (List Pair) LabelFault
pairs_field n None = Ok []
pairs_field n (Some d) = pairs_listed n (option_map list_of (as_array d))

unfoldable pub pairs_in : Members → ℕ → Result (List Pair) LabelFault
pairs_in ms n = pairs_field n (get_member (field_name Pairs) ms)
