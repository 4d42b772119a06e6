-- The costs that a table names are as many as they must be, and in their limits.
use Rattle.std.proofs.Common.{◌≡◌, ℕ, ◌*◌, ◌≤◌, ◌==◌, Bool, true, false, not, ◌&&◌, List, length, get_or, map, ℤ, pos, negsuc, unsigned_abs, int_le, ◌≤ℤ◌, All, Option, Some, None, Result, Ok, Err, if◌then◌else◌, refl, subst, arith}
use Rattle.std.specs.List.{position}
use Rattle.std.proofs.lemmas.Bool.Decides.{nat_tests}
use Rattle.std.proofs.lemmas.Int.{ints}
use Rattle.std.proofs.lemmas.List.{length-map}
use Rattle.std.proofs.lemmas.List.Elements.{All-map}
use Rattle.toml.specs.Data.{Data, string, integer, float, boolean, datetime, array, table, Items, Members, as_array, get_member}
use Rattle.problem_files.specs.LabelFieldNames.{and_then, field_name, out_of_range, unless}
use Rattle.problem_files.specs.LabelCostFields.{AreCostsOfLabels, label_costs_at, label_costs_from, label_costs_in}
use Rattle.problem_files.specs.ListFields.{integers_or_fault, checked_items, data_at, data_from, data_in, integer_of, is_out_of_range, is_no_integer, list_from, list_of, natural_of}
use Rattle.problem_files.specs.SmoothFields.{listed_from, smooth_at, smooth_from, smooth_in, table_named}
use Rattle.problem_files.specs.declared.label_fault.LabelKey.{LabelKey}
use Rattle.problem_files.specs.declared.label_fault.LabelKey.TheVariants as field
use Rattle.problem_files.specs.declared.label_fault.LabelFault.{LabelFault}
use Rattle.problem_files.specs.declared.label_fault.LabelFault.TheVariants.{BadElement, BadField}
use Rattle.problem_files.proofs.Listed.{none_passes}
use Rattle.run_options.proofs.Tables.{rows_kept, table_long}
use Rattle.run_options.specs.Limits.{IsLabelCost, IsSmoothCost, greatest_data_cost, greatest_label_cost, greatest_smooth_cost, trunc_limit}
use Rattle.run_options.specs.Names.{shape_named}
use Rattle.run_options.specs.Shapes.{shape_table}
use Rattle.run_options.specs.declared.shape.Shape.{Shape}
use Rattle.run_options.specs.declared.shape.Shape.TheVariants.{Potts}

pub unless_ok : {A : Type 0} (o : Option ℕ) (fault : ℕ → LabelFault) (r : Result A LabelFault) (x : A) → unless o fault r ≡ Ok x → (o ≡ None) × (r ≡ Ok x)
unless_ok None fault r x e = (refl, e)
unless_ok (Some i) fault r x e = absurd (let never = e in cc)

pub if_ok : {A : Type 0} (b : Bool) (r : Result A LabelFault) (f : LabelFault) (x : A) → (if b then r else Err f) ≡ Ok x → (b ≡ true) × (r ≡ Ok x)
if_ok true r f x e = (refl, e)
if_ok false r f x e = absurd (let never = e in cc)

pub then_ok : {A B : Type 0} (r : Result A LabelFault) (next : A → Result B LabelFault) (y : B) → and_then r next ≡ Ok y → (x : A) × (r ≡ Ok x) × (next x ≡ Ok y)
then_ok (Ok x) next y e = (x, refl, e)
then_ok (Err f) next y e = absurd (let never = e in cc)

-- a cost from 0 to the most
abbrev IsCost : ℕ → ℤ → Type 0
IsCost most z = (pos 0 ≤ℤ z) × (z ≤ℤ pos most)

in_limit : (most : ℕ) (z : ℤ) → not (int_le (pos 0) z && int_le z (pos most)) ≡ false → IsCost most z
in_limit most (pos n) e = (omega (arith, ints), grind (arith, ints, nat_tests))
in_limit most (negsuc n) e = absurd (let never = e in cc)

-- a list that passes is as long as it must be, and its integers are in their limits
record IsKept (count most : ℕ) (ds : List Data) : Type 0 where
  long : length ds ≡ count
  limit : All (λ d. IsCost most (integer_of d)) ds

checked_kept : (field : LabelKey) (count most : ℕ) (ds es : List Data) → integers_or_fault field count most ds ≡ Ok es → IsKept count most es
unfolding integers_or_fault
checked_kept field count most ds es e =
    let counted = if_ok (length ds == count) (unless (position is_no_integer ds) (BadElement field) (unless (position (is_out_of_range most) ds) (out_of_range field) (Ok ds))) (BadField field) es e in
    let kinds = unless_ok (position is_no_integer ds) (BadElement field) (unless (position (is_out_of_range most) ds) (out_of_range field) (Ok ds)) es counted.1 in
    let ranges = unless_ok (position (is_out_of_range most) ds) (out_of_range field) (Ok ds) es kinds.1 in
    let same : ds ≡ es = let is = ranges.1 in cc in
    let P : List Data → Type 0 = λ xs. IsKept count most xs in
    subst P same (record {
      long = grind (arith, nat_tests, counted.0);
      limit = λ k d below. in_limit most (integer_of (get_or ds k d)) (none_passes (is_out_of_range most) ds ranges.0 k d below);
    })

items_kept : (field : LabelKey) (count most : ℕ) (o : Option Items) (es : List Data) → checked_items field count most o ≡ Ok es → IsKept count most es
items_kept field count most None es e = absurd (let never = e in cc)
items_kept field count most (Some ds) es e = checked_kept field count most (list_of ds) es e

list_kept : (field : LabelKey) (count most : ℕ) (d : Data) (es : List Data) → list_from field count most d ≡ Ok es → IsKept count most es
unfolding list_from
list_kept field count most d es e = items_kept field count most (as_array d) es e

small : (most : ℕ) (z : ℤ) → IsCost most z → unsigned_abs z ≤ most
small most (pos n) h = omega (arith, ints, h.1)
small most (negsuc n) h = absurd (omega (arith, ints, h.0))

data_from_kept : (count : ℕ) (d : Data) (zs : List ℕ) → data_from count d ≡ Ok zs → (length zs ≡ count) × All (λ n. n ≤ greatest_data_cost) zs
unfolding data_from
data_from_kept count d zs e =
    let (ds, read, made) = then_ok (list_from field.Data count greatest_data_cost d) (λ ds. Ok (map natural_of ds)) zs e in
    let kept = list_kept field.Data count greatest_data_cost d ds read in
    let same : map natural_of ds ≡ zs = let is = made in cc in
    let P : List ℕ → Type 0 = λ xs. (length xs ≡ count) × All (λ n. n ≤ greatest_data_cost) xs in
    subst P same (simp length-map kept.long, All-map (λ n. n ≤ greatest_data_cost) natural_of ds (λ k d below. small greatest_data_cost (integer_of (get_or ds k d)) (kept.limit k d below)))

data_at_kept : (count : ℕ) (o : Option Data) (zs : List ℕ) → data_at count o ≡ Ok zs → (length zs ≡ count) × All (λ n. n ≤ greatest_data_cost) zs
data_at_kept count None zs e = absurd (let never = e in cc)
data_at_kept count (Some d) zs e = data_from_kept count d zs e

pub data_kept : (ms : Members) (count : ℕ) (zs : List ℕ) → data_in ms count ≡ Ok zs → (length zs ≡ count) × All (λ n. n ≤ greatest_data_cost) zs
unfolding data_in
data_kept ms count zs e = data_at_kept count (get_member (field_name field.Data) ms) zs e

-- a table of k labels, with its costs in their limits
abbrev IsTable : ℕ → List ℤ → Type 0
IsTable k costs = (length costs ≡ k * k) × All IsSmoothCost costs

named_kept : (k most : ℕ) (o : Option Shape) (f : ℕ → List ℤ) → most ≤ trunc_limit → table_named k o ≡ Ok f → IsTable k (f most)
named_kept k most None f few e = absurd (let never = e in cc)
named_kept k most (Some shape) f few e =
    let same : shape_table shape k ≡ f = let is = e in cc in
    let P : (ℕ → List ℤ) → Type 0 = λ g. IsTable k (g most) in
    subst P same (table_long shape k most, rows_kept shape k most few)

listed_kept : (k most : ℕ) (d : Data) (f : ℕ → List ℤ) → listed_from k d ≡ Ok f → IsTable k (f most)
unfolding listed_from
listed_kept k most d f e =
    let (ds, read, made) = then_ok (list_from field.Smooth (k * k) greatest_smooth_cost d) (λ ds. Ok (λ most. map integer_of ds)) f e in
    let kept = list_kept field.Smooth (k * k) greatest_smooth_cost d ds read in
    let g : ℕ → List ℤ = λ most. map integer_of ds in
    let same : g ≡ f = let is = made in cc in
    let P : (ℕ → List ℤ) → Type 0 = λ h. IsTable k (h most) in
    subst P same (simp length-map kept.long, All-map IsSmoothCost integer_of ds kept.limit)

from_kept : (k most : ℕ) (d : Data) (f : ℕ → List ℤ) → most ≤ trunc_limit → smooth_from k d ≡ Ok f → IsTable k (f most)
unfolding smooth_from
from_kept k most (string name) f few e = named_kept k most (shape_named name) f few e
from_kept k most (integer z) f few e = listed_kept k most (integer z) f e
from_kept k most (float x) f few e = listed_kept k most (float x) f e
from_kept k most (boolean b) f few e = listed_kept k most (boolean b) f e
from_kept k most (datetime t) f few e = listed_kept k most (datetime t) f e
from_kept k most (array ds) f few e = listed_kept k most (array ds) f e
from_kept k most (table ms) f few e = listed_kept k most (table ms) f e

at_kept : (k most : ℕ) (o : Option Data) (f : ℕ → List ℤ) → most ≤ trunc_limit → smooth_at k o ≡ Ok f → IsTable k (f most)
at_kept k most None f few e = named_kept k most (Some Potts) f few e
at_kept k most (Some d) f few e = from_kept k most d f few e

pub smooth_kept : (ms : Members) (k most : ℕ) (f : ℕ → List ℤ) → most ≤ trunc_limit → smooth_in ms k ≡ Ok f
    → (length (f most) ≡ k * k) × All IsSmoothCost (f most)
unfolding smooth_in
smooth_kept ms k most f few e = at_kept k most (get_member (field_name field.Smooth) ms) f few e

costs_from_kept : (k : ℕ) (d : Data) (costs : Option (List ℤ)) → label_costs_from k d ≡ Ok costs → AreCostsOfLabels k costs
unfolding label_costs_from
costs_from_kept k d costs e =
    let (ds, read, made) = then_ok (list_from field.LabelCosts k greatest_label_cost d) (λ ds. let r : Result (Option (List ℤ)) LabelFault = Ok (Some (map integer_of ds)) in r) costs e in
    let kept = list_kept field.LabelCosts k greatest_label_cost d ds read in
    let listed : Option (List ℤ) = Some (map integer_of ds) in
    let same : listed ≡ costs = let is = made in cc in
    let P : Option (List ℤ) → Type 0 = λ o. AreCostsOfLabels k o in
    subst P same (simp length-map kept.long, All-map IsLabelCost integer_of ds kept.limit)

costs_at_kept : (k : ℕ) (o : Option Data) (costs : Option (List ℤ)) → label_costs_at k o ≡ Ok costs → AreCostsOfLabels k costs
costs_at_kept k None costs e =
    let none : Option (List ℤ) = None in
    let same : none ≡ costs = let is = e in cc in
    let P : Option (List ℤ) → Type 0 = λ o. AreCostsOfLabels k o in
    subst P same tt
costs_at_kept k (Some d) costs e = costs_from_kept k d costs e

-- the costs of k labels that a table names are in their range
pub label_costs_kept : (ms : Members) (k : ℕ) (costs : Option (List ℤ)) → label_costs_in ms k ≡ Ok costs → AreCostsOfLabels k costs
unfolding label_costs_in
label_costs_kept ms k costs e = costs_at_kept k (get_member (field_name field.LabelCosts) ms) costs e
