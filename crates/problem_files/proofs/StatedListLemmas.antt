-- A list, a number or a name that a field gives is the one that stands there.
use Rattle.std.proofs.Common.{◌≡◌, ◌∙◌, ◌⊎◌, ℕ, suc, ◌<◌, ◌≤◌, ◌==◌, nat_le, Bool, true, false, not, ◌&&◌, List, [], ◌∷◌, length, get_or, map, ℤ, pos, negsuc, unsigned_abs, int_le, Option, Some, None, option_map, option_and_then, Result, Ok, Err, codes, if◌then◌else◌, inl, inr, refl, sym, ap, subst, arith}
use Rattle.std.specs.List.{position}
use Rattle.std.specs.Str.{bytes_eq}
use Rattle.toml.specs.Data.{Data, string, integer, float, boolean, datetime, array, table, Items, no_items, item, Members, as_array, as_integer, as_str, get_member}
use Rattle.problem_files.specs.LabelFieldNames.{and_then, out_of_range, unless}
use Rattle.problem_files.specs.ListFields.{integers_or_fault, checked_items, integer_of, is_out_of_range, is_no_integer, list_from, list_of, natural_of}
use Rattle.problem_files.specs.NumberFields.{number_field, number_from, number_in, number_or, number_within}
use Rattle.problem_files.specs.Stated.{integers}
use Rattle.problem_files.specs.StatedLabels.{StatesNumber, StatesNumbers}
use Rattle.problem_files.specs.declared.label_fault.LabelKey.{LabelKey}
use Rattle.problem_files.specs.declared.label_fault.LabelFault.{LabelFault}
use Rattle.problem_files.specs.declared.label_fault.LabelFault.TheVariants.{BadElement, BadField}
use Rattle.problem_files.proofs.LimitLemmas.{if_ok, then_ok, unless_ok}
use Rattle.problem_files.proofs.Listed.{none_passes}

kind_back : (d : Data) → is_no_integer d ≡ false → d ≡ integer (integer_of d)
kind_back (integer z) e = refl
kind_back (string s) e = absurd (let never = e in cc)
kind_back (float x) e = absurd (let never = e in cc)
kind_back (boolean b) e = absurd (let never = e in cc)
kind_back (datetime t) e = absurd (let never = e in cc)
kind_back (array ds) e = absurd (let never = e in cc)
kind_back (table ms) e = absurd (let never = e in cc)

all_back : (ds : Items) → ((k : ℕ) (d : Data) → k < length (list_of ds) → is_no_integer (get_or (list_of ds) k d) ≡ false)
    → ds ≡ integers (map integer_of (list_of ds))
all_back no_items h = refl
all_back (item d ds) h =
    let here : d ≡ integer (integer_of d) = kind_back d (h 0 d (omega arith)) in
    let rest : ds ≡ integers (map integer_of (list_of ds)) = all_back ds (λ k e below. h (suc k) e (omega (arith, below))) in
    ap (λ e. item e ds) here ∙ ap (λ es. item (integer (integer_of d)) es) rest

number_back : (most : ℕ) (z : ℤ) → not (int_le (pos 0) z && int_le z (pos most)) ≡ false → z ≡ pos (unsigned_abs z)
number_back most (pos n) e = refl
number_back most (negsuc n) e = absurd (let never = e in cc)

numbers_back : (most : ℕ) (ds : List Data) → ((k : ℕ) (d : Data) → k < length ds → is_out_of_range most (get_or ds k d) ≡ false)
    → map integer_of ds ≡ map pos (map natural_of ds)
numbers_back most [] h = refl
numbers_back most (d ∷ ds) h =
    let here : integer_of d ≡ pos (unsigned_abs (integer_of d)) = number_back most (integer_of d) (h 0 d (omega arith)) in
    let rest : map integer_of ds ≡ map pos (map natural_of ds) = numbers_back most ds (λ k e below. h (suc k) e (omega (arith, below))) in
    ap (λ z. z ∷ map integer_of ds) here ∙ ap (λ zs. pos (natural_of d) ∷ zs) rest

-- the value is the list of these items, which are integers from 0 on
pub record IsList (d : Data) (es : List Data) : Type 0 where
  pub is : d ≡ array (integers (map integer_of es))
  pub numbers : StatesNumbers d (map natural_of es)

checked_back : (field : LabelKey) (count most : ℕ) (ds : Items) (es : List Data) → integers_or_fault field count most (list_of ds) ≡ Ok es → IsList (array ds) es
unfolding integers_or_fault
checked_back field count most ds es e =
    let xs = list_of ds in
    let counted = if_ok (length xs == count) (unless (position is_no_integer xs) (BadElement field) (unless (position (is_out_of_range most) xs) (out_of_range field) (Ok xs))) (BadField field) es e in
    let kinds = unless_ok (position is_no_integer xs) (BadElement field) (unless (position (is_out_of_range most) xs) (out_of_range field) (Ok xs)) es counted.1 in
    let ranges = unless_ok (position (is_out_of_range most) xs) (out_of_range field) (Ok xs) es kinds.1 in
    let same : list_of ds ≡ es = let is = ranges.1 in cc in
    let P : List Data → Type 0 = λ ys. IsList (array ds) ys in
    let whole : ds ≡ integers (map integer_of (list_of ds)) = all_back ds (none_passes is_no_integer (list_of ds) kinds.0) in
    let least : map integer_of (list_of ds) ≡ map pos (map natural_of (list_of ds)) = numbers_back most (list_of ds) (none_passes (is_out_of_range most) (list_of ds) ranges.0) in
    subst P same (record { is = ap array whole; numbers = ap array (whole ∙ ap integers least) })

-- a list that passes is the one that stands there
pub list_back : (field : LabelKey) (count most : ℕ) (d : Data) (es : List Data) → list_from field count most d ≡ Ok es → IsList d es
unfolding list_from
list_back field count most (array ds) es e = checked_back field count most ds es e
list_back field count most (string s) es e = absurd (let never = e in cc)
list_back field count most (integer z) es e = absurd (let never = e in cc)
list_back field count most (float x) es e = absurd (let never = e in cc)
list_back field count most (boolean b) es e = absurd (let never = e in cc)
list_back field count most (datetime t) es e = absurd (let never = e in cc)
list_back field count most (table ms) es e = absurd (let never = e in cc)

integer_back : (d : Data) (z : ℤ) → as_integer d ≡ Some z → d ≡ integer z
integer_back (integer y) z e = let is : y ≡ z = cc in ap integer is
integer_back (string s) z e = absurd (let never = e in cc)
integer_back (float x) z e = absurd (let never = e in cc)
integer_back (boolean b) z e = absurd (let never = e in cc)
integer_back (datetime t) z e = absurd (let never = e in cc)
integer_back (array ds) z e = absurd (let never = e in cc)
integer_back (table ms) z e = absurd (let never = e in cc)

within_back : (field : LabelKey) (least most : ℕ) (o : Option ℤ) (n : ℕ) → number_within field least most o ≡ Ok n → o ≡ Some (pos n)
within_back field least most None n e = absurd (let never = e in cc)
within_back field least most (Some (negsuc m)) n e = absurd (let never = e in cc)
within_back field least most (Some (pos m)) n e =
    let kept = if_ok (nat_le least m && nat_le m most) (Ok m) (BadField field) n e in
    let is : m ≡ n = let made = kept.1 in cc in
    ap (λ k. Some (pos k)) is

from_back : (field : LabelKey) (least most : ℕ) (d : Data) (n : ℕ) → number_from field least most d ≡ Ok n → d ≡ integer (pos n)
from_back field least most d n e = integer_back d (pos n) (within_back field least most (as_integer d) n e)

-- a number that has to be there is the one that stands there
pub needed_back : (fault : LabelFault) (field : LabelKey) (least most : ℕ) (o : Option Data) (n : ℕ) → number_field (Err fault) field least most o ≡ Ok n
    → o ≡ Some (integer (pos n))
needed_back fault field least most None n e = absurd (let never = e in cc)
needed_back fault field least most (Some d) n e = ap (λ x. Some x) (from_back field least most d n e)

-- and so is one that may be missing
pub number_stated : (field : LabelKey) (least most due : ℕ) (o : Option Data) (n : ℕ) → number_field (Ok due) field least most o ≡ Ok n → StatesNumber o due n
number_stated field least most due None n e = let is : due ≡ n = cc in sym is
number_stated field least most due (Some d) n e = from_back field least most d n e
