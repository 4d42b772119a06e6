-- What the lists of a form hold, and where.
use Rattle.std.specs.Prelude.{not}
use Rattle.std.proofs.Common.{◌≡◌, ◌≢◌, ◌==◌, ℕ, ap, w32, to_z, of_z, ◌+◌, ◌*◌, ◌<◌, ◌≤◌, Bool, true, false, List, sym, ◌∙◌, All, length, slice_index, ℤ, pos, ◌-ℤ◌, unsigned_abs, arith}
use Rattle.std.proofs.lemmas.Int.{ints}
use Rattle.std.proofs.lemmas.List.Elements.{All-get_or}
use Rattle.move_energy.proofs.SiteSums.{test_false}
use Rattle.move_energy.specs.declared.rises.EndRises.{EndRises}
use Rattle.site_forms.specs.Fields.{table_cost, IsSiteLabel, AreSymmetric}
use Rattle.site_forms.specs.declared.numbers.SiteForm.{SiteForm}
use Rattle.site_forms.specs.Numbers.{label_by, end_rise_by, AreEndRises}

pub label_within : (at : List ℕ) (u k : ℕ) → u < length at → All (λ label. label < k) at → slice_index at u < k
label_within at u k l all = All-get_or (λ label. label < k) at u 0 l all

pub site_label_within : (at : List ℕ) (k label : ℕ) → All (λ label. label < k) at → IsSiteLabel at label → label < k
site_label_within at k label all is = (let l = label_within at is.0 k is.1 all in omega (arith, l, is.2))

pub few_label : (at : List ℕ) (label : ℕ) → ((u : ℕ) → u < length at → slice_index at u < 64) → IsSiteLabel at label → label < 64
few_label at label each is = (let l = each is.0 is.1 in omega (arith, l, is.2))

pub small_cost : (smooth : List ℕ) (first : Bool) (own other : ℕ) → ((place : ℕ) → slice_index smooth place ≤ 10000) → table_cost smooth first own other ≤ 10000
small_cost smooth true own other each = each (own * 256 + other)
small_cost smooth false own other each = each (other * 256 + own)

-- ---- costs that are the same in both orders

label_by_below : (form : SiteForm) (old : ℕ) (bit : Bool) → label_by form old bit < 256
label_by_below form old true = form.form.numbers.turns_below old
label_by_below form old false = form.form.numbers.stays_below old

pub either_rise : (form : SiteForm) (weight : ℕ) (own other : ℕ) (bit : Bool) → AreSymmetric form.smooth.now
    → end_rise_by form weight true own other bit ≡ end_rise_by form weight false own other bit
either_rise form weight own other bit same =
    let at = λ (b : Bool). same (label_by form own b) (label_by form other bit) (label_by_below form own b) (label_by_below form other bit) in
    (λ i. pos (weight * at true i) -ℤ pos (weight * at false i))

-- the rises of a first end are those of a second end
pub either_end : (form : SiteForm) (weight : ℕ) (first : Bool) (own other : ℕ) (rises : EndRises) → AreSymmetric form.smooth.now
    → AreEndRises form weight true own other rises → AreEndRises form weight first own other rises
either_end form weight true own other rises same are = are
either_end form weight false own other rises same are = record {
  low = are.low ∙ either_rise form weight own other false same;
  high = are.high ∙ either_rise form weight own other true same;
  low_small = are.low_small;
  high_small = are.high_small;
}

-- a const parameter, which stands for a flag
pub flagged : (n : ℕ) (b : Bool) → not (n == 0) ≡ b → n ≢ 0 → b ≡ true
flagged n b is some = sym is ∙ ap not (test_false n 0 some)

-- a difference of two costs, as it is passed on
pub unit_passed : (a b : ℕ) (z : ℤ) → z ≡ pos a -ℤ pos b → a ≤ 10000 → b ≤ 10000 → unsigned_abs (to_z w32 (of_z w32 z)) ≤ 10000
unit_passed a b z is l h = omega (arith, ints, is, l, h)
