-- The places of a site, and the machine's numbers there.
use Rattle.std.proofs.Common.{◌≡◌, ◌≢◌, ℕ, zero, suc, ◌∙◌, sym, ap, get_or, ◌+◌, ◌-◌, ◌*◌, ◌<◌, ◌≤◌, Bool, true, false, arith, length, ℤ, pos, ◌*ℤ◌, ◌-ℤ◌, unsigned_abs, w32, to_z, of_z, inl, inr, add-one}
use Rattle.std.proofs.lemmas.Bool.{cases_eq}
use Rattle.std.proofs.lemmas.Int.{ints}
use Rattle.std.proofs.lemmas.List.{get_or_default}
use Rattle.std.proofs.Math.IntN.{zero-*ℤ, pred_ℤ-*ℤ}
use Rattle.move_energy.specs.declared.by_site.Neighbours.{Neighbours}
use Rattle.move_energy.specs.BySite.{neighbours_start, neighbour_at, pair_from}
use Rattle.move_energy.specs.Ends.{AvoidsSite}
use Rattle.site_forms.specs.Fields.{ArePlaces}
use Rattle.site_forms.specs.declared.numbers.SiteForm.{SiteForm}
use Rattle.site_forms.specs.Numbers.{IsSitePlace}

pub few_places : (form : SiteForm) (u place : ℕ) → ArePlaces (length form.at.now) form.ends.now → u < length form.at.now
    → neighbours_start form.ends.now u ≤ place → place < neighbours_start form.ends.now (u + 1) → place - neighbours_start form.ends.now u ≤ 8388608
few_places form u place are inside from to = (let within = are.within (u + 1) (omega (arith, inside)) in let few = are.few_places in omega (arith, within, few, from, to))

-- the places of a later site begin no earlier
pub starts_up : (n : ℕ) (ends : Neighbours) (s t : ℕ) → ArePlaces n ends → s ≤ t → t ≤ n → neighbours_start ends s ≤ neighbours_start ends t
starts_up n ends s zero are l h = (let e : s ≡ zero = omega (arith, l) in let r = ap (neighbours_start ends) e in omega (arith, r))
starts_up n ends s (suc t) are l h = elim (cases_eq s (suc t)) [
  | inl same ↦ (let r = ap (neighbours_start ends) same in omega (arith, r))
  | inr other ↦
      let up = starts_up n ends s t are (omega (arith, l, other)) (omega (arith, h)) in
      let one = are.rising t (omega (arith, h)) in
      let e = ap (neighbours_start ends) (add-one t) in
      omega (arith, up, one, e)
]

-- a product of a difference
scaled_step : (w a b : ℕ) (y z : ℤ) → y ≡ pos (w * a) -ℤ pos (w * b) → y ≡ z -ℤ (pos a -ℤ pos b) → suc w * a ≡ w * a + a → suc w * b ≡ w * b + b → z ≡ pos (suc w * a) -ℤ pos (suc w * b)
scaled_step w a b y z h k e f = omega (arith, ints, h, k, e, f)

suc_times : (w a : ℕ) → suc w * a ≡ w * a + a
suc_times w a = grind (arith)

none_times : (a b : ℕ) → pos 0 ≡ pos (zero * a) -ℤ pos (zero * b)
none_times a b = (let e : zero * a ≡ 0 = grind (arith) in let f : zero * b ≡ 0 = grind (arith) in omega (arith, ints, e, f))

pub scaled : (w a b : ℕ) → pos w *ℤ (pos a -ℤ pos b) ≡ pos (w * a) -ℤ pos (w * b)
scaled zero a b = zero-*ℤ (pos a -ℤ pos b) ∙ none_times a b
scaled (suc w) a b = scaled_step w a b _ _ (scaled w a b) (pred_ℤ-*ℤ (pos (suc w)) (pos a -ℤ pos b)) (suc_times w a) (suc_times w b)

-- a rise of weight 1, times the weight
pub times_is : (w v a b : ℕ) (z r : ℤ) → w ≡ v → z ≡ pos a -ℤ pos b → a ≤ 10000 → b ≤ 10000 → r ≡ pos w *ℤ to_z w32 (of_z w32 z) → unsigned_abs r ≤ 10000000
    → (to_z w32 (of_z w32 r) ≡ pos (v * a) -ℤ pos (v * b)) × (unsigned_abs (to_z w32 (of_z w32 r)) ≤ 10000000)
times_is w v a b z r same rise al bl product small =
    let passed : to_z w32 (of_z w32 r) ≡ r = omega (arith, ints, small) in
    let unit : to_z w32 (of_z w32 z) ≡ pos a -ℤ pos b = omega (arith, ints, rise, al, bl) in
    let e = ap unsigned_abs passed in
    (passed ∙ product ∙ (λ i. pos (same i) *ℤ unit i) ∙ scaled v a b, omega (arith, e, small))

-- a neighbour, as it is read
pub head_read : (form : SiteForm) (site place head : ℕ) → IsSitePlace form site place → head ≡ get_or form.ends.now.heads.items place head → neighbour_at form.ends.now place ≡ head
head_read form site place head at is =
    let places = form.form.places in
    let within = places.within (site + 1) (omega (arith, at.inside)) in
    sym (is ∙ get_or_default form.ends.now.heads.items place head 0 (omega (arith, within, at.to)))

-- the pair of a site and another
pub pair_avoids : (first : Bool) (site head weight u : ℕ) → head ≢ u → u < site → AvoidsSite u (pair_from first site head weight)
pair_avoids true site head weight u apart below = (λ same. absurd (omega (arith, same, below)), apart)
pair_avoids false site head weight u apart below = (apart, λ same. absurd (omega (arith, same, below)))
