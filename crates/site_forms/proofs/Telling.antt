-- What was read for a move tells the rises of its energies.
use Rattle.std.proofs.Common.{◌≡◌, ℕ, ◌+◌, ◌*◌, ◌<◌, Bool, true, false, cond, ℤ, pos, ◌+ℤ◌, ◌-ℤ◌, refl, sym, ap, ◌∙◌, inl, inr, arith}
use Rattle.std.proofs.lemmas.Bool.{cases_Bool}
use Rattle.std.proofs.lemmas.Int.{ints}
use Rattle.sums.proofs.IntegerSumLemmas.{int_sum_below-same}
use Rattle.label_energies.specs.declared.change.Move.{Move}
use Rattle.label_energies.specs.Energies.{Instance, labelling}
use Rattle.label_energies.specs.Moves.{label_after}
use Rattle.move_energy.specs.BySite.{neighbours_start, neighbour_at, is_first, weight_at, degree}
use Rattle.move_energy.specs.MoveValues.{move_value}
use Rattle.move_energy.specs.Rising.{label_rise, AreRises}
use Rattle.move_energy.specs.Ends.{end_rise}
use Rattle.site_forms.specs.Forms.{place_rise, TellsRises}
use Rattle.site_forms.specs.MoveForms.{move_form, end_rise_at}
use Rattle.site_forms.proofs.Moving as moving
use Rattle.site_forms.specs.Fields.{table_cost, rises_in, AreReadOf, AreCostsRead, AreRisesOf, IsSiteLabel, IsMadeLabel}
use Rattle.site_forms.specs.declared.numbers.SiteForm.{SiteForm}
use Rattle.move_energy.specs.BySite.{pair_from, pair_beside}
use Rattle.move_energy.specs.declared.rises.EndRises.{EndRises}
use Rattle.move_energy.specs.Weights.{surplus_of, pair_table}
use Rattle.label_energies.specs.Moves.{pair_entry}
use Rattle.site_forms.specs.Numbers.{form_of, label_by, end_rise_by, rise_by_labels, listed_rise, rise_at_place, IsFormOf, IsSitePlace, AreRisesAt}
use Rattle.site_forms.proofs.Entries.{site_label_within}

-- the costs of the table are those of the problem
told_is : (m : Instance) (move : Move) (form : SiteForm) (first : Bool) (w s t o : ℕ) → AreCostsRead m move form.at.now form.smooth.now
    → IsMadeLabel move form.at.now s → IsMadeLabel move form.at.now t → IsMadeLabel move form.at.now o
    → pos (w * table_cost form.smooth.now first t o) -ℤ pos (w * table_cost form.smooth.now first s o) ≡ end_rise m w first s t o
told_is m move form true w s t o is sl tl ol = (λ i. pos (is t o w tl ol i) -ℤ pos (is s o w sl ol i))
told_is m move form false w s t o is sl tl ol = (λ i. pos (is o t w ol tl i) -ℤ pos (is o s w ol sl i))

label_is : (m : Instance) (move : Move) (form : SiteForm) (old : ℕ) (b : Bool) → AreReadOf m move form.own.now form.at.now form.stays.now form.turns.now → old < m.labels → label_by form old b ≡ label_after move old b
label_is m move form old true is l = (is.after old l).1
label_is m move form old false is l = (is.after old l).0

-- so are the rises of the ends of a pair
pub labels_rise : (m : Instance) (move : Move) (form : SiteForm) (w : ℕ) (first : Bool) (own other : ℕ) (b : Bool) → AreReadOf m move form.own.now form.at.now form.stays.now form.turns.now → AreCostsRead m move form.at.now form.smooth.now
    → IsSiteLabel form.at.now own → IsSiteLabel form.at.now other
    → end_rise_by form w first own other b ≡ label_rise m move w first own other b
labels_rise m move form w first own other b is costs own_is other_is =
    let ol = site_label_within form.at.now m.labels own is.labels own_is in
    let hl = site_label_within form.at.now m.labels other is.labels other_is in
    (λ i. pos (w * table_cost form.smooth.now first (label_is m move form own true is ol i) (label_is m move form other b is hl i))
    -ℤ pos (w * table_cost form.smooth.now first (label_is m move form own false is ol i) (label_is m move form other b is hl i)))
    ∙ told_is m move form first w (label_after move own false) (label_after move own true) (label_after move other b) costs
    (own, false, own_is, refl) (own, true, own_is, refl) (other, b, other_is, refl)

-- and what stands at a place
listed_is : (form : SiteForm) (b : Bool) (u place : ℕ) → form.listed ≡ true → rise_at_place form b u place ≡ listed_rise form b place
listed_is form b u place is = ap (λ l. cond l (listed_rise form b place) (rise_by_labels form b u place)) is

labels_are : (form : SiteForm) (b : Bool) (u place : ℕ) → form.listed ≡ false → rise_at_place form b u place ≡ rise_by_labels form b u place
labels_are form b u place is = ap (λ l. cond l (listed_rise form b place) (rise_by_labels form b u place)) is

listed_rise_is : (m : Instance) (move : Move) (form : SiteForm) (b : Bool) (u place : ℕ) → AreRisesOf m move form.ends.now form.at.now u place (rises_in form.rises.now place)
    → listed_rise form b place ≡ end_rise_at m move (labelling form.at.now) form.ends.now b u place
listed_rise_is m move form true u place are = are.1
listed_rise_is m move form false u place are = are.0

pub rise_same : (m : Instance) (move : Move) (form : SiteForm) (b : Bool) (u place : ℕ) → IsFormOf m move form → IsSitePlace form u place
    → rise_at_place form b u place ≡ end_rise_at m move (labelling form.at.now) form.ends.now b u place
rise_same m move form b u place is at = elim (cases_Bool form.listed) [
  | inl listed ↦ listed_is form b u place listed ∙ listed_rise_is m move form b u place (is.rises listed u place at.inside at.from at.to)
  | inr told ↦
      labels_are form b u place told
      ∙ labels_rise m move form (weight_at form.ends.now place) (is_first form.ends.now u place) (labelling form.at.now u) (labelling form.at.now (neighbour_at form.ends.now place)) b is.read (is.costs told)
      (u, at.inside, refl) (neighbour_at form.ends.now place, form.form.places.inside u place at.inside at.from at.to, refl)
]

place_same : (m : Instance) (move : Move) (form : SiteForm) (x : ℕ → Bool) (u place : ℕ) → IsFormOf m move form → IsSitePlace form u place
    → place_rise (move_form m move (labelling form.at.now) form.ends.now) x u place ≡ place_rise (form_of form) x u place
place_same m move form x u place is at =
    sym (λ i. cond (x (neighbour_at form.ends.now place)) (rise_same m move form true u place is at i) (rise_same m move form false u place is at i))

pub form_tells : (form : SiteForm) (m : Instance) (move : Move) → IsFormOf m move form → TellsRises (form_of form) (move_value m move (labelling form.at.now))
form_tells form m move is u x l =
    let f = labelling form.at.now in
    let ends = form.ends.now in
    moving.form_tells m move f ends is.instance is.by_site u x (omega (arith, l, is.read.sites))
    ∙ (λ i. sym (is.read.own_are u l) i +ℤ int_sum_below-same (degree ends u) (λ k. place_rise (move_form m move f ends) x u (neighbours_start ends u + k)) (λ k. place_rise (form_of form) x u (neighbours_start ends u + k))
    (λ k b. place_same m move form x u (neighbours_start ends u + k) is (record { inside = l; from = omega arith; to = omega (arith, b) })) i)

-- ---- what the two ends of a pair save together, by the rises of one of them

by_first : (low high a b c d : ℤ) → low ≡ c -ℤ a → high ≡ d -ℤ b → low -ℤ high ≡ (b +ℤ c) -ℤ (a +ℤ d)
by_first low high a b c d l h = omega (arith, ints, l, h)

by_second : (low high a b c d : ℤ) → low ≡ b -ℤ a → high ≡ d -ℤ c → low -ℤ high ≡ (b +ℤ c) -ℤ (a +ℤ d)
by_second low high a b c d l h = omega (arith, ints, l, h)

rises_save : (m : Instance) (move : Move) (f : ℕ → ℕ) (u head w : ℕ) (first : Bool) (rises : EndRises) → AreRises m move w first (f u) (f head) rises
    → rises.low -ℤ rises.high ≡ surplus_of (pair_table m move f (pair_from first u head w))
rises_save m move f u head w true rises are =
    let pair = pair_from true u head w in
    by_first rises.low rises.high (pos (pair_entry m move f pair false false)) (pos (pair_entry m move f pair false true))
    (pos (pair_entry m move f pair true false)) (pos (pair_entry m move f pair true true)) are.0 are.1
rises_save m move f u head w false rises are =
    let pair = pair_from false u head w in
    by_second rises.low rises.high (pos (pair_entry m move f pair false false)) (pos (pair_entry m move f pair false true))
    (pos (pair_entry m move f pair true false)) (pos (pair_entry m move f pair true true)) are.0 are.1

pub told_saving : (m : Instance) (move : Move) (form : SiteForm) (u place : ℕ) (rises : EndRises) → IsFormOf m move form → IsSitePlace form u place → AreRisesAt form u place rises
    → rises.low -ℤ rises.high ≡ surplus_of (pair_table m move (labelling form.at.now) (pair_beside form.ends.now u place))
told_saving m move form u place rises is at are =
    let ends = form.ends.now in
    rises_save m move (labelling form.at.now) u (neighbour_at ends place) (weight_at ends place) (is_first ends u place) rises
    (are.low ∙ rise_same m move form false u place is at, are.high ∙ rise_same m move form true u place is at)
