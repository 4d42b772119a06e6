-- The table of rises by what is known, as it is read.
use Rattle.std.proofs.Common.{◌≡◌, ◌<◌, ◌≤◌, ℕ, Bool, true, false, cond, List, length, get_or, slice_index, ℤ, pos, ◌*ℤ◌, ◌-ℤ◌, unsigned_abs, w32, to_z, of_z, refl, sym, ap, subst, ◌∙◌, arith}
use Rattle.std.proofs.lemmas.Int.{ints}
use Rattle.std.proofs.lemmas.List.{get_or_default}
use Rattle.label_energies.specs.Energies.{labelling}
use Rattle.move_energy.specs.declared.choice.Choice.{Choice}
use Rattle.move_energy.specs.declared.choice.Choice.TheVariants.{Open, Zero}
use Rattle.move_energy.specs.BySite.{neighbour_at, is_first, weight_at}
use Rattle.move_energy.specs.Choices.{bit_of, choice_at}
use Rattle.move_energy.specs.Ends.{decided_or}
use Rattle.site_forms.specs.declared.by_known.ToldRises.{ToldRises}
use Rattle.site_forms.specs.declared.numbers.SiteForm.{SiteForm}
use Rattle.site_forms.specs.Forms.{place_rise}
use Rattle.site_forms.specs.Fields.{known_place, table_cost, told_in, weighed_rise, AreToldFor, AreToldRises, AreUniform, AreSymmetric}
use Rattle.site_forms.specs.Numbers.{form_of, end_rise_by, rise_at_place, listed_rise, rise_by_labels, IsSitePlace}
use Rattle.site_forms.proofs.Entries.{either_rise, small_cost}
use Rattle.site_forms.proofs.Places.{scaled as scaled_by}

first_or_second : (form : SiteForm) (weight own other : ℕ) (first bit : Bool) → AreSymmetric form.smooth.now
    → end_rise_by form weight true own other bit ≡ end_rise_by form weight first own other bit
first_or_second form weight own other true bit same = refl
first_or_second form weight own other false bit same = either_rise form weight own other bit same

of_bit : (b : Bool) (g : Bool → ℤ) → g b ≡ cond b (g true) (g false)
of_bit true g = refl
of_bit false g = refl

-- a rise of a pair, at a place of a site
pub weighed_at_place : (form : SiteForm) (bit : Bool) (u place : ℕ) (z : ℤ) → AreSymmetric form.smooth.now → form.listed ≡ false
    → z ≡ weighed_rise form.stays.now form.turns.now form.smooth.now (weight_at form.ends.now place) (labelling form.at.now u) (labelling form.at.now (neighbour_at form.ends.now place)) bit
    → z ≡ rise_at_place form bit u place
weighed_at_place form bit u place z mirrored weighted is =
    let ends = form.ends.now in
    is
    ∙ first_or_second form (weight_at ends place) (labelling form.at.now u) (labelling form.at.now (neighbour_at ends place)) (is_first ends u place) bit mirrored
    ∙ ap (λ listed. cond listed (listed_rise form bit place) (rise_by_labels form bit u place)) (sym weighted)

-- of the weight that all have
pub even_at_place : (form : SiteForm) (bit : Bool) (u place : ℕ) (z : ℤ) → AreSymmetric form.smooth.now → form.ends.now.even ≡ true → form.listed ≡ false
    → z ≡ weighed_rise form.stays.now form.turns.now form.smooth.now form.ends.now.weight (labelling form.at.now u) (labelling form.at.now (neighbour_at form.ends.now place)) bit
    → z ≡ rise_at_place form bit u place
even_at_place form bit u place z mirrored even weighted is =
    let ends = form.ends.now in
    let own = labelling form.at.now u in
    let other = labelling form.at.now (neighbour_at ends place) in
    weighed_at_place form bit u place z mirrored weighted
    (is ∙ ap (λ all. weighed_rise form.stays.now form.turns.now form.smooth.now (cond all ends.weight (slice_index ends.weights.items place)) own other bit) (sym even))

-- a number of the table
pub told_at_place : (form : SiteForm) (bit : Bool) (u place : ℕ) (z : ℤ)
    → AreUniform form.ends.now form.at.now form.stays.now form.turns.now form.smooth.now form.symmetric form.few form.listed form.told.now
    → z ≡ weighed_rise form.stays.now form.turns.now form.smooth.now form.ends.now.weight (labelling form.at.now u) (labelling form.at.now (neighbour_at form.ends.now place)) bit
    → z ≡ rise_at_place form bit u place
told_at_place form bit u place z uniform is =
    even_at_place form bit u place z (form.form.numbers.mirrored uniform.table.mirrored) uniform.even uniform.table.weighted is

known_rise_is : (form : SiteForm) (known : List Choice) (given : Bool) (u place : ℕ) (z : ℤ)
    → z ≡ rise_at_place form (bit_of (choice_at known (neighbour_at form.ends.now place)) given) u place → z ≡ place_rise (form_of form) (decided_or known given) u place
known_rise_is form known given u place z is =
    is ∙ of_bit (bit_of (choice_at known (neighbour_at form.ends.now place)) given) (λ b. rise_at_place form b u place)

pub told_rise_is : (form : SiteForm) (known : List Choice) (given : Bool) (u place : ℕ) (z : ℤ)
    → AreUniform form.ends.now form.at.now form.stays.now form.turns.now form.smooth.now form.symmetric form.few form.listed form.told.now
    → z ≡ weighed_rise form.stays.now form.turns.now form.smooth.now form.ends.now.weight (labelling form.at.now u) (labelling form.at.now (neighbour_at form.ends.now place))
    (bit_of (choice_at known (neighbour_at form.ends.now place)) given)
    → z ≡ place_rise (form_of form) (decided_or known given) u place
told_rise_is form known given u place z uniform is =
    known_rise_is form known given u place z (told_at_place form (bit_of (choice_at known (neighbour_at form.ends.now place)) given) u place z uniform is)

times_unit : (stays turns smooth : List ℕ) (w own other : ℕ) (bit : Bool) (z r : ℤ) → ((place : ℕ) → slice_index smooth place ≤ 10000) → z ≡ weighed_rise stays turns smooth 1 own other bit
    → r ≡ pos w *ℤ to_z w32 (of_z w32 z) → r ≡ weighed_rise stays turns smooth w own other bit
times_unit stays turns smooth w own other bit z r costs is product =
    let there = cond bit (slice_index turns other) (slice_index stays other) in
    let a = table_cost smooth true (slice_index turns own) there in
    let b = table_cost smooth true (slice_index stays own) there in
    let unit : to_z w32 (of_z w32 z) ≡ pos a -ℤ pos b = omega (arith, ints, is, small_cost smooth true (slice_index turns own) there costs, small_cost smooth true (slice_index stays own) there costs) in
    product ∙ ap (λ x. pos w *ℤ x) unit ∙ scaled_by w a b

-- a number of the table of a pair of weight 1, times the weight
pub scaled_rise_is : (form : SiteForm) (known : List Choice) (given : Bool) (u place weight : ℕ) (unit times z : ℤ) → form.scaled ≡ true → weight ≡ weight_at form.ends.now place
    → unit ≡ weighed_rise form.stays.now form.turns.now form.smooth.now 1 (labelling form.at.now u) (labelling form.at.now (neighbour_at form.ends.now place))
    (bit_of (choice_at known (neighbour_at form.ends.now place)) given)
    → times ≡ pos weight *ℤ to_z w32 (of_z w32 unit) → z ≡ times
    → z ≡ place_rise (form_of form) (decided_or known given) u place
scaled_rise_is form known given u place weight unit times z scaled at is product same =
    let own = labelling form.at.now u in
    let other = labelling form.at.now (neighbour_at form.ends.now place) in
    let bit = bit_of (choice_at known (neighbour_at form.ends.now place)) given in
    let table = (form.form.by_unit scaled).table in
    let rise = times_unit form.stays.now form.turns.now form.smooth.now weight own other bit unit times form.form.numbers.costs is product in
    known_rise_is form known given u place z (weighed_at_place form bit u place z (form.form.numbers.mirrored table.mirrored) table.weighted
    (same ∙ rise ∙ ap (λ w. weighed_rise form.stays.now form.turns.now form.smooth.now w own other bit) at))

pub unit_small : (stays turns smooth : List ℕ) (own other : ℕ) (bit : Bool) (z : ℤ) → ((place : ℕ) → slice_index smooth place ≤ 10000) → z ≡ weighed_rise stays turns smooth 1 own other bit
    → unsigned_abs (to_z w32 (of_z w32 z)) ≤ 10000
unit_small stays turns smooth own other bit z costs is =
    let there = cond bit (slice_index turns other) (slice_index stays other) in
    omega (arith, ints, is, small_cost smooth true (slice_index turns own) there costs, small_cost smooth true (slice_index stays own) there costs)

abbrev pub AreToldAt : SiteForm → ℕ → Choice → ℕ → ℕ → ToldRises → Type 0
AreToldAt form weight choice u place told =
    AreToldRises form.stays.now form.turns.now form.smooth.now weight (labelling form.at.now u) (labelling form.at.now (neighbour_at form.ends.now place)) choice told

pub told_where : (form : SiteForm) (weight : ℕ) (choice : Choice) (u place at : ℕ)
    → AreToldFor weight form.at.now form.stays.now form.turns.now form.smooth.now form.symmetric form.few form.listed form.told.now → IsSitePlace form u place
    → at ≡ known_place (labelling form.at.now u) (labelling form.at.now (neighbour_at form.ends.now place)) choice → AreToldAt form weight choice u place (told_in form.told.now at)
told_where form weight choice u place at table site stands =
    let there = neighbour_at form.ends.now place in
    let P : ℕ → Type 0 = λ p. AreToldAt form weight choice u place (told_in form.told.now p) in
    subst P (sym stands) (table.rises (labelling form.at.now u) (labelling form.at.now there) choice
    (u, site.inside, refl) (there, form.form.places.inside u place site.inside site.from site.to, refl))

-- what the table tells at a place of a site, by what is known of the neighbour there
pub told_there : (form : SiteForm) (weight : ℕ) (known : List Choice) (u place head at : ℕ) → length known ≡ length form.at.now
    → AreToldFor weight form.at.now form.stays.now form.turns.now form.smooth.now form.symmetric form.few form.listed form.told.now → IsSitePlace form u place → head ≡ neighbour_at form.ends.now place
    → at ≡ known_place (labelling form.at.now u) (labelling form.at.now head) (get_or known head Open)
    → AreToldAt form weight (choice_at known (neighbour_at form.ends.now place)) u place (told_in form.told.now at)
told_there form weight known u place head at sized table site is stands =
    let inside = form.form.places.inside u place site.inside site.from site.to in
    let here : head < length known = omega (arith, inside, is, sized) in
    let own = labelling form.at.now u in
    told_where form weight (choice_at known (neighbour_at form.ends.now place)) u place at table site
    (stands ∙ ap (λ (ch : Choice). known_place own (labelling form.at.now head) ch) (get_or_default known head Open Zero here)
    ∙ ap (λ h. known_place own (labelling form.at.now h) (choice_at known h)) is)
