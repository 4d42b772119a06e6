-- The sites of a move as they turn, one after another, and what the labels that their values make
-- then cost.
use Rattle.std.proofs.Common.{◌≡◌, ◌≢◌, ℕ, suc, ◌+◌, ◌<◌, ◌≤◌, ◌==◌, Bool, true, false, cond, not, nat_lt, List, length, get_or, refl, sym, ap, ◌∙◌, inl, inr, add-one, arith, ℤ, pos, ◌+ℤ◌, ◌-ℤ◌}
use Rattle.std.specs.Prelude.{◌||◌}
use Rattle.std.proofs.lemmas.Int.{ints}
use Rattle.std.proofs.lemmas.Bool.{cases_eq, cases_lt, cases_Bool}
use Rattle.std.proofs.lemmas.Bool.Decides.{nat_tests}
use Rattle.std.proofs.lemmas.List.{get_or_default, get_or_past}
use Rattle.sums.specs.Sums.{count_if}
use Rattle.sums.proofs.SumLemmas.{sum_below-le-longer}
use Rattle.label_energies.specs.declared.change.Move.{Move}
use Rattle.label_energies.specs.declared.change.Move.TheVariants.{Expand, Swap}
use Rattle.label_energies.specs.Energies.{Instance, labelling, plain_energy}
use Rattle.label_energies.specs.Moves.{label_after, labelling_made}
use Rattle.label_energies.proofs.Energy.{plain-same}
use Rattle.move_energy.specs.declared.by_site.Neighbours.{Neighbours}
use Rattle.move_energy.specs.declared.choice.Choice.{Choice}
use Rattle.move_energy.specs.Assignments.{rise, set_bit, IsOver}
use Rattle.move_energy.specs.BySite.{IsListing, degree}
use Rattle.move_energy.specs.MoveValues.{move_value}
use Rattle.move_energy.proofs.Assignments.{set_at, set_other, set_same}
use Rattle.move_energy.proofs.Listings.{chosen_below, listing_length}
use Rattle.move_energy.proofs.Rising.{move_over}
use Rattle.site_forms.specs.declared.numbers.SiteForm.{SiteForm}
use Rattle.site_forms.specs.Fields.{ArePlaces}
use Rattle.site_forms.specs.Numbers.{label_by, IsFormOf}
use Rattle.site_forms.proofs.Entries.{label_within}
use Rattle.site_forms.proofs.Telling.{form_tells}
use Rattle.one_move.specs.Building.{site_values, moves_site, HasChanges}
use Rattle.one_move.specs.Turning.{turns_label, turned_below, TellsOver, energy_rise}
use Rattle.one_move.proofs.Changes.{site_has}

-- ---- the value by which a site keeps its label

test_true : (a b : ℕ) → a ≡ b → (a == b) ≡ true
test_true a b h = grind (arith, nat_tests, h)

test_false : (a b : ℕ) → a ≢ b → (a == b) ≡ false
test_false a b h = grind (arith, nat_tests, h)

same_of : (a b : ℕ) → (a == b) ≡ true → a ≡ b
same_of a b h = grind (arith, nat_tests, h)

below : (p u : ℕ) → p < u → nat_lt p u ≡ true
below p u l = grind (arith, nat_tests, l)

past : (p u : ℕ) → u ≤ p → nat_lt p u ≡ false
past p u l = grind (arith, nat_tests, l)

swap_back : (p q : Bool) (a b old : ℕ) (bit : Bool) → (p ≡ true → old ≡ a) → (q ≡ true → old ≡ b) → cond (p || q) (cond bit b a) old ≢ old
    → cond (p || q) (cond (not bit) b a) old ≡ old
swap_back true q a b old true one two other = sym (one refl)
swap_back true true a b old false one two other = sym (two refl)
swap_back true false a b old false one two other = absurd (other (sym (one refl)))
swap_back false true a b old true one two other = absurd (other (sym (two refl)))
swap_back false true a b old false one two other = sym (two refl)
swap_back false false a b old bit one two other = absurd (other refl)

turned_back : (move : Move) (old : ℕ) (bit : Bool) → label_after move old bit ≢ old → label_after move old (not bit) ≡ old
turned_back (Expand a) old true other = refl
turned_back (Expand a) old false other = absurd (other refl)
turned_back (Swap a b) old bit other = swap_back (old == a) (old == b) a b old bit (same_of old a) (same_of old b) other

keeps_label : (move : Move) (old : ℕ) (bit : Bool) → label_after move old (cond (not (label_after move old bit == old)) (not bit) bit) ≡ old
keeps_label move old bit = elim (cases_eq (label_after move old bit) old) [
  | inl same ↦ ap (λ t. label_after move old (cond (not t) (not bit) bit)) (test_true (label_after move old bit) old same) ∙ same
  | inr other ↦ ap (λ t. label_after move old (cond (not t) (not bit) bit)) (test_false (label_after move old bit) old other) ∙ turned_back move old bit other
]

-- ---- what the form says of labels

label_read : (m : Instance) (move : Move) (form : SiteForm) (old : ℕ) (bit : Bool) → IsFormOf m move form → old < m.labels → label_by form old bit ≡ label_after move old bit
label_read m move form old true is l = (is.read.after old l).1
label_read m move form old false is l = (is.read.after old l).0

turns_is : (m : Instance) (move : Move) (form : SiteForm) (choices : List Choice) (p : ℕ) → IsFormOf m move form → p < length form.at.now
    → turns_label form choices p ≡ moves_site move (labelling form.at.now) choices p
turns_is m move form choices p is l =
    ap (λ label. not (label == labelling form.at.now p))
    (label_read m move form (labelling form.at.now p) (site_values choices p) is (label_within form.at.now p m.labels l is.read.labels))

-- ---- the values, once some sites have turned

value_turned : (form : SiteForm) (choices : List Choice) (u p : ℕ) → p < u → turned_below form choices u p ≡ site_values choices p
value_turned form choices u p l =
    ap (λ t. cond t (site_values choices p) (cond (turns_label form choices p) (not (site_values choices p)) (site_values choices p))) (below p u l)

value_kept : (form : SiteForm) (choices : List Choice) (u p : ℕ) → u ≤ p
    → turned_below form choices u p ≡ cond (turns_label form choices p) (not (site_values choices p)) (site_values choices p)
value_kept form choices u p l =
    ap (λ t. cond t (site_values choices p) (cond (turns_label form choices p) (not (site_values choices p)) (site_values choices p))) (past p u l)

-- where no label changes between two sites
value_skipped : (form : SiteForm) (choices : List Choice) (s t p : ℕ) → s ≤ t → (s ≤ p → p < t → turns_label form choices p ≡ false)
    → turned_below form choices s p ≡ turned_below form choices t p
value_skipped form choices s t p l none = elim (cases_lt p s) [
  | inl before ↦ value_turned form choices s p before ∙ sym (value_turned form choices t p (omega (arith, before, l)))
  | inr from ↦ elim (cases_lt p t) [
    | inl to ↦
        value_kept form choices s p from ∙ ap (λ b. cond b (not (site_values choices p)) (site_values choices p)) (none from to)
        ∙ sym (value_turned form choices t p to)
    | inr after ↦ value_kept form choices s p from ∙ sym (value_kept form choices t p after)
  ]
]

pub none_turns : (form : SiteForm) (choices : List Choice) (E : (ℕ → Bool) → ℤ) (s t : ℕ) → IsOver (length form.at.now) E → s ≤ t
    → ((p : ℕ) → p < length form.at.now → s ≤ p → p < t → turns_label form choices p ≡ false) → E (turned_below form choices s) ≡ E (turned_below form choices t)
none_turns form choices E s t over l none =
    over (turned_below form choices s) (turned_below form choices t) (λ p inside. value_skipped form choices s t p l (none p inside))

-- the next site turns to its value
value_next : (form : SiteForm) (choices : List Choice) (u p : ℕ) → turned_below form choices (u + 1) p ≡ set_bit (turned_below form choices u) u (site_values choices u) p
value_next form choices u p = elim (cases_eq p u) [
  | inl same ↦
      value_turned form choices (u + 1) p (omega (arith, same)) ∙ ap (site_values choices) same
      ∙ sym (set_at (turned_below form choices u) u p (site_values choices u) same)
  | inr other ↦ elim (cases_lt p u) [
    | inl l ↦
        value_turned form choices (u + 1) p (omega (arith, l)) ∙ sym (value_turned form choices u p l)
        ∙ sym (set_other (turned_below form choices u) u p (site_values choices u) other)
    | inr l ↦
        value_kept form choices (u + 1) p (omega (arith, l, other)) ∙ sym (value_kept form choices u p l)
        ∙ sym (set_other (turned_below form choices u) u p (site_values choices u) other)
  ]
]

value_before : (form : SiteForm) (choices : List Choice) (u : ℕ) → turns_label form choices u ≡ true → turned_below form choices u u ≡ not (site_values choices u)
value_before form choices u turning =
    value_kept form choices u u (omega arith) ∙ ap (λ b. cond b (not (site_values choices u)) (site_values choices u)) turning

rises_up : (a b r x y : ℤ) → r ≡ x -ℤ y → a ≡ x → b ≡ y → r ≡ a -ℤ b
rises_up a b r x y is one two = omega (arith, ints, is, one, two)

falls_down : (a b r s x y : ℤ) → s ≡ pos 0 -ℤ r → r ≡ x -ℤ y → a ≡ y → b ≡ x → s ≡ a -ℤ b
falls_down a b r s x y neg is one two = omega (arith, ints, neg, is, one, two)

pub turns_up : (form : SiteForm) (choices : List Choice) (E : (ℕ → Bool) → ℤ) (u : ℕ) (r : ℤ) → IsOver (length form.at.now) E → turns_label form choices u ≡ true
    → site_values choices u ≡ true → r ≡ rise E u (turned_below form choices u) → r ≡ E (turned_below form choices (u + 1)) -ℤ E (turned_below form choices u)
turns_up form choices E u r over turning up is =
    let V = turned_below form choices in
    let next = over (V (u + 1)) (set_bit (V u) u true) (λ p l. value_next form choices u p ∙ ap (λ b. set_bit (V u) u b p) up) in
    let here = over (V u) (set_bit (V u) u false) (λ p l. sym (set_same (V u) u false (value_before form choices u turning ∙ ap not up) p)) in
    rises_up (E (V (u + 1))) (E (V u)) r (E (set_bit (V u) u true)) (E (set_bit (V u) u false)) is next here

pub turns_down : (form : SiteForm) (choices : List Choice) (E : (ℕ → Bool) → ℤ) (u : ℕ) (r s : ℤ) → IsOver (length form.at.now) E → turns_label form choices u ≡ true
    → site_values choices u ≡ false → r ≡ rise E u (turned_below form choices u) → s ≡ pos 0 -ℤ r
    → s ≡ E (turned_below form choices (u + 1)) -ℤ E (turned_below form choices u)
turns_down form choices E u r s over turning down is neg =
    let V = turned_below form choices in
    let next = over (V (u + 1)) (set_bit (V u) u false) (λ p l. value_next form choices u p ∙ ap (λ b. set_bit (V u) u b p) down) in
    let here = over (V u) (set_bit (V u) u true) (λ p l. sym (set_same (V u) u true (value_before form choices u turning ∙ ap not down) p)) in
    falls_down (E (V (u + 1))) (E (V u)) r s (E (set_bit (V u) u true)) (E (set_bit (V u) u false)) neg is next here

zero_gap : (a b : ℤ) → a ≡ b → pos 0 ≡ b -ℤ a
zero_gap a b same = omega (arith, ints, same)

here_alone : (u p : ℕ) → u ≤ p → p < u + 1 → p ≡ u
here_alone u p from to = omega (arith, from, to)

pub turns_not : (form : SiteForm) (choices : List Choice) (E : (ℕ → Bool) → ℤ) (u : ℕ) → IsOver (length form.at.now) E → turns_label form choices u ≡ false
    → pos 0 ≡ E (turned_below form choices (u + 1)) -ℤ E (turned_below form choices u)
turns_not form choices E u over still =
    zero_gap (E (turned_below form choices u)) (E (turned_below form choices (u + 1)))
    (none_turns form choices E u (u + 1) over (omega arith) (λ p inside from to. ap (turns_label form choices) (here_alone u p from to) ∙ still))

-- ---- all sites

pub none_yet : (z : ℤ) → pos 0 ≡ z -ℤ z
none_yet z = omega (arith, ints)

pub nothing_turned : (form : SiteForm) (choices : List Choice) → TellsOver form (λ E. pos 0 ≡ E (turned_below form choices 0) -ℤ E (turned_below form choices 0))
nothing_turned form choices E told over = none_yet (E (turned_below form choices 0))

pub one_more : (z r a b c s : ℤ) → s ≡ z +ℤ r → z ≡ a -ℤ c → r ≡ b -ℤ a → s ≡ b -ℤ c
one_more z r a b c s sum h k = omega (arith, ints, sum, h, k)

value_first : (m : Instance) (move : Move) (form : SiteForm) (choices : List Choice) → IsFormOf m move form
    → move_value m move (labelling form.at.now) (turned_below form choices 0) ≡ pos (plain_energy m (labelling form.at.now))
value_first m move form choices is =
    let f = labelling form.at.now in
    ap pos (plain-same m (labelling_made move f (turned_below form choices 0)) f is.instance (λ p l.
    let inside : p < length form.at.now = omega (arith, l, is.read.sites) in
    ap (label_after move (f p)) (value_kept form choices 0 p (omega arith) ∙ ap (λ b. cond b (not (site_values choices p)) (site_values choices p)) (turns_is m move form choices p is inside))
    ∙ keeps_label move (f p) (site_values choices p)))

pub form_over : (m : Instance) (move : Move) (form : SiteForm) → IsFormOf m move form → IsOver (length form.at.now) (move_value m move (labelling form.at.now))
form_over m move form is x y same = move_over m move (labelling form.at.now) is.instance x y (λ p l. same p (omega (arith, l, is.read.sites)))

by_both : (z a b c d : ℤ) → z ≡ a -ℤ b → a ≡ c → b ≡ d → z ≡ c -ℤ d
by_both z a b c d is one two = omega (arith, ints, is, one, two)

-- so all sites tell what the labels cost more
pub all_turned : (m : Instance) (move : Move) (form : SiteForm) (choices : List Choice) (s : ℕ) (z : ℤ) → IsFormOf m move form → length form.at.now ≤ s
    → z ≡ move_value m move (labelling form.at.now) (turned_below form choices s) -ℤ move_value m move (labelling form.at.now) (turned_below form choices 0)
    → z ≡ energy_rise m move (labelling form.at.now) choices
all_turned m move form choices s z is all told =
    let E = move_value m move (labelling form.at.now) in
    by_both z (E (turned_below form choices s)) (E (turned_below form choices 0)) _ _ told
    (form_over m move form is (turned_below form choices s) (site_values choices) (λ p l. value_turned form choices s p (omega (arith, l, all))))
    (value_first m move form choices is)

pub told_rise : (form : SiteForm) (choices : List Choice) (s : ℕ) (z : ℤ) → length form.at.now ≤ s
    → TellsOver form (λ E. z ≡ E (turned_below form choices s) -ℤ E (turned_below form choices 0)) → (m : Instance) (move : Move) → IsFormOf m move form
    → z ≡ energy_rise m move (labelling form.at.now) choices
told_rise form choices s z all told m move is =
    all_turned m move form choices s z is all (told (move_value m move (labelling form.at.now)) (form_tells form m move is) (form_over m move form is))

-- ---- the listed sites

chosen_between : (chosen : ℕ → Bool) (s t p : ℕ) → chosen_below chosen s ≡ chosen_below chosen t → s ≤ p → p < t → chosen p ≡ false
chosen_between chosen s t p same from to = elim (cases_Bool (chosen p)) [
  | inl so ↦ absurd (
      let up = sum_below-le-longer s p (λ q. count_if (chosen q) 1) from in
      let on = sum_below-le-longer (suc p) t (λ q. count_if (chosen q) 1) (omega (arith, to)) in
      let here : count_if (chosen p) 1 ≡ 1 = ap (λ b. count_if b 1) so in
      omega (arith, same, up, on, here)
      )
  | inr none ↦ none
]

-- the next listed site, and past the last one the number of sites
pub site_next : (chosen : ℕ → Bool) (n : ℕ) (sites : List ℕ) (i : ℕ) → IsListing chosen n sites → i ≤ length sites
    → (chosen_below chosen (get_or sites i n) ≡ i) × (get_or sites i n ≤ n)
site_next chosen n sites i listed l = elim (cases_lt i (length sites)) [
  | inl inside ↦
      let has = site_has chosen n sites i listed inside in
      let same = get_or_default sites i n 0 inside in
      (ap (chosen_below chosen) same ∙ has.2, omega (arith, same, has.0))
  | inr past_last ↦
      let end = get_or_past sites i n past_last in
      let count = ap (λ (xs : List ℕ). length xs) listed ∙ listing_length chosen n in
      (ap (chosen_below chosen) end ∙ sym count ∙ omega (arith, l, past_last), omega (arith, end))
]

-- the site after a listed one
pub site_after : (chosen : ℕ → Bool) (n : ℕ) (sites : List ℕ) (i : ℕ) → IsListing chosen n sites → i < length sites
    → (chosen_below chosen (get_or sites i 0 + 1) ≡ i + 1) × (get_or sites i 0 + 1 ≤ get_or sites (i + 1) n)
site_after chosen n sites i listed l =
    let site = get_or sites i 0 in
    let has = site_has chosen n sites i listed l in
    let next = site_next chosen n sites (i + 1) listed (omega (arith, l)) in
    let here : count_if (chosen site) 1 ≡ 1 = ap (λ b. count_if b 1) has.1 in
    let more = ap (chosen_below chosen) (add-one site) in (
      omega (arith, more, here, has.2),
      elim (cases_lt site (get_or sites (i + 1) n)) [
        | inl less ↦ omega (arith, less)
        | inr not_less ↦ absurd (let low = sum_below-le-longer (get_or sites (i + 1) n) site (λ q. count_if (chosen q) 1) not_less in omega (arith, low, next.0, has.2))
      ],
    )

-- between listed sites no label changes
pub changes_between : (m : Instance) (move : Move) (form : SiteForm) (choices : List Choice) (sites : List ℕ) (s t : ℕ) → IsFormOf m move form
    → (changes : HasChanges move form.at.now choices sites) → chosen_below changes.chosen s ≡ chosen_below changes.chosen t → s ≤ t
    → move_value m move (labelling form.at.now) (turned_below form choices s) ≡ move_value m move (labelling form.at.now) (turned_below form choices t)
changes_between m move form choices sites s t is changes same l =
    none_turns form choices (move_value m move (labelling form.at.now)) s t (form_over m move form is) l (λ p inside from to. elim (cases_Bool (turns_label form choices p)) [
      | inl so ↦ absurd (
          let chosen = changes.each p inside (sym (turns_is m move form choices p is inside) ∙ so) in
          let not_chosen = chosen_between changes.chosen s t p same from to in
          cc (chosen, not_chosen)
          )
      | inr none ↦ none
    ])

-- ---- as the machine counts them

pub few_beside : (ends : Neighbours) (site n : ℕ) → ArePlaces n ends → site < n → degree ends site ≤ 8388608
few_beside ends site n are l = (let within = are.within (site + 1) (omega (arith, l)) in omega (arith, within, are.few_places))
