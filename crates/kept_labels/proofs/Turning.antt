-- The sites of a label as they turn, one after another, once all others have.
use Rattle.std.proofs.Common.{◌≡◌, ◌≢◌, ℕ, ◌+◌, ◌*◌, ◌<◌, ◌≤◌, ◌==◌, Bool, true, false, not, nat_lt, List, length, get_or, set, sym, ap, ◌∙◌, inl, inr, arith, ℤ, pos, unsigned_abs, ◌+ℤ◌, ◌-ℤ◌, replicate}
use Rattle.std.specs.Prelude.{◌||◌}
use Rattle.std.proofs.lemmas.Int.{ints}
use Rattle.std.proofs.lemmas.Bool.{cases_eq, cases_lt}
use Rattle.std.proofs.lemmas.Bool.Decides.{nat_tests}
use Rattle.std.proofs.lemmas.List.{get_or-set_same, get_or-set_other, get_or-replicate, length-set, get_or_past, length-replicate}
use Rattle.sums.proofs.IntegerSumLemmas.{abs-add}
use Rattle.label_energies.specs.declared.change.Move.{Move}
use Rattle.label_energies.specs.Energies.{Instance, labelling}
use Rattle.label_energies.proofs.Energy.{equal_is}
use Rattle.move_energy.specs.Assignments.{rise, set_bit}
use Rattle.move_energy.specs.BySite.{neighbours_start}
use Rattle.move_energy.specs.MoveValues.{move_value}
use Rattle.move_energy.proofs.Assignments.{set_at, set_other, set_same, value_same}
use Rattle.move_energy.proofs.Rising.{move_over}
use Rattle.site_forms.specs.declared.numbers.SiteForm.{SiteForm}
use Rattle.site_forms.specs.Numbers.{Tells, IsFormOf}
use Rattle.site_forms.proofs.Telling.{form_tells}
use Rattle.kept_labels.specs.Kept.{last_rise, turned_last}
use Rattle.kept_labels.proofs.Giving.{equal_false, or_true}

below : (p u : ℕ) → p < u → nat_lt p u ≡ true
below p u l = grind (arith, nat_tests, l)

past : (p u : ℕ) → u ≤ p → nat_lt p u ≡ false
past p u l = grind (arith, nat_tests, l)

-- ---- the values, once some sites have turned

has_turned : (f : ℕ → ℕ) (label u p : ℕ) → p < u → turned_last f label u p ≡ true
has_turned f label u p l = ap (λ b. b || not (f p == label)) (below p u l)

is_other : (f : ℕ → ℕ) (label u p : ℕ) → f p ≢ label → turned_last f label u p ≡ true
is_other f label u p off = ap (λ b. nat_lt p u || not b) (equal_false (f p) label off) ∙ or_true (nat_lt p u)

still_to : (f : ℕ → ℕ) (label u p : ℕ) → u ≤ p → turned_last f label u p ≡ not (f p == label)
still_to f label u p l = ap (λ b. b || not (f p == label)) (past p u l)

-- one site more turns
turned_next : (f : ℕ → ℕ) (label u p : ℕ) → turned_last f label (u + 1) p ≡ set_bit (turned_last f label u) u true p
turned_next f label u p = elim (cases_eq p u) [
  | inl same ↦ has_turned f label (u + 1) p (omega (arith, same)) ∙ sym (set_at (turned_last f label u) u p true same)
  | inr other ↦ elim (cases_lt p u) [
    | inl l ↦
        has_turned f label (u + 1) p (omega (arith, l)) ∙ sym (has_turned f label u p l)
        ∙ sym (set_other (turned_last f label u) u p true other)
    | inr l ↦
        still_to f label (u + 1) p (omega (arith, l, other)) ∙ sym (still_to f label u p l)
        ∙ sym (set_other (turned_last f label u) u p true other)
  ]
]

-- a site of the label has not turned before
not_yet : (f : ℕ → ℕ) (label u : ℕ) → f u ≡ label → turned_last f label u u ≡ false
not_yet f label u is = still_to f label u u (omega arith) ∙ ap not (equal_is (f u) label is)

rises_by : (a b r x y : ℤ) → r ≡ x -ℤ y → a ≡ x → b ≡ y → r ≡ a -ℤ b
rises_by a b r x y is one two = omega (arith, ints, is, one, two)

turns_here : (E : (ℕ → Bool) → ℤ) (f : ℕ → ℕ) (label u : ℕ) (r : ℤ) → f u ≡ label → r ≡ rise E u (turned_last f label u)
    → r ≡ E (turned_last f label (u + 1)) -ℤ E (turned_last f label u)
turns_here E f label u r here is =
    let T = turned_last f label in
    rises_by (E (T (u + 1))) (E (T u)) r (E (set_bit (T u) u true)) (E (set_bit (T u) u false)) is
    (value_same E (T (u + 1)) (set_bit (T u) u true) (turned_next f label u))
    (value_same E (T u) (set_bit (T u) u false) (λ p. sym (set_same (T u) u false (not_yet f label u here) p)))

-- a site of another label had turned before
turns_there : (E : (ℕ → Bool) → ℤ) (f : ℕ → ℕ) (label u : ℕ) → f u ≢ label → E (turned_last f label (u + 1)) ≡ E (turned_last f label u)
turns_there E f label u off =
    let T = turned_last f label in
    value_same E (T (u + 1)) (T u) (λ p. turned_next f label u p ∙ set_same (T u) u true (is_other f label u u off) p)

-- ---- the sums of all labels

-- so much the energy rose, for each label, once the sites below one have turned
pub record AreSummed (form : SiteForm) (rises : List ℤ) (site : ℕ) : Type 0 where
  pub count : length rises ≡ 256
  pub small : (label : ℕ) → unsigned_abs (get_or rises label (pos 0)) ≤ 10000000 * (site + neighbours_start form.ends.now site)
  pub told : (label : ℕ) → label < 256
      → Tells form (λ E. get_or rises label (pos 0) ≡ E (turned_last (labelling form.at.now) label site) -ℤ E (turned_last (labelling form.at.now) label 0))

none_yet : (z : ℤ) → pos 0 ≡ z -ℤ z
none_yet z = omega (arith, ints)

no_more : (z : ℤ) (k : ℕ) → z ≡ pos 0 → unsigned_abs z ≤ 10000000 * k
no_more z k is = omega (arith, ints, is)

zero_at : (label : ℕ) → get_or (replicate 256 (pos 0)) label (pos 0) ≡ pos 0
zero_at label = elim (cases_lt label 256) [
  | inl l ↦ get_or-replicate 256 label (pos 0) (pos 0) l
  | inr l ↦ get_or_past (replicate 256 (pos 0)) label (pos 0) (omega (arith, l, length-replicate 256 (pos 0)))
]

pub none_summed : (form : SiteForm) → AreSummed form (replicate 256 (pos 0)) 0
none_summed form = record {
  count = length-replicate 256 (pos 0);
  small = λ label. no_more (get_or (replicate 256 (pos 0)) label (pos 0)) (0 + neighbours_start form.ends.now 0) (zero_at label);
  told = λ label l E tells. zero_at label ∙ none_yet (E (turned_last (labelling form.at.now) label 0));
}

one_more : (z r a b c s : ℤ) → s ≡ z +ℤ r → z ≡ a -ℤ c → r ≡ b -ℤ a → s ≡ b -ℤ c
one_more z r a b c s sum h k = omega (arith, ints, sum, h, k)

as_before : (z a b c : ℤ) → z ≡ a -ℤ c → b ≡ a → z ≡ b -ℤ c
as_before z a b c h k = omega (arith, ints, h, k)

larger : (y r v : ℤ) (i j k : ℕ) → v ≡ y +ℤ r → unsigned_abs y ≤ 10000000 * j → unsigned_abs r ≤ 10000000 * k → j + k ≤ i → unsigned_abs v ≤ 10000000 * i
larger y r v i j k is h l few = (let e = ap unsigned_abs is in omega (arith, e, abs-add y r, h, l, few))

pub one_summed : (form : SiteForm) (rises new : List ℤ) (site at k : ℕ) (r v : ℤ) → AreSummed form rises site → at ≡ labelling form.at.now site → at < 256
    → new ≡ set rises at v → v ≡ get_or rises at (pos 0) +ℤ r → unsigned_abs r ≤ 10000000 * k
    → site + neighbours_start form.ends.now site + k ≤ site + 1 + neighbours_start form.ends.now (site + 1)
    → Tells form (λ E. r ≡ rise E site (turned_last (labelling form.at.now) (labelling form.at.now site) site))
    → AreSummed form new (site + 1)
one_summed form rises new site at k r v so_far is inside written sum small grows told =
    let f = labelling form.at.now in
    let here : get_or new at (pos 0) ≡ v = ap (λ (xs : List ℤ). get_or xs at (pos 0)) written ∙ get_or-set_same rises at v (pos 0) (omega (arith, inside, so_far.count)) in
    let there : (label : ℕ) → label ≢ at → get_or new label (pos 0) ≡ get_or rises label (pos 0) =
    λ label off. ap (λ (xs : List ℤ). get_or xs label (pos 0)) written ∙ get_or-set_other rises at label v (pos 0) off in
    record {
      count = ap (λ (xs : List ℤ). length xs) written ∙ length-set rises at v ∙ so_far.count;
      small = λ label. elim (cases_eq label at) [
        | inl same ↦
            let e = ap (λ j. get_or new j (pos 0)) same in
            larger (get_or rises at (pos 0)) r (get_or new label (pos 0)) _ (site + neighbours_start form.ends.now site) k (e ∙ here ∙ sum) (so_far.small at) small grows
        | inr off ↦
            let e = ap unsigned_abs (there label off) in
            omega (arith, e, so_far.small label, grows)
      ];
      told = λ label l E tells. elim (cases_eq label at) [
        | inl same ↦
            let own : f site ≡ label = sym is ∙ sym same in
            one_more (get_or rises label (pos 0)) r (E (turned_last f label site)) (E (turned_last f label (site + 1))) (E (turned_last f label 0)) (get_or new label (pos 0))
            (ap (λ j. get_or new j (pos 0)) same ∙ here ∙ sum ∙ ap (λ j. get_or rises j (pos 0) +ℤ r) (sym same))
            (so_far.told label l E tells)
            (turns_here E f label site r own (told E tells ∙ ap (λ j. rise E site (turned_last f j site)) own))
        | inr off ↦
            as_before (get_or new label (pos 0)) (E (turned_last f label site)) (E (turned_last f label (site + 1))) (E (turned_last f label 0))
            (there label off ∙ so_far.told label l E tells)
            (turns_there E f label site (λ own. off (sym own ∙ sym is)))
      ];
    }

by_both : (z a b c d : ℤ) → z ≡ a -ℤ b → a ≡ c → b ≡ d → z ≡ c -ℤ d
by_both z a b c d is one two = omega (arith, ints, is, one, two)

-- once all sites have turned
pub all_summed : (form : SiteForm) (rises : List ℤ) (site label : ℕ) (m : Instance) (move : Move) → length form.at.now ≤ site → AreSummed form rises site → label < 256
    → IsFormOf m move form → get_or rises label (pos 0) ≡ last_rise (move_value m move (labelling form.at.now)) (labelling form.at.now) label
all_summed form rises site label m move all summed l is =
    let f = labelling form.at.now in
    let E = move_value m move f in
    by_both (get_or rises label (pos 0)) (E (turned_last f label site)) (E (turned_last f label 0)) (E (λ p. true)) (E (λ p. not (f p == label)))
    (summed.told label l E (form_tells form m move is))
    (move_over m move f is.instance (turned_last f label site) (λ p. true) (λ p inside. has_turned f label site p (omega (arith, inside, all, is.read.sites))))
    (value_same E (turned_last f label 0) (λ p. not (f p == label)) (λ p. still_to f label 0 p (omega arith)))
