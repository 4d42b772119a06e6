-- What a pair's rise is, seen with the value of one of its ends.
use Rattle.std.proofs.Common.{◌≡◌, ◌≢◌, ℕ, ◌<◌, Bool, true, false, ℤ, pos, ◌+ℤ◌, ◌-ℤ◌, refl, sym, ap, ◌∙◌, inl, inr, arith}
use Rattle.std.proofs.lemmas.Int.{ints}
use Rattle.std.proofs.lemmas.Bool.{cases_eq}
use Rattle.label_field.specs.declared.pair.Pair.{Pair}
use Rattle.label_energies.specs.declared.change.Move.{Move}
use Rattle.label_energies.specs.Energies.{Instance}
use Rattle.label_energies.specs.Moves.{pair_entry}
use Rattle.move_energy.specs.declared.choice.Choice.TheVariants.{Open}
use Rattle.move_energy.specs.Choices.{choice_at}
use Rattle.site_bounds.specs.declared.bounds.Bounds.{Bounds}
use Rattle.move_energy.specs.Assignments.{set_bit}
use Rattle.move_energy.specs.MoveValues.{pair_rise}
use Rattle.move_energy.specs.Weights.{surplus_of, pair_table}
use Rattle.move_energy.specs.Ends.{AreEnds}
use Rattle.site_bounds.specs.Working.{bound_at, Shifts, SeesPair, least_shift, greatest_shift}
use Rattle.move_energy.proofs.Assignments.{set_at}
use Rattle.move_energy.proofs.Rising.{pair_rise-first, pair_rise-second, pair_rise-none}

-- ---- seen with a value

-- the change of a pair's rise at its other end, by the value of this one

abbrev pub rises_beside : Instance → Move → (ℕ → ℕ) → Pair → Bool → Bool → ℤ
rises_beside m move f pair true b = pos (pair_entry m move f pair b true) -ℤ pos (pair_entry m move f pair b false)
rises_beside m move f pair false b = pos (pair_entry m move f pair true b) -ℤ pos (pair_entry m move f pair false b)

least_by_first : (m : Instance) (move : Move) (f : ℕ → ℕ) (pair : Pair) (value : Bool)
    → rises_beside m move f pair true value -ℤ rises_beside m move f pair true true ≡ least_shift value (surplus_of (pair_table m move f pair))
least_by_first m move f pair true = omega (arith, ints)
least_by_first m move f pair false = omega (arith, ints)

least_by_second : (m : Instance) (move : Move) (f : ℕ → ℕ) (pair : Pair) (value : Bool)
    → rises_beside m move f pair false value -ℤ rises_beside m move f pair false true ≡ least_shift value (surplus_of (pair_table m move f pair))
least_by_second m move f pair true = omega (arith, ints)
least_by_second m move f pair false = omega (arith, ints)

greatest_by_first : (m : Instance) (move : Move) (f : ℕ → ℕ) (pair : Pair) (value : Bool)
    → rises_beside m move f pair true value -ℤ rises_beside m move f pair true false ≡ greatest_shift value (surplus_of (pair_table m move f pair))
greatest_by_first m move f pair true = omega (arith, ints)
greatest_by_first m move f pair false = omega (arith, ints)

greatest_by_second : (m : Instance) (move : Move) (f : ℕ → ℕ) (pair : Pair) (value : Bool)
    → rises_beside m move f pair false value -ℤ rises_beside m move f pair false false ≡ greatest_shift value (surplus_of (pair_table m move f pair))
greatest_by_second m move f pair true = omega (arith, ints)
greatest_by_second m move f pair false = omega (arith, ints)

-- the rise of the second end, where the first has a value; and of the first, where the second has
pub second_by : (m : Instance) (move : Move) (f : ℕ → ℕ) (u : ℕ) (x : ℕ → Bool) (pair : Pair) (b : Bool) → pair.first ≢ u → pair.second ≡ u → x pair.first ≡ b
    → pair_rise m move f u x pair ≡ rises_beside m move f pair true b
second_by m move f u x pair b apart here is = pair_rise-second m move f u x pair apart here ∙ ap (rises_beside m move f pair true) is

pub first_by : (m : Instance) (move : Move) (f : ℕ → ℕ) (u : ℕ) (x : ℕ → Bool) (pair : Pair) (b : Bool) → pair.first ≡ u → pair.second ≢ u → x pair.second ≡ b
    → pair_rise m move f u x pair ≡ rises_beside m move f pair false b
first_by m move f u x pair b here apart is = pair_rise-first m move f u x pair here apart ∙ ap (rises_beside m move f pair false) is

difference_of : (a b c d e : ℤ) → a ≡ c → b ≡ d → c -ℤ d ≡ e → a -ℤ b ≡ e
difference_of a b c d e h k l = omega (arith, ints, h, k, l)

-- one end has this value: the rise of the other changes from what it was with the value before
pub seen_change : (m : Instance) (move : Move) (f : ℕ → ℕ) (pair : Pair) (site other : ℕ) (value before : Bool) (x : ℕ → Bool)
    → AreEnds pair site other → site ≢ other → x site ≡ before
    → (shift : Bool → ℤ → ℤ)
    → ((v : Bool) → rises_beside m move f pair true v -ℤ rises_beside m move f pair true before ≡ shift v (surplus_of (pair_table m move f pair)))
    → ((v : Bool) → rises_beside m move f pair false v -ℤ rises_beside m move f pair false before ≡ shift v (surplus_of (pair_table m move f pair)))
    → pair_rise m move f other (set_bit x site value) pair -ℤ pair_rise m move f other x pair ≡ shift value (surplus_of (pair_table m move f pair))
seen_change m move f pair site other value before x (inl ends) apart is shift by_first by_second =
    let off : pair.first ≢ other = λ same. apart (sym ends.0 ∙ same) in
    difference_of _ _ _ _ _ (second_by m move f other (set_bit x site value) pair value off ends.1 (set_at x site pair.first value ends.0))
    (second_by m move f other x pair before off ends.1 (ap x ends.0 ∙ is)) (by_first value)
seen_change m move f pair site other value before x (inr ends) apart is shift by_first by_second =
    let off : pair.second ≢ other = λ same. apart (sym ends.1 ∙ same) in
    difference_of _ _ _ _ _ (first_by m move f other (set_bit x site value) pair value ends.0 off (set_at x site pair.second value ends.1))
    (first_by m move f other x pair before ends.0 off (ap x ends.1 ∙ is)) (by_second value)

-- a pair's rise at a third site
no_change : (m : Instance) (move : Move) (f : ℕ → ℕ) (u : ℕ) (x y : ℕ → Bool) (pair : Pair) → pair.first ≢ u → pair.second ≢ u
    → pair_rise m move f u y pair -ℤ pair_rise m move f u x pair ≡ pos 0
no_change m move f u x y pair first second = difference_of _ _ _ _ _ (pair_rise-none m move f u y pair first second) (pair_rise-none m move f u x pair first second) (omega (arith, ints))

-- a pair's rise depends on its ends alone
pub pair_rise-same : (m : Instance) (move : Move) (f : ℕ → ℕ) (u : ℕ) (x y : ℕ → Bool) (pair : Pair) → pair.first ≢ pair.second → x pair.first ≡ y pair.first → x pair.second ≡ y pair.second
    → pair_rise m move f u x pair ≡ pair_rise m move f u y pair
pair_rise-same m move f u x y pair unequal first second = elim (cases_eq pair.first u) [
  | inl here ↦
      let other : pair.second ≢ u = λ same. unequal (here ∙ sym same) in
      first_by m move f u x pair (y pair.second) here other second ∙ sym (first_by m move f u y pair (y pair.second) here other refl)
  | inr apart ↦ elim (cases_eq pair.second u) [
    | inl there ↦ second_by m move f u x pair (y pair.first) apart there first ∙ sym (second_by m move f u y pair (y pair.first) apart there refl)
    | inr neither ↦ pair_rise-none m move f u x pair apart neither ∙ sym (pair_rise-none m move f u y pair apart neither)
  ]
]

pub ends_not : (pair : Pair) (site other u : ℕ) → AreEnds pair site other → u ≢ site → u ≢ other
    → (pair.first ≢ u) × (pair.second ≢ u)
ends_not pair site other u (inl ends) ns off = ((λ same. ns (sym same ∙ ends.0)), λ same. off (sym same ∙ ends.1))
ends_not pair site other u (inr ends) ns off = ((λ same. off (sym same ∙ ends.0)), λ same. ns (sym same ∙ ends.1))

at_other : (new old s d : ℤ) → new ≡ old +ℤ s → d ≡ s → new ≡ old +ℤ d
at_other new old s d h k = omega (arith, ints, h, k)

at_third : (new old d : ℤ) → new ≡ old → d ≡ pos 0 → new ≡ old +ℤ d
at_third new old d h k = omega (arith, ints, h, k)

-- the other end is open: its bounds are shifted
pub sees_open : (m : Instance) (move : Move) (f : ℕ → ℕ) (k : ℕ) (pair : Pair) (site other : ℕ) (value : Bool) (surplus : ℤ) (old new : Bounds)
    → AreEnds pair site other → site ≢ other
    → surplus ≡ surplus_of (pair_table m move f pair) → Shifts other value surplus old new → SeesPair m move f k site value pair old new
sees_open m move f k pair site other value surplus old new ends apart is shifts = record {
  least = λ x u one below off opened. elim (cases_eq u other) [
    | inl same ↦ at_other _ _ _ _
        (ap (bound_at new.least.items) same ∙ shifts.least ∙ ap (λ v. bound_at old.least.items v +ℤ least_shift value surplus) (sym same))
        (ap (λ v. pair_rise m move f v (set_bit x site value) pair -ℤ pair_rise m move f v x pair) same
        ∙ seen_change m move f pair site other value true x ends apart one least_shift (least_by_first m move f pair) (least_by_second m move f pair) ∙ ap (least_shift value) (sym is))
    | inr third ↦
        let not = ends_not pair site other u ends off third in
        at_third _ _ _ ((shifts.others u third).0) (no_change m move f u x (set_bit x site value) pair not.0 not.1)
  ];
  greatest = λ x u none below off opened. elim (cases_eq u other) [
    | inl same ↦ at_other _ _ _ _
        (ap (bound_at new.greatest.items) same ∙ shifts.greatest ∙ ap (λ v. bound_at old.greatest.items v +ℤ greatest_shift value surplus) (sym same))
        (ap (λ v. pair_rise m move f v (set_bit x site value) pair -ℤ pair_rise m move f v x pair) same
        ∙ seen_change m move f pair site other value false x ends apart none greatest_shift (greatest_by_first m move f pair) (greatest_by_second m move f pair) ∙ ap (greatest_shift value) (sym is))
    | inr third ↦
        let not = ends_not pair site other u ends off third in
        at_third _ _ _ ((shifts.others u third).1) (no_change m move f u x (set_bit x site value) pair not.0 not.1)
  ];
}

-- the other end is decided, or was not summed: nothing changes
pub sees_none : (m : Instance) (move : Move) (f : ℕ → ℕ) (k : ℕ) (pair : Pair) (site other : ℕ) (value : Bool) (b : Bounds)
    → AreEnds pair site other → ((u : ℕ) → u < k → choice_at b.choices.items u ≡ Open → u ≢ other)
    → SeesPair m move f k site value pair b b
sees_none m move f k pair site other value b ends apart = record {
  least = λ x u one below off opened. (let not = ends_not pair site other u ends off (apart u below opened) in
      at_third _ _ _ refl (no_change m move f u x (set_bit x site value) pair not.0 not.1));
  greatest = λ x u none below off opened. (let not = ends_not pair site other u ends off (apart u below opened) in
      at_third _ _ _ refl (no_change m move f u x (set_bit x site value) pair not.0 not.1));
}

pub ends_apart : (pair : Pair) (site other : ℕ) → AreEnds pair site other → pair.first ≢ pair.second → site ≢ other
ends_apart pair site other (inl ends) unequal same = unequal (ends.0 ∙ same ∙ sym ends.1)
ends_apart pair site other (inr ends) unequal same = unequal (ends.0 ∙ sym same ∙ sym ends.1)
