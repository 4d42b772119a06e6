use Rattle.std.proofs.Common.{◌≡◌, ◌∙◌, ◌<◌, ℕ, Bool, List, true, false, length, refl, sym, ap, subst, arith}
use Rattle.std.specs.Vec.{with_items}
use Rattle.std.proofs.lemmas.List.{with_items_is}
use Rattle.move_energy.specs.declared.choice.Choice.{Choice}
use Rattle.move_energy.specs.declared.rises.EndRises.{EndRises}
use Rattle.site_forms.specs.declared.by_known.ToldRises.{ToldRises}
use Rattle.site_forms.specs.Fields.{told_in, known_place, unit_rises_at, AreToldRises}
use Rattle.form_lists.specs.ToldRows.{AreTimes, AreUnitsSmall}
use Rattle.form_lists.proofs.ToldTable.{told_of, units_small}
use Rattle.form_lists.proofs.lists.FormLists.tell_rises.Goals as goal

-- weights that differ are not all the same
never_both : (even uniform : Bool) → (uniform ≡ true → even ≡ true) → even ≡ false → uniform ≡ false
never_both even false all differ = refl
never_both even true all differ = absurd (let is = all refl in cc (is, differ))

-- a table is made of few labels alone
few_of : (few uniform scaled : Bool) → (uniform ≡ true → few ≡ true) → (scaled ≡ true → few ≡ true) → (uniform ≡ false → scaled ≡ true) → few ≡ true
few_of few true scaled one two made = one refl
few_of few false scaled one two made = two (made refl)

pub write_told_rows-requires-clause-small : goal.write_told_rows-requires-clause-small
write_told_rows-requires-clause-small c =
    let a = c.args in
    let lists = a.self.now in
    let few = few_of lists.few c.are_uniform-self.result c.are_scaled-self.result c.are_uniform-self.ensures.few c.are_scaled-self.ensures.few (c.is_either.ensures.one c.if-not-is_either.false) in
    let P : List EndRises → Type 0 = λ table. AreUnitsSmall a.labels table in
    subst P (sym c.deref.ensures.value) (units_small lists.stays.items lists.turns.items lists.smooth.costs.items a.labels lists.table.items c.requires.small (c.requires.rises few))

pub returns-then-not-is_either-clause-told : goal.returns-then-not-is_either-clause-told
returns-then-not-is_either-clause-told c =
    let none = c.is_either.ensures.none c.if-not-is_either.true in
    record { even = λ said. absurd (let no = none.0 in cc (said, no)); unit = λ said. absurd (let no = none.1 in cc (said, no)) }

pub returns-clause-told : goal.returns-clause-told
returns-clause-told c =
    let a = c.args in
    let lists = a.self.now in
    let weight = c.told_weight-weight.result in
    let uniform = c.are_uniform-self.ensures in
    let scaled = c.are_scaled-self.ensures in
    let vec = c.resize.new.self in
    let written = c.write_told_rows.new.told in
    let long : length written ≡ vec.len = omega (arith, c.write_told_rows.auto.told, c.as_mut_slice.ensures.len) in
    let is = with_items_is vec written long in
    let few = few_of lists.few c.are_uniform-self.result c.are_scaled-self.result uniform.few scaled.few (c.is_either.ensures.one c.if-not-is_either.false) in
    let rows = ap (length {A = ToldRises}) is ∙ omega (arith, long, c.in_ok-resize.ensures.len) in
    let rises : (own other : ℕ) (choice : Choice) → own < a.labels → other < a.labels
    → AreToldRises lists.stays.items lists.turns.items lists.smooth.costs.items weight own other choice (told_in (with_items vec written).items (known_place own other choice)) =
    λ own other choice mine theirs.
    (let place = known_place own other choice in
    let T : List ToldRises → Type 0 = λ told. AreToldRises lists.stays.items lists.turns.items lists.smooth.costs.items weight own other choice (told_in told place) in
    let U : List EndRises → Type 0 = λ table. AreTimes weight (unit_rises_at table true own other) choice (told_in written place) in
    subst T (sym is) (told_of lists.stays.items lists.turns.items lists.smooth.costs.items weight own other choice (unit_rises_at lists.table.items true own other) (told_in written place)
    (c.requires.rises few true own other mine theirs) (subst U c.deref.ensures.value (c.write_told_rows.ensures own other choice mine theirs)))) in
    let R : ℕ → Type 0 = λ w. (own other : ℕ) (choice : Choice) → own < a.labels → other < a.labels
    → AreToldRises lists.stays.items lists.turns.items lists.smooth.costs.items w own other choice (told_in (with_items vec written).items (known_place own other choice)) in
    record {
      even = λ yes. (uniform.even yes, record { mirrored = uniform.mirrored yes; few = few; rows = rows; rises = subst R (c.told_weight-weight.ensures.even yes) rises });
      unit = λ yes. (
        scaled.differ yes,
        record {
          mirrored = scaled.mirrored yes;
          few = few;
          rows = rows;
          rises = subst R (c.told_weight-weight.ensures.unit (never_both a.ends.now.even c.are_uniform-self.result uniform.even (scaled.differ yes))) rises;
        },
      );
    }
