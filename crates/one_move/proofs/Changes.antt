-- What changes at the listed sites.
use Rattle.std.proofs.Common.{◌≡◌, ◌≢◌, ℕ, ◌+◌, ◌<◌, Bool, true, false, eqb, IsTrue, List, length, get_or, refl, sym, ap, ◌∙◌, subst, inl, inr, arith}
use Rattle.std.specs.Prelude.{◌||◌, ◌==◌, not, slice_index, slice_set, IsFalse}
use Rattle.std.proofs.lemmas.Bool.{cases_lt, cases_Bool}
use Rattle.std.proofs.lemmas.Bool.Decides.{nat_tests}
use Rattle.std.proofs.lemmas.List.{length-set, get_or-set_same, get_or-set_other}
use Rattle.label_field.specs.PairLists.{PairList}
use Rattle.move_energy.specs.BySite.{IsListing, rising_sites}
use Rattle.move_energy.proofs.Listings.{chosen_below, listing_place, listing_has}
use Rattle.label_energies.specs.declared.change.Move.{Move}
use Rattle.label_energies.specs.Energies.{labelling}
use Rattle.label_energies.specs.Moves.{labelling_made, label_after}
use Rattle.label_energies.proofs.Best.{lists_agree}
use Rattle.pseudo_bool.specs.Energies.{assignment}
use Rattle.move_energy.specs.declared.choice.Choice.{Choice}
use Rattle.move_energy.specs.declared.choice.Choice.TheVariants.{Open, Zero as DecidedZero, One as DecidedOne}
use Rattle.move_energy.specs.Choices.{bit_of, choice_at, choice_of, is_open, open_rank, value_of, AreAssigned}
use Rattle.site_bounds.specs.declared.sites.Deciding.{Deciding}
use Rattle.site_bounds.specs.Listed.{changes}
use Rattle.one_move.specs.declared.workspace.Workspace.{Workspace}
use Rattle.one_move.specs.Building.{site_values, moves_site, HasChanges, AreChangesListed, HasListsOfMove, IsRestListed}

not_false : (b : Bool) → not b ≡ false → b ≡ true
not_false true is = refl
not_false false is = absurd (cc is)

same_of : (a b : ℕ) → eqb a b ≡ true → a ≡ b
same_of a b h = grind (arith, nat_tests)

-- a site that is not moved keeps its label
pub unmoved : (move : Move) (f : ℕ → ℕ) (choices : List Choice) (p : ℕ) → moves_site move f choices p ≡ false → labelling_made move f (site_values choices) p ≡ f p
unmoved move f choices p is = same_of (labelling_made move f (site_values choices) p) (f p) (not_false (eqb (labelling_made move f (site_values choices) p) (f p)) is)

-- and one that is not chosen
pub unchosen : (move : Move) (f : List ℕ) (choices : List Choice) (sites : List ℕ) (p : ℕ) → (changes : HasChanges move f choices sites) → p < length f
    → changes.chosen p ≡ false → labelling_made move (labelling f) (site_values choices) p ≡ labelling f p
unchosen move f choices sites p changes l is = elim (cases_Bool (moves_site move (labelling f) choices p)) [
  | inl so ↦ (let chosen = changes.each p l so in absurd (cc (chosen, is)))
  | inr not_so ↦ unmoved move (labelling f) choices p not_so
]

-- what is chosen before a move is assigned has all that changes
change_of : (c : Choice) (b : Bool) (test : Bool → Bool) → test (bit_of c b) ≡ true → (is_open c || test (bit_of c false)) ≡ true
change_of Open b test is = refl
change_of DecidedZero b test is = is
change_of DecidedOne b test is = is

bit_of_choice : (b : Bool) → bit_of (choice_of b) false ≡ b
bit_of_choice true = refl
bit_of_choice false = refl

pub near_changes : (move : Move) (f : List ℕ) (before after : Workspace) (bits : List Bool) → length before.built.variables.choices.items ≡ length f
    → IsRestListed move f before → after.deciding ≡ before.deciding
    → AreAssigned before.built.variables.choices.items bits after.built.variables.choices.items → AreChangesListed move f after
near_changes move f before after bits size rest same assigned =
    let old = before.built.variables.choices.items in
    let new = after.built.variables.choices.items in
    let here : HasChanges move f new before.deciding.lists.changing.items = record {
      chosen = rest.chosen;
      listed = rest.listed;
      each = λ p l moved.
          let test : Bool → Bool = λ v. not (label_after move (labelling f p) v == labelling f p) in
          let told : bit_of (choice_at new p) false ≡ value_of old bits p =
          ap (λ (c : Choice). bit_of c false) (assigned.each p (omega (arith, l, size))) ∙ bit_of_choice (value_of old bits p) in
          rest.each p l (change_of (choice_at old p) (assignment bits (open_rank old p)) test (sym (ap test told) ∙ moved));
    } in
    subst (λ (d : Deciding). HasChanges move f new d.lists.changing.items) (sym same) here

-- what deciding listed is what is left
pub near_rest : (pairs : PairList) (move : Move) (f : List ℕ) (space : Workspace) → length space.built.variables.choices.items ≡ length f
    → HasListsOfMove pairs move f space → IsTrue space.deciding.lists.listed → IsRestListed move f space
near_rest pairs move f space size near is_listed = record {
  opened = near.lists.opened is_listed;
  chosen = changes move (labelling f) space.built.variables.choices.items;
  listed = near.lists.changing is_listed ∙ ap (λ n. rising_sites (changes move (labelling f) space.built.variables.choices.items) n) size;
  each = λ p l is. is;
}

-- ---- the list

pub site_has : (chosen : ℕ → Bool) (n : ℕ) (sites : List ℕ) (i : ℕ) → IsListing chosen n sites → i < length sites
    → (get_or sites i 0 < n) × (chosen (get_or sites i 0) ≡ true) × (chosen_below chosen (get_or sites i 0) ≡ i)
site_has chosen n sites i listed l =
    let same : get_or sites i 0 ≡ get_or (rising_sites chosen n) i 0 = ap (λ (xs : List ℕ). get_or xs i 0) listed in
    let e = ap (λ (xs : List ℕ). length xs) listed in
    let found = listing_has chosen n i (omega (arith, l, e)) in
    (omega (arith, same, found.0), ap chosen same ∙ found.1, ap (chosen_below chosen) same ∙ found.2)

pub site_place : (chosen : ℕ → Bool) (n : ℕ) (sites : List ℕ) (p : ℕ) → IsListing chosen n sites → p < n → chosen p ≡ true
    → (i : ℕ) × (i < length sites) × (get_or sites i 0 ≡ p)
site_place chosen n sites p listed l is =
    let found = listing_place chosen n p l is in
    let e = ap (λ (xs : List ℕ). length xs) listed in
    (chosen_below chosen p, omega (arith, found.0, e), ap (λ (xs : List ℕ). get_or xs (chosen_below chosen p) 0) listed ∙ found.1)

-- no site is listed twice
pub sites_apart : (chosen : ℕ → Bool) (n : ℕ) (sites : List ℕ) (i k : ℕ) → IsListing chosen n sites → i < length sites → k < i → get_or sites k 0 ≢ get_or sites i 0
sites_apart chosen n sites i k listed l less same =
    let here = site_has chosen n sites i listed l in
    let there = site_has chosen n sites k listed (omega (arith, l, less)) in
    omega (arith, less, here.2, there.2, ap (chosen_below chosen) same)

-- ---- labels that are written at the listed sites

-- at the first i listed sites the labels are as they are to be, the others as they were, and
-- whether one is another than it was
pub record AreWrittenAt (old new : List ℕ) (label : ℕ → ℕ) (sites : List ℕ) (i : ℕ) (changed : Bool) : Type 0 where
  pub len : length new ≡ length old
  pub done : (k : ℕ) → k < i → slice_index new (get_or sites k 0) ≡ label (get_or sites k 0)
  pub left : (p : ℕ) → ((k : ℕ) → k < i → get_or sites k 0 ≢ p) → slice_index new p ≡ slice_index old p
  pub other : changed ≡ true → (k : ℕ) × (k < i) × (label (get_or sites k 0) ≢ slice_index old (get_or sites k 0))
  pub same : changed ≡ false → (k : ℕ) → k < i → label (get_or sites k 0) ≡ slice_index old (get_or sites k 0)

pub written_at_none : (old : List ℕ) (label : ℕ → ℕ) (sites : List ℕ) → AreWrittenAt old old label sites 0 false
written_at_none old label sites = record {
  len = refl;
  done = λ k l. absurd (omega (arith, l));
  left = λ p l. refl;
  other = λ is. absurd (cc (is));
  same = λ is k l. absurd (omega (arith, l));
}

last_or : (k i : ℕ) → k < i + 1 → (k < i → ⊥) → i ≡ k
last_or k i l not_before = elim (cases_lt k i) [ inl before ↦ absurd (not_before before) | inr after ↦ omega (arith, l, after) ]

pub written_at_more : (old now new : List ℕ) (label : ℕ → ℕ) (sites : List ℕ) (i n y : ℕ) (was next told : Bool) → AreWrittenAt old now label sites i was
    → n ≡ get_or sites i 0 → n < length old → ((k : ℕ) → k < i → get_or sites k 0 ≢ get_or sites i 0) → (slice_index now n ≡ slice_index old n → y ≡ label n)
    → new ≡ slice_set now n y → (told ≡ true → y ≢ slice_index now n) → (told ≡ false → y ≡ slice_index now n)
    → (told ≡ true → next ≡ true) → (told ≡ false → next ≡ was) → AreWrittenAt old new label sites (i + 1) next
written_at_more old now new label sites i n y was next told so_far at within apart own is moved stayed turned not_so =
    let fresh : slice_index now n ≡ slice_index old n = so_far.left n (λ k l e. apart k l (e ∙ at)) in
    let value : y ≡ label n = own fresh in
    let here : slice_index new n ≡ y = ap (λ (xs : List ℕ). slice_index xs n) is ∙ get_or-set_same now n y 0 (omega (arith, within, so_far.len)) in
    record {
      len = ap (λ (xs : List ℕ). length xs) is ∙ length-set now n y ∙ so_far.len;
      done = λ k l. elim (cases_lt k i) [
        | inl before ↦
            let other : get_or sites k 0 ≢ n = λ e. apart k before (e ∙ at) in
            ap (λ (xs : List ℕ). slice_index xs (get_or sites k 0)) is ∙ get_or-set_other now n (get_or sites k 0) y 0 other ∙ so_far.done k before
        | inr after ↦
            let last : i ≡ k = omega (arith, l, after) in
            let site : n ≡ get_or sites k 0 = at ∙ ap (λ j. get_or sites j 0) last in
            ap (slice_index new) (sym site) ∙ here ∙ value ∙ ap label site
      ];
      left = λ p none.
          let other : p ≢ n = λ e. none i (omega arith) (sym at ∙ sym e) in
          ap (λ (xs : List ℕ). slice_index xs p) is ∙ get_or-set_other now n p y 0 other ∙ so_far.left p (λ k l. none k (omega (arith, l)));
      other = λ changed. elim (cases_Bool told) [
        | inl so ↦ (i, omega arith, λ equal. moved so (value ∙ ap label at ∙ equal ∙ ap (slice_index old) (sym at) ∙ sym fresh))
        | inr untold ↦ (let o = so_far.other (sym (not_so untold) ∙ changed) in (o.0, omega (arith, o.1), o.2))
      ];
      same = λ unchanged k l. elim (cases_Bool told) [
        | inl so ↦ (let t = turned so in absurd (cc (t, unchanged)))
        | inr untold ↦ elim (cases_lt k i) [
          | inl before ↦ so_far.same (sym (not_so untold) ∙ unchanged) k before
          | inr after ↦
              let last : i ≡ k = omega (arith, l, after) in
              let site : n ≡ get_or sites k 0 = at ∙ ap (λ j. get_or sites j 0) last in
              ap label (sym site) ∙ sym value ∙ stayed untold ∙ fresh ∙ ap (slice_index old) site
        ]
      ];
    }

abbrev pub label_at : Move → List ℕ → List Choice → ℕ → ℕ
label_at move f choices p = label_after move (slice_index f p) (site_values choices p)

pub written_at_each : (move : Move) (old new : List ℕ) (choices : List Choice) (sites : List ℕ) (i : ℕ) (changed : Bool) → HasChanges move old choices sites → i ≡ length sites
    → AreWrittenAt old new (label_at move old choices) sites i changed → (p : ℕ) → p < length old → slice_index new p ≡ label_at move old choices p
written_at_each move old new choices sites i changed changes all written p l = elim (cases_Bool (changes.chosen p)) [
  | inl so ↦
      let place = site_place changes.chosen (length old) sites p changes.listed l so in
      ap (slice_index new) (sym place.2) ∙ written.done place.0 (omega (arith, place.1, all)) ∙ ap (label_at move old choices) place.2
  | inr not_so ↦
      written.left p (λ k less e.
      let has = site_has changes.chosen (length old) sites k changes.listed (omega (arith, less, all)) in
      let chosen : changes.chosen p ≡ true = ap changes.chosen (sym e) ∙ has.1 in
      absurd (cc (chosen, not_so)))
      ∙ sym (unchosen move old choices sites p changes l not_so)
]

pub written_at_changed : (move : Move) (old new : List ℕ) (choices : List Choice) (sites : List ℕ) (i : ℕ) (changed : Bool) → HasChanges move old choices sites → i ≡ length sites
    → AreWrittenAt old new (label_at move old choices) sites i changed → (IsTrue changed → new ≢ old) × (IsFalse changed → new ≡ old)
written_at_changed move old new choices sites i changed changes all written = (
  (λ yes equal. (let o = written.other yes in
      o.2 (sym (written.done o.0 o.1) ∙ ap (λ (xs : List ℕ). slice_index xs (get_or sites o.0 0)) equal))),
  (λ no. lists_agree old new written.len (λ p l. written_at_each move old new choices sites i changed changes all written p l
      ∙ elim (cases_Bool (changes.chosen p)) [
        | inl so ↦
            let place = site_place changes.chosen (length old) sites p changes.listed l so in
            ap (label_at move old choices) (sym place.2) ∙ written.same no place.0 (omega (arith, place.1, all)) ∙ ap (slice_index old) place.2
        | inr not_so ↦ unchosen move old choices sites p changes l not_so
      ])),
)
