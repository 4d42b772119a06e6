-- Bounds by two cuts, and what a closed set of the sites between them leaves.
use Rattle.std.proofs.Common.{◌≡◌, ◌≢◌, ◌⊎◌, ◌↔◌, ◌<◌, ℕ, Bool, true, false, cond, List, All, length, get_or, replicate, refl, sym, ap, subst, ◌∙◌, inl, inr, arith, slice_set}
use Rattle.std.specs.Prelude.{slice_index}
use Rattle.std.specs.List.{Contains}
use Rattle.std.proofs.lemmas.Bool.{cases_eq, cases_lt}
use Rattle.std.proofs.lemmas.List.{get_or-replicate, length-replicate}
use Rattle.std.proofs.Math.ListN.{get_or-eq_default}
use Rattle.site_bounds.proofs.Trying.{set_here, set_there}
use Rattle.std.proofs.lemmas.List.Elements.{at_from_Contains, Contains-get_or}
use Rattle.sums.proofs.SumLemmas.{sum_below-same}
use Rattle.label_field.specs.PairLists.{PairList, IsPair, IsPairList}
use Rattle.label_field.specs.declared.pair.Pair.{Pair}
use Rattle.label_energies.specs.declared.change.Move.{Move}
use Rattle.label_energies.specs.Energies.{Instance, IsInstance, labelling}
use Rattle.label_energies.specs.Moves.{IsAllowed}
use Rattle.move_energy.specs.declared.choice.Choice.{Choice}
use Rattle.move_energy.specs.declared.choice.Choice.TheVariants.{Open, Zero, One}
use Rattle.move_energy.specs.Choices.{bit_of, choice_at, choice_of, is_open, open_at, open_rank, openness, value_of, AreOpenSites, IsNumbering}
use Rattle.move_energy.specs.BySite.{rising_sites}
use Rattle.move_energy.specs.MoveValues.{move_value}
use Rattle.move_energy.proofs.Numbers.{rank_below}
use Rattle.move_energy.proofs.Opened.{opened_place, opened_has, opened_count, cases_open, open_true}
use Rattle.move_energy.proofs.Rising.{move_falls, move_over}
use Rattle.near_changes.specs.Looking.{IsClosedIn, is_marked}
use Rattle.near_changes.specs.Working.{KeepsZeros}
use Rattle.near_swaps.specs.Looking.{as_zero, lowest_value, values_in, settled_value, CoversOthers, HaveZerosOther}
use Rattle.near_swaps.specs.Swaps.{kept_values, may_turn, may_turn_at, AreLeastBetween, IsClosedAt}
use Rattle.persistency.specs.Fixing.{AreLeastZeros}
use Rattle.persistency.proofs.Fixing.{zeros_bound}
use Rattle.pseudo_bool.specs.Energies.{assignment}
use Rattle.site_bounds.proofs.Opening.{rising_same}
use Rattle.strip_nets.specs.Looking.{IsStageLeast}

-- ---- the open sites, which are listed

pub listed_in : (choices : List Choice) (opened : List ℕ) (p : ℕ) → AreOpenSites choices opened → p < length choices → choice_at choices p ≡ Open → Contains opened p
listed_in choices opened p listed within is =
    subst (λ (q : ℕ). Contains opened q) (opened_place choices opened p listed within is)
    (Contains-get_or opened (open_rank choices p) 0 (omega (arith, rank_below choices p (length choices) within is, opened_count choices opened listed)))

pub open_in : (choices : List Choice) (opened : List ℕ) (p : ℕ) → AreOpenSites choices opened → Contains opened p → choice_at choices p ≡ Open
open_in choices opened p listed has =
    let found = at_from_Contains opened p has in
    ap (choice_at choices) (sym (found.2 0)) ∙ (opened_has choices opened found.0 listed found.1).1

-- those set to another choice by the list
pub set_open : (choices new : List Choice) (opened : List ℕ) (told : Choice) (rest : Choice → Choice) (p : ℕ) → AreOpenSites choices opened → p < length choices
    → (Contains opened p → choice_at new p ≡ told) → ((Contains opened p → ⊥) → choice_at new p ≡ rest (choice_at choices p)) → told ≡ rest Open
    → choice_at new p ≡ rest (choice_at choices p)
set_open choices new opened told rest p listed within set others is = elim (cases_open (choice_at choices p)) [
  | inl here ↦ set (listed_in choices opened p listed within here) ∙ is ∙ ap rest (sym here)
  | inr closed ↦ others (λ has. closed (open_in choices opened p listed has))
]

-- the sites of a swap count as 1
abbrev as_one : Choice → Choice
as_one Open = One
as_one Zero = Zero
as_one One = One

one_zero : (c : Choice) → as_one c ≡ Zero ↔ c ≡ Zero
one_zero Open = (λ e. absurd (cc (e)), λ e. absurd (cc (e)))
one_zero Zero = (λ e. refl, λ e. refl)
one_zero One = (λ e. absurd (cc (e)), λ e. absurd (cc (e)))

one_closed : (c : Choice) → (c ≡ Open → ⊥) → as_one c ≡ c
one_closed Open closed = absurd (closed refl)
one_closed Zero closed = refl
one_closed One closed = refl

pub raised_zeros : (choices new : List Choice) (own : List ℕ) → AreOpenSites choices own → length new ≡ length choices
    → ((p : ℕ) → Contains own p → choice_at new p ≡ One) → ((p : ℕ) → (Contains own p → ⊥) → choice_at new p ≡ choice_at choices p)
    → KeepsZeros choices new
raised_zeros choices new own listed count set others = record {
  count = count;
  each = λ p l.
      let is : choice_at new p ≡ as_one (choice_at choices p) =
      set_open choices new own One as_one p listed l (set p)
      (λ none. others p none ∙ sym (one_closed (choice_at choices p) (λ here. none (listed_in choices own p listed l here)))) refl in
      (λ z. (one_zero (choice_at choices p)).0 (sym is ∙ z), λ z. is ∙ (one_zero (choice_at choices p)).1 z);
}

open_else : (c : Choice) → c ≢ Zero → c ≢ One → c ≡ Open
open_else Open some none = refl
open_else Zero some none = absurd (some refl)
open_else One some none = absurd (none refl)

pub open_covers : (choices : List Choice) (own : List ℕ) (n : ℕ) → AreOpenSites choices own → length choices ≡ n
    → ((p : ℕ) → p < n → choice_at choices p ≢ One) → CoversOthers choices own
open_covers choices own n listed size none p l some =
    listed_in choices own p listed l (open_else (choice_at choices p) some (none p (omega (arith, l, size))))

pub covers_kept : (old new : List Choice) (sites : List ℕ) → KeepsZeros old new → CoversOthers old sites → CoversOthers new sites
covers_kept old new sites keeps covers p l some =
    let within : p < length old = (let count = keeps.count in omega (arith, l, count)) in
    covers p within (λ is. some ((keeps.each p within).1 is))

pub others_kept : (b : ℕ) (f : List ℕ) (old new : List Choice) → length old ≡ length f → KeepsZeros old new → HaveZerosOther b f old → HaveZerosOther b f new
others_kept b f old new size keeps other p l is = other p l ((keeps.each p (omega (arith, l, size))).0 is)

-- ---- with all that counts as 1 at 0

lowered_open : (c : Choice) → is_open (as_zero c) ≡ is_open c
lowered_open Open = refl
lowered_open Zero = refl
lowered_open One = refl

lowered_rank : (c : Choice) → openness (as_zero c) ≡ openness c
lowered_rank Open = refl
lowered_rank Zero = refl
lowered_rank One = refl

lowered_one : (c : Choice) → as_zero c ≡ One → ⊥
lowered_one Open is = absurd (cc (is))
lowered_one Zero is = absurd (cc (is))
lowered_one One is = absurd (cc (is))

pub all_zero : (n p : ℕ) → choice_at (replicate n Zero) p ≡ Zero
all_zero n p = elim (cases_lt p n) [
  | inl inside ↦ get_or-replicate n p Zero Zero inside
  | inr beyond ↦ get_or-eq_default (replicate n Zero) Zero {n = p} (omega (arith, beyond, length-replicate n Zero))
]

zero_closed : (c : Choice) → (c ≡ Open → ⊥) → as_zero c ≡ Zero
zero_closed Open closed = absurd (closed refl)
zero_closed Zero closed = refl
zero_closed One closed = refl

pub lowered : (choices new : List Choice) (opened : List ℕ) (p : ℕ) → AreOpenSites choices opened → p < length choices
    → (Contains opened p → choice_at new p ≡ Open) → ((Contains opened p → ⊥) → choice_at new p ≡ Zero)
    → choice_at new p ≡ as_zero (choice_at choices p)
lowered choices new opened p listed l set others =
    set_open choices new opened Open as_zero p listed l set
    (λ none. others none ∙ sym (zero_closed (choice_at choices p) (λ here. none (listed_in choices opened p listed l here)))) refl

abbrev pub AreLowered : List Choice → List Choice → Type 0
AreLowered choices lowest = (p : ℕ) → p < length choices → choice_at lowest p ≡ as_zero (choice_at choices p)

pub lowered_sites : (choices lowest : List Choice) (opened : List ℕ) → length lowest ≡ length choices → AreLowered choices lowest
    → AreOpenSites choices opened → AreOpenSites lowest opened
lowered_sites choices lowest opened count each listed =
    listed
    ∙ rising_same (open_at choices) (open_at lowest) (length choices) (λ p l. sym (ap is_open (each p l) ∙ lowered_open (choice_at choices p)))
    ∙ ap (rising_sites (open_at lowest)) (sym count)

same_rank : (choices lowest : List Choice) (p : ℕ) → AreLowered choices lowest → p < length choices → open_rank lowest p ≡ open_rank choices p
same_rank choices lowest p each l =
    sum_below-same p (λ q. openness (choice_at lowest q)) (λ q. openness (choice_at choices q))
    (λ q k. ap openness (each q (omega (arith, k, l))) ∙ lowered_rank (choice_at choices q))

lowest_is : (choices lowest : List Choice) (bits : List Bool) (p : ℕ) → AreLowered choices lowest → p < length choices
    → value_of lowest bits p ≡ lowest_value choices bits p
lowest_is choices lowest bits p each l =
    ap (λ (c : Choice). bit_of c (assignment bits (open_rank lowest p))) (each p l)
    ∙ ap (λ k. bit_of (as_zero (choice_at choices p)) (assignment bits k)) (same_rank choices lowest p each l)

one_or : (b : Bool) → (b ≡ true) ⊎ (b ≡ false)
one_or true = inl refl
one_or false = inr refl

both_not : (b : Bool) → b ≡ true → b ≡ false → ⊥
both_not b h k = (let e = sym h ∙ k in cc (e))

pub two_bounds : (m : Instance) (move : Move) (f : ℕ → ℕ) (choices lowest : List Choice) (lower upper : List Bool) → IsInstance m → IsAllowed m move f
    → m.sites ≡ length choices → AreLowered choices lowest → IsStageLeast m move f lowest lower
    → AreLeastZeros m.sites (move_value m move f) (λ p. choice_of (value_of choices upper p))
    → AreLeastBetween m.sites (move_value m move f) (lowest_value choices lower) (value_of choices upper)
two_bounds m move f choices lowest lower upper pairs allowed size each stage zeros = record {
  below = λ s best p l one.
      let k : p < length choices = omega (arith, l, size) in
      zeros_bound m.sites (move_value m move f) (choice_at lowest) s stage.values (move_falls m move f pairs allowed) (move_over m move f pairs) best.least
      (λ q lq is. absurd (lowered_one (choice_at choices q) (sym (each q (omega (arith, lq, size))) ∙ is))) stage.least p l
      (stage.shown p ∙ lowest_is choices lowest lower p each k ∙ one);
  above = λ s best p l one. elim (one_or (value_of choices upper p)) [
    | inl has ↦ has
    | inr lacks ↦ absurd (both_not (s p) one (zeros s best p l (ap choice_of lacks)))
  ];
}

-- ---- the sites that may turn

turn_by : (c : Choice) (bit lower upper kept : Bool) → (c ≡ Open → bit ≡ may_turn kept lower upper) → (c ≡ Zero → kept ≡ false)
    → bit_of c bit ≡ may_turn kept (bit_of (as_zero c) lower) (bit_of c upper)
turn_by Open bit lower upper kept opened other = opened refl
turn_by Zero bit lower upper kept opened other = sym (ap (λ k. may_turn k false false) (other refl))
turn_by One bit lower upper true opened other = refl
turn_by One bit lower upper false opened other = refl

pub turning_is : (choices : List Choice) (opened : List ℕ) (lower upper turning : List Bool) (b p : ℕ) (f : ℕ → ℕ) → AreOpenSites choices opened
    → ((k : ℕ) → k < length opened → assignment turning k ≡ may_turn (kept_values b f (slice_index opened k)) (assignment lower k) (assignment upper k))
    → p < length choices → (choice_at choices p ≡ Zero → kept_values b f p ≡ false) → open_rank choices p < length opened ⊎ (choice_at choices p ≢ Open)
    → value_of choices turning p ≡ may_turn_at b f (lowest_value choices lower) (value_of choices upper) p
turning_is choices opened lower upper turning b p f listed each l other way =
    let k = open_rank choices p in
    turn_by (choice_at choices p) (assignment turning k) (assignment lower k) (assignment upper k) (kept_values b f p)
    (λ is. elim way [
      | inl within ↦ each k within ∙ ap (λ q. may_turn (kept_values b f q) (assignment lower k) (assignment upper k)) (opened_place choices opened p listed l is)
      | inr closed ↦ absurd (closed is)
    ]) other

pub closed_as : (pairs : PairList) (t u : ℕ → Bool) (choice : ℕ → Choice) (taken fresh : ℕ → Bool) → IsPairList pairs
    → ((p : ℕ) → p < pairs.sites → t p ≡ u p) → IsClosedIn pairs t choice taken fresh → IsClosedIn pairs u choice taken fresh
closed_as pairs t u choice taken fresh are same closed = record {
  within = λ p l one. sym (same p l) ∙ closed.within p l one;
  apart = λ a f i d li.
      let pair : Pair = get_or pairs.list i d in
      let ends : IsPair pairs.sites pair = are.each i d li in
      let sep = closed.apart a f i d li in (
        (λ one takes may. sep.0 one (same pair.second ends.second ∙ takes) may),
        (λ one takes may. sep.1 one (same pair.first ends.first ∙ takes) may),
      );
  holds_fresh = λ p l marked one. closed.holds_fresh p l marked (same p l ∙ one);
  left_open = closed.left_open;
}

-- no pair leads from a closed set
zero_not_one : ◌≢◌ {A = ℕ} 0 1
zero_not_one = λ e. omega (arith, e)

pub closed_at_pairs : (pairs : PairList) (t : ℕ → Bool) (choice : ℕ → Choice) (taken fresh : ℕ → Bool) → IsClosedIn pairs t choice taken fresh
    → All (IsClosedAt t taken) pairs.list
closed_at_pairs pairs t choice taken fresh closed i d li =
    let sep = closed.apart 1 (λ q. 0) i d li in (
      (λ one takes. sep.0 one takes zero_not_one),
      (λ one takes. sep.1 one takes zero_not_one),
    )

-- ---- what is settled

pub lower_open : (choices : List Choice) (bits : List Bool) (numbers : List ℕ) (p : ℕ) → IsNumbering choices numbers → p < length choices → choice_at choices p ≡ Open
    → lowest_value choices bits p ≡ assignment bits (labelling numbers p)
lower_open choices bits numbers p numbering l is =
    ap (λ (c : Choice). bit_of (as_zero c) (assignment bits (open_rank choices p))) is ∙ ap (assignment bits) (sym (numbering.each p l is))

pub upper_open : (choices : List Choice) (bits : List Bool) (numbers : List ℕ) (p : ℕ) → IsNumbering choices numbers → p < length choices → choice_at choices p ≡ Open
    → value_of choices bits p ≡ assignment bits (labelling numbers p)
upper_open choices bits numbers p numbering l is =
    ap (λ (c : Choice). bit_of c (assignment bits (open_rank choices p))) is ∙ ap (assignment bits) (sym (numbering.each p l is))

bit_choice : (b : Bool) → bit_of (choice_of b) false ≡ b
bit_choice true = refl
bit_choice false = refl

pub valued : (choices : List Choice) (p : ℕ) (b : Bool) → choice_at choices p ≡ choice_of b → values_in choices p ≡ b
valued choices p b is = ap (λ (c : Choice). bit_of c false) is ∙ bit_choice b

-- of each site the choice is told, or it is what it was
abbrev pub IsToldOr : List Choice → ℕ → Choice → Choice → Type 0
IsToldOr choices p told was = (choice_at choices p ≡ told) ⊎ (choice_at choices p ≡ was)

pub told_or_more : (now : List Choice) (site p : ℕ) (v : Choice) (told was : ℕ → Choice) → site < length now → v ≡ told site
    → IsToldOr now p (told p) (was p) → IsToldOr (slice_set now site v) p (told p) (was p)
told_or_more now site p v told was within is before = elim (cases_eq p site) [
  | inl same ↦ inl (ap (choice_at (slice_set now site v)) same ∙ set_here now site v within ∙ is ∙ ap told (sym same))
  | inr other ↦ elim before [
    | inl one ↦ inl (set_there now site p v other ∙ one)
    | inr two ↦ inr (set_there now site p v other ∙ two)
  ]
]

pub told_done : (now : List Choice) (site p : ℕ) (v : Choice) (told : ℕ → Choice) → site < length now → v ≡ told site
    → choice_at now p ≡ told p → choice_at (slice_set now site v) p ≡ told p
told_done now site p v told within is before = elim (cases_eq p site) [
  | inl same ↦ ap (choice_at (slice_set now site v)) same ∙ set_here now site v within ∙ is ∙ ap told (sym same)
  | inr other ↦ set_there now site p v other ∙ before
]

told_all : (now : List Choice) (sites : List ℕ) (told : ℕ → Choice) (p : ℕ) → Contains sites p
    → ((k : ℕ) → k < length sites → choice_at now (get_or sites k 0) ≡ told (get_or sites k 0)) → choice_at now p ≡ told p
told_all now sites told p listed done =
    let has = at_from_Contains sites p listed in
    let here : get_or sites has.0 0 ≡ p = has.2 0 in
    ap (choice_at now) (sym here) ∙ done has.0 has.1 ∙ ap told here

zero_or : (c : Choice) → (c ≡ Zero) ⊎ (c ≢ Zero)
zero_or Open = inr (λ e. cc (e))
zero_or Zero = inl refl
zero_or One = inr (λ e. cc (e))

pub kept_all : (old now : List Choice) (sites : List ℕ) (kept : ℕ → Bool) (p : ℕ) → (choice_at old p ≢ Zero → Contains sites p)
    → (choice_at old p ≡ Zero → kept p ≡ false)
    → ((k : ℕ) → k < length sites → choice_at now (get_or sites k 0) ≡ choice_of (kept (get_or sites k 0)))
    → IsToldOr now p (choice_of (kept p)) (choice_at old p) → choice_at now p ≡ choice_of (kept p)
kept_all old now sites kept p covers other done each = elim (zero_or (choice_at old p)) [
  | inl is ↦ elim each [
    | inl told ↦ told
    | inr was ↦ was ∙ is ∙ ap choice_of (sym (other is))
  ]
  | inr some ↦ told_all now sites (λ q. choice_of (kept q)) p (covers some) done
]

kept_if : (taken told kept : Bool) → taken ≡ false → cond taken told kept ≡ kept
kept_if true told kept none = absurd (cc (none))
kept_if false told kept none = refl

pub settled_all : (choices : List Choice) (numbers : List ℕ) (taken bits : List Bool) (b p : ℕ) (f : ℕ → ℕ) (opened : List ℕ)
    → (is_marked taken p ≡ true → Contains opened p)
    → ((k : ℕ) → k < length opened → choice_at choices (get_or opened k 0) ≡ choice_of (settled_value numbers taken bits b f (get_or opened k 0)))
    → IsToldOr choices p (choice_of (settled_value numbers taken bits b f p)) (choice_of (kept_values b f p))
    → choice_at choices p ≡ choice_of (settled_value numbers taken bits b f p)
settled_all choices numbers taken bits b p f opened listed done each = elim (one_or (is_marked taken p)) [
  | inl one ↦ told_all choices opened (λ q. choice_of (settled_value numbers taken bits b f q)) p (listed one) done
  | inr none ↦ elim each [
    | inl is ↦ is
    | inr keeps ↦ keeps ∙ ap choice_of (sym (kept_if (is_marked taken p) _ (kept_values b f p) none))
  ]
]

pub same_all : (numbers : List ℕ) (taken lower upper : List Bool) (p : ℕ) (opened : List ℕ) → Contains opened p
    → ((k : ℕ) → k < length opened → is_marked taken (get_or opened k 0) ≡ true → assignment lower (labelling numbers (get_or opened k 0)) ≡ assignment upper (labelling numbers (get_or opened k 0)))
    → is_marked taken p ≡ true → assignment lower (labelling numbers p) ≡ assignment upper (labelling numbers p)
same_all numbers taken lower upper p opened listed same one =
    let has = at_from_Contains opened p listed in
    let here : get_or opened has.0 0 ≡ p = has.2 0 in
    ap (λ q. assignment lower (labelling numbers q)) (sym here) ∙ same has.0 has.1 (ap (is_marked taken) here ∙ one) ∙ ap (λ q. assignment upper (labelling numbers q)) here

-- ---- all together

kept_unless : (taken told kept x : Bool) → x ≡ cond taken told kept → x ≢ kept → taken ≡ true
kept_unless true told kept x is other = refl
kept_unless false told kept x is other = absurd (other is)

pub turned_open : (choices : List Choice) (p : ℕ) (taken told kept x : Bool) → (taken ≡ true → choice_at choices p ≡ Open) → x ≡ cond taken told kept → x ≢ kept
    → open_at choices p ≡ true
turned_open choices p taken told kept x opened is other = open_true (choice_at choices p) (opened (kept_unless taken told kept x is other))

lower_if : (taken a c kept : Bool) → (taken ≡ true → a ≡ c) → cond taken a kept ≡ cond taken c kept
lower_if true a c kept same = same refl
lower_if false a c kept same = refl

pub settled_is : (choices : List Choice) (bits : List Bool) (numbers : List ℕ) (taken : List Bool) (b p : ℕ) (f : ℕ → ℕ) → IsNumbering choices numbers → p < length choices
    → (is_marked taken p ≡ true → choice_at choices p ≡ Open)
    → settled_value numbers taken bits b f p ≡ cond (is_marked taken p) (lowest_value choices bits p) (kept_values b f p)
settled_is choices bits numbers taken b p f numbering l opened =
    lower_if (is_marked taken p) _ _ _ (λ one. sym (lower_open choices bits numbers p numbering l (opened one)))

pub bounds_same : (choices : List Choice) (lower upper : List Bool) (numbers : List ℕ) (taken : List Bool) (p : ℕ) → IsNumbering choices numbers → p < length choices
    → choice_at choices p ≡ Open → assignment lower (labelling numbers p) ≡ assignment upper (labelling numbers p)
    → lowest_value choices lower p ≡ value_of choices upper p
bounds_same choices lower upper numbers taken p numbering l opened same =
    lower_open choices lower numbers p numbering l opened ∙ same ∙ sym (upper_open choices upper numbers p numbering l opened)
