-- A range of sites told: what was chosen stays, and the sites that are left open are listed.
use Rattle.std.proofs.Common.{◌≡◌, ◌≢◌, ◌<◌, ◌≤◌, ℕ, ℤ, List, Bool, true, false, length, Result, Ok, Err, refl, sym, ap, ◌∙◌, inl, inr, arith}
use Rattle.std.specs.Prelude.{OnOk, filter}
use Rattle.std.proofs.lemmas.Bool.{cases_lt}
use Rattle.std.proofs.lemmas.List.{get_or_past}
use Rattle.label_energies.specs.declared.change.Move.{Move}
use Rattle.label_energies.specs.Energies.{Instance, IsInstance}
use Rattle.label_energies.specs.Moves.{IsAllowed}
use Rattle.plain_cut.specs.declared.both.BothSides.{BothSides}
use Rattle.move_energy.specs.declared.choice.Choice.{Choice}
use Rattle.move_energy.specs.declared.choice.Choice.TheVariants.{Open, Zero, One}
use Rattle.move_energy.specs.BySite.{rising_sites}
use Rattle.move_energy.specs.Choices.{choice_at, is_open, open_at, AreOpenSites}
use Rattle.move_energy.specs.MoveValues.{move_value}
use Rattle.move_energy.proofs.Rising.{move_falls, move_over}
use Rattle.persistency.specs.Agreeing.{Agree, or_else, choices_or}
use Rattle.persistency.specs.Borders.{is_inside, range_of}
use Rattle.persistency.specs.Strips.{Strip, told_by, IsStripBounded}
use Rattle.persistency.specs.Telling.{IsStripListed}
use Rattle.persistency.proofs.Strips.{strip_agrees}
use Rattle.strip_nets.specs.Sides.{AreBounds}
use Rattle.strip_nets.specs.Views.{KeepsChosen, strip_view}
use Rattle.strip_nets.proofs.Views.{inside_is, view_length, open_is, seen_in, open_inside, inside_open}
use Rattle.strip_nets.proofs.Bounding.{strip_of, strip_listed}
use Rattle.strips.specs.Parts.{EndsWithStrip}
use Rattle.strips.specs.Telling.{IsAsTold}
use Rattle.strips.proofs.Listing.{listing_left}

-- ---- what a strip tells, written into the choices

else_kept : (c d : Choice) → c ≢ Open → or_else c d ≡ c
else_kept Open d other = absurd (other refl)
else_kept Zero d other = refl
else_kept One d other = refl

open_first : (c d : Choice) → is_open (or_else c d) ≡ true → is_open c ≡ true
open_first Open d h = refl
open_first Zero d h = absurd (cc (h))
open_first One d h = absurd (cc (h))

-- what was chosen stays
pub told_goes_on : (start known new : List Choice) (tells : ℕ → Choice) → length new ≡ length known → KeepsChosen start known
    → ((p : ℕ) → p < length known → choice_at new p ≡ choices_or (choice_at known) tells p) → KeepsChosen start new
told_goes_on start known new tells count on each p inside shuts =
    let l : p < length known = omega (arith, inside, count) in
    let was = on p l shuts in
    each p l ∙ else_kept (choice_at known p) (tells p) (λ o. shuts (sym was ∙ o)) ∙ was

-- the listed sites that are still open are those of the range
pub told_left : (known new : List Choice) (from to : ℕ) (opened : List ℕ) (tells : ℕ → Choice) → length new ≡ length known
    → ((p : ℕ) → p < length known → choice_at new p ≡ choices_or (choice_at known) tells p)
    → AreOpenSites (strip_view known from to) opened → AreOpenSites (strip_view new from to) (filter (open_at new) opened)
told_left known new from to opened tells count each listed =
    let v = strip_view known from to in
    let w = strip_view new from to in
    ap (filter (open_at new)) listed
    ∙ listing_left (open_at v) (open_at w) (open_at new) (length v)
    (λ p l is.
    let both = open_inside new from to p is in
    inside_open known from to p both.0
    (open_first (choice_at known p) (tells p) (sym (ap is_open (each p (omega (arith, l, view_length known from to)))) ∙ both.1)))
    (λ p l is. sym (open_is new from to p ∙ ap is_open (seen_in new from to p (open_inside known from to p is).0)))
    ∙ ap (rising_sites (open_at w)) (view_length known from to ∙ sym count ∙ sym (view_length new from to))

agree_below : (n : ℕ) (E : (ℕ → Bool) → ℤ) (old new : ℕ → Choice) → ((p : ℕ) → p < n → new p ≡ old p) → Agree n E old → Agree n E new
agree_below n E old new same agree = record {
  zeros = λ s least p l is. agree.zeros s least p l (sym (same p l) ∙ is);
  ones = λ s least p l is. agree.ones s least p l (sym (same p l) ∙ is);
}

pub told_agree : (m : Instance) (move : Move) (f : ℕ → ℕ) (known new : List Choice) (strip : Strip) → IsInstance m → IsAllowed m move f → length known ≡ m.sites
    → ((p : ℕ) → p < length known → choice_at new p ≡ choices_or (choice_at known) (told_by strip) p)
    → IsStripBounded m.sites (move_value m move f) (choice_at known) strip → Agree m.sites (move_value m move f) (choice_at known) → Agree m.sites (move_value m move f) (choice_at new)
told_agree m move f known new strip pairs allowed size each bounded agree =
    agree_below m.sites (move_value m move f) (choices_or (choice_at known) (told_by strip)) (choice_at new) (λ p l. each p (omega (arith, l, size)))
    (strip_agrees m.sites (move_value m move f) (choice_at known) strip (move_falls m move f pairs allowed) (move_over m move f pairs) agree bounded)

-- ---- what both sides of a strip tell of a range

-- each listed site that is open has what the sides tell
pub record HasTold (known new : List Choice) (opened : List ℕ) (lower upper : List Bool) : Type 0 where
  pub count : length new ≡ length known
  pub each : (strip : Strip) → IsStripListed opened lower upper strip → (p : ℕ) → p < length known → choice_at new p ≡ choices_or (choice_at known) (told_by strip) p

pub told_keeps : (start known new : List Choice) (from to : ℕ) (opened : List ℕ) (lower upper : List Bool) → HasTold known new opened lower upper
    → AreOpenSites (strip_view known from to) opened → KeepsChosen start known → KeepsChosen start new
told_keeps start known new from to opened lower upper has listed on =
    told_goes_on start known new (told_by (strip_of known from to lower upper)) has.count on
    (has.each (strip_of known from to lower upper) (strip_listed known from to opened lower upper listed))

pub told_opened : (known new : List Choice) (from to : ℕ) (opened : List ℕ) (lower upper : List Bool) → HasTold known new opened lower upper
    → AreOpenSites (strip_view known from to) opened → AreOpenSites (strip_view new from to) (filter (open_at new) opened)
told_opened known new from to opened lower upper has listed =
    told_left known new from to opened (told_by (strip_of known from to lower upper)) has.count
    (has.each (strip_of known from to lower upper) (strip_listed known from to opened lower upper listed)) listed

-- what two sides tell of a range that agreed agrees
pub told_right : (m : Instance) (move : Move) (f : ℕ → ℕ) (known new : List Choice) (opened : List ℕ) (sides : BothSides) → IsInstance m → IsAllowed m move f → length known ≡ m.sites
    → IsAsTold known new opened sides → AreBounds m move f known opened sides → Agree m.sites (move_value m move f) (choice_at known) → Agree m.sites (move_value m move f) (choice_at new)
told_right m move f known new opened sides pairs allowed size told bounds agree =
    told_agree m move f known new bounds.0 pairs allowed size (told bounds.0 bounds.1) bounds.2 agree

-- ---- the strip that a range ends with

bool_same : (a b : Bool) → (a ≡ true → b ≡ true) → (b ≡ true → a ≡ true) → a ≡ b
bool_same true b f g = sym (f refl)
bool_same false true f g = g refl
bool_same false false f g = refl

strip_whole : (known : List Choice) (from to : ℕ) (opened : List ℕ) (lower upper : List Bool) (strip : Strip) → AreOpenSites (strip_view known from to) opened
    → IsStripListed opened lower upper strip → (p : ℕ) → strip.set p ≡ is_inside (choice_at known) (range_of from to) p
strip_whole known from to opened lower upper strip listed is p =
    let own = strip_listed known from to opened lower upper listed in
    bool_same (strip.set p) (open_at (strip_view known from to) p) (λ h. (own.set p).1 ((is.set p).0 h)) (λ h. (is.set p).1 ((own.set p).0 h))
    ∙ sym (inside_is known from to p)

told_past : (known new : List Choice) (tells : ℕ → Choice) (p : ℕ) → length new ≡ length known → length known ≤ p → choice_at new p ≡ choices_or (choice_at known) tells p
told_past known new tells p count past =
    get_or_past new p Zero (omega (arith, past, count)) ∙ sym (ap (λ (c : Choice). or_else c (tells p)) (get_or_past known p Zero past))

pub told_ends : (m : Instance) (move : Move) (f : ℕ → ℕ) (known new : List Choice) (from to : ℕ) (opened : List ℕ) (sides : BothSides) → length new ≡ length known
    → AreOpenSites (strip_view known from to) opened → IsAsTold known new opened sides → AreBounds m move f known opened sides
    → Agree m.sites (move_value m move f) (choice_at known) → EndsWithStrip m move f known from to (choice_at new)
told_ends m move f known new from to opened sides count listed told bounds agree = record {
  before = known;
  count = refl;
  kept = λ p l shuts. refl;
  agree = agree;
  strip = bounds.0;
  whole = strip_whole known from to opened sides.lower.items sides.upper.items bounds.0 listed bounds.1;
  bounded = bounds.2;
  tells = λ p above below. elim (cases_lt p (length known)) [
    | inl l ↦ told bounds.0 bounds.1 p l
    | inr past ↦ told_past known new (told_by bounds.0) p count past
  ];
}

pub on_ok : {A B : Type 0} (r : Result A B) (P : Type 0) → P → OnOk r P
on_ok (Ok a) P holds = holds
on_ok (Err e) P holds = tt

-- the same of what was known before that
pub ends_from : (m : Instance) (move : Move) (f : ℕ → ℕ) (start known : List Choice) (from to : ℕ) (now : ℕ → Choice) → length known ≡ length start → KeepsChosen start known
    → EndsWithStrip m move f known from to now → EndsWithStrip m move f start from to now
ends_from m move f start known from to now count keeps ends = record {
  before = ends.before;
  count = ends.count ∙ count;
  kept = λ p l shuts.
      let was = keeps p (omega (arith, l, ends.count)) shuts in
      ends.kept p l (λ o. shuts (sym was ∙ o)) ∙ was;
  agree = ends.agree;
  strip = ends.strip;
  whole = ends.whole;
  bounded = ends.bounded;
  tells = ends.tells;
}
