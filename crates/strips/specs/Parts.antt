-- Closing in by parts of the sites, each by numbers alone.
use Rattle.std.specs.Prelude.{◌≡◌, ◌≢◌, ◌==◌, ℕ, ◌+◌, ◌-◌, ◌*◌, ◌<◌, ◌≤◌, Bool, cond, min}
use Rattle.std.specs.Prelude.{List, length, slice_index_or, ℤ, Result, IfOk}
use Rattle.std.specs.Global.{Vec}
use Rattle.std.specs.Int.{div_ceil}
use Rattle.label_energies.specs.declared.change.Move.{Move}
use Rattle.label_energies.specs.Energies.{Instance, IsInstance, labelling}
use Rattle.move_energy.specs.declared.choice.Choice.{Choice}
use Rattle.move_energy.specs.declared.choice.Choice.TheVariants.{Open, Zero, One}
use Rattle.move_energy.specs.Choices.{choice_at}
use Rattle.site_bounds.specs.Decisions.{Passes}
use Rattle.move_energy.specs.MoveValues.{move_value}
use Rattle.site_forms.specs.declared.numbers.SiteForm.{SiteForm}
use Rattle.site_bounds.specs.Parts.{ArePassedChoices}
use Rattle.site_forms.specs.Numbers.{IsFormOf, WhereRead}
use Rattle.persistency.specs.Agreeing.{Agree, choices_or}
use Rattle.persistency.specs.Borders.{is_inside, range_of}
use Rattle.persistency.specs.Strips.{Strip, IsStripBounded, told_by}
use Rattle.strip_nets.specs.Views.{KeepsChosen}

-- the code of what is known of a site: 1 for the value 0, 2 for the value 1, and others for nothing
abbrev pub choice_of_code : ℕ → Choice
choice_of_code code = cond (code == 1) Zero (cond (code == 2) One Open)

-- what a code of a list tells
abbrev pub coded_at : List ℕ → ℕ → Choice
coded_at codes k = choice_of_code (slice_index_or codes k 0)

-- what was known, and else what is told
abbrev pub known_or : Choice → Choice → Choice
known_or Open told = told
known_or Zero told = Zero
known_or One told = One

-- where the parts of n sites begin, each of so many of them
abbrev pub part_start : ℕ → ℕ → ℕ → ℕ
part_start n size i = min (i * size) n

-- the codes tell of the sites from one on, before another, what choices have there that agree
pub record ArePartCodes (n : ℕ) (E : (ℕ → Bool) → ℤ) (from to : ℕ) (codes : List ℕ) : Type 0 where
  pub known : List Choice
  pub agree : Agree n E (choice_at known)
  pub inside : (k : ℕ) → k < to - from → coded_at codes k ≡ choice_at known (from + k)

-- the sites from one on, before another, end with a strip of all of them that were open before it,
-- where what was known at the start was known too: what stays open there is what both bounds of
-- that strip leave open
pub record EndsWithStrip (m : Instance) (move : Move) (f : ℕ → ℕ) (start : List Choice)
    (from to : ℕ) (now : ℕ → Choice) : Type 0 where
  pub before : List Choice
  pub count : length before ≡ length start
  pub kept : KeepsChosen start before
  pub agree : Agree m.sites (move_value m move f) (choice_at before)
  pub strip : Strip
  pub whole : (p : ℕ) → strip.set p ≡ is_inside (choice_at before) (range_of from to) p
  pub bounded : IsStripBounded m.sites (move_value m move f) (choice_at before) strip
  pub tells : (p : ℕ) → from ≤ p → p < to → now p ≡ choices_or (choice_at before) (told_by strip) p

-- the answer of a part that was closed in by numbers alone: what was known before stays, each site
-- that passed the test by that is decided, what is told agrees, and the part ends with a strip
pub record IsPartClosed (form : SiteForm) (before : List Choice) (from to : ℕ)
    (codes : List ℕ) : Type 0 where
  pub count : length codes ≡ to - from
  pub kept : (k : ℕ) → k < to - from → choice_at before (from + k) ≢ Open
      → coded_at codes k ≡ choice_at before (from + k)
  pub told : WhereRead form (λ m move f. IsInstance m
      → ArePassedChoices m move f (choice_at before)
      → ArePartCodes m.sites (move_value m move f) from to codes)
  pub tried : (m : Instance) (move : Move) (k : ℕ) (b : Bool) → IsFormOf m move form
      → (ds : ArePassedChoices m move (labelling form.at.now) (choice_at before)) → k < to - from
      → Passes (move_value m move (labelling form.at.now)) ds.decisions (from + k) b
      → coded_at codes k ≢ Open
  pub ends : WhereRead form (λ m move f. IsInstance m
      → ArePassedChoices m move f (choice_at before)
      → EndsWithStrip m move f before from to (λ p. coded_at codes (p - from)))

-- the answer of part i, where each part has so many sites
abbrev pub IsPartAnswer : SiteForm → List Choice → ℕ → ℕ → List ℕ → Type 0
IsPartAnswer form before size i codes = IsPartClosed form before
    (part_start (length form.at.now) size i)
    (part_start (length form.at.now) size (i + 1)) codes

-- this holds of the codes of each part that was not refused memory
abbrev pub OfParts : {E : Type 0} → (ℕ → List ℕ → Type 0) → List (Result (Vec ℕ) E) → Type 0
OfParts P parts =
    (i : ℕ) (part : _) → i < length parts
    → IfOk (slice_index_or parts i part) (λ codes. P i codes.items)

-- each site whose value could be told by what was known before is decided
abbrev pub DecidesTold : SiteForm → List Choice → List Choice → Type 0
DecidesTold form before now = (m : Instance) (move : Move) (p : ℕ) (b : Bool)
    → IsFormOf m move form
    → (ds : ArePassedChoices m move (labelling form.at.now) (choice_at before))
    → p < length form.at.now
    → Passes (move_value m move (labelling form.at.now)) ds.decisions p b
    → choice_at now p ≢ Open

-- each of so many parts, which are of one size, ends with a strip
abbrev pub PartsEndWithStrips : Instance → Move → (ℕ → ℕ) → List Choice → ℕ → (ℕ → Choice)
    → Type 0
PartsEndWithStrips m move f start count now = (i : ℕ) → i < count
    → EndsWithStrip m move f start
    (part_start (length start) (div_ceil (length start) count) i)
    (part_start (length start) (div_ceil (length start) count) (i + 1)) now

-- the codes of part i fill its range
abbrev pub FillsPart : ℕ → ℕ → ℕ → List ℕ → Type 0
FillsPart n size i codes = length codes ≡ part_start n size (i + 1) - part_start n size i

-- at the open sites of part i stands what its codes tell
abbrev pub IsPartJoined : ℕ → List Choice → List Choice → ℕ → List ℕ → Type 0
IsPartJoined size old new i codes =
    (k : ℕ) → k < length codes → choice_at new (part_start (length old) size i + k)
    ≡ known_or (choice_at old (part_start (length old) size i + k)) (coded_at codes k)
