-- The numbers of the open sites of a strip, at places counted from its first site.
use Rattle.std.proofs.Common.{◌≡◌, ◌≢◌, ℕ, ◌+◌, ◌-◌, ◌<◌, ◌≤◌, true, List, All, length, get_or, sym, ap, ◌∙◌, inl, inr, arith}
use Rattle.std.specs.Prelude.{slice_index, slice_set}
use Rattle.std.proofs.lemmas.Bool.{cases_lt}
use Rattle.std.proofs.lemmas.List.{get_or-set_same, get_or-set_other}
use Rattle.std.proofs.lemmas.List.Elements.{All-from_get_or}
use Rattle.move_energy.specs.declared.choice.Choice.{Choice}
use Rattle.move_energy.specs.declared.choice.Choice.TheVariants.{Open}
use Rattle.move_energy.specs.Choices.{choice_at, open_rank, AreOpenSites, IsNumbering}
use Rattle.move_energy.proofs.Numbers.{rank_below}
use Rattle.move_energy.proofs.Opened.{opened_has, opened_place, opened_count, open_true}
use Rattle.persistency.specs.Borders.{range_of}
use Rattle.strip_nets.specs.declared.material.StripSites.{StripSites}
use Rattle.strip_nets.specs.Building.{IsStripNumbering}
use Rattle.strip_nets.specs.Views.{strip_view}
use Rattle.strip_nets.proofs.Views.{above_range, below_range, open_inside, whole_is, whole_rank}
use Rattle.strip_nets.proofs.Bounding.{inside_length}

-- ---- the sites of a range

range_from : (from to p : ℕ) → range_of from to p ≡ true → from ≤ p
range_from from to p h = elim (cases_lt p from) [
  | inl l ↦ absurd (let e = sym h ∙ below_range from to p l in cc (e))
  | inr after ↦ after
]

range_to : (from to p : ℕ) → range_of from to p ≡ true → p < to
range_to from to p h = elim (cases_lt p to) [
  | inl l ↦ l
  | inr past ↦ absurd (let e = sym h ∙ above_range from to p past in cc (e))
]

pub seen_from : (known : List Choice) (from to p : ℕ) → choice_at (strip_view known from to) p ≡ Open → from ≤ p
seen_from known from to p is = range_from from to p (open_inside known from to p (open_true (choice_at (strip_view known from to) p) is)).0

pub seen_to : (known : List Choice) (from to p : ℕ) → choice_at (strip_view known from to) p ≡ Open → p < to
seen_to known from to p is = range_to from to p (open_inside known from to p (open_true (choice_at (strip_view known from to) p) is)).0

pub listed_from : (known : List Choice) (from to : ℕ) (opened : List ℕ) → AreOpenSites (strip_view known from to) opened → All (λ site. from ≤ site) opened
listed_from known from to opened listed =
    All-from_get_or (λ site. from ≤ site) opened 0 (λ i l. seen_from known from to (get_or opened i 0) (opened_has (strip_view known from to) opened i listed l).1)

pub listed_to : (known : List Choice) (from to : ℕ) (opened : List ℕ) → AreOpenSites (strip_view known from to) opened → All (λ site. site < to) opened
listed_to known from to opened listed =
    All-from_get_or (λ site. site < to) opened 0 (λ i l. seen_to known from to (get_or opened i 0) (opened_has (strip_view known from to) opened i listed l).1)

-- ---- numbers

-- as IsStripNumbering, of the first i open sites
abbrev pub AreFirstNumbered : List Choice → ℕ → ℕ → List ℕ → ℕ → Type 0
AreFirstNumbered known from to numbers i = (p : ℕ) → choice_at (strip_view known from to) p ≡ Open → open_rank (strip_view known from to) p < i
    → get_or numbers (p - from) 0 ≡ open_rank (strip_view known from to) p

pub numbered_more : (known : List Choice) (from to : ℕ) (opened old new : List ℕ) (i site place : ℕ) → AreOpenSites (strip_view known from to) opened
    → i < length opened → site ≡ get_or opened i 0 → place ≡ site - from → to - from ≤ length old → new ≡ slice_set old place i
    → AreFirstNumbered known from to old i → AreFirstNumbered known from to new (i + 1)
numbered_more known from to opened old new i site place listed l read at room written below p is less =
    let v = strip_view known from to in
    let has = opened_has v opened i listed l in
    let mine : choice_at v site ≡ Open = ap (choice_at v) read ∙ has.1 in
    let after = seen_from known from to p is in
    let start = seen_from known from to site mine in
    let end = seen_to known from to site mine in
    let here = ap (λ (xs : List ℕ). get_or xs (p - from) 0) written in
    elim (cases_lt (open_rank v p) i) [
      | inl before ↦
          let apart : p - from ≢ place = λ e.
          let same : p ≡ site = omega (arith, e, at, after, start) in
          omega (arith, before, ap (open_rank v) same, ap (open_rank v) read, has.2) in
          here ∙ get_or-set_other old place (p - from) i 0 apart ∙ below p is before
      | inr not_before ↦
          let rank : open_rank v p ≡ i = omega (arith, less, not_before) in
          let same : site ≡ p =
          read ∙ ap (λ j. get_or opened j 0) (sym rank) ∙ opened_place v opened p listed (inside_length v p (open_true (choice_at v p) is)) is in
          let there : p - from ≡ place = omega (arith, same, at) in
          here ∙ ap (λ q. get_or (slice_set old place i) q 0) there ∙ get_or-set_same old place i 0 (omega (arith, at, room, start, end)) ∙ sym rank
    ]

pub numbered_all : (known : List Choice) (sites : StripSites) (opened numbers : List ℕ) (i : ℕ) → AreOpenSites (strip_view known sites.from sites.to) opened
    → length opened ≤ i → sites.to - sites.from ≤ length numbers → AreFirstNumbered known sites.from sites.to numbers i → IsStripNumbering known sites numbers
numbered_all known sites opened numbers i listed past room below =
    let v = strip_view known sites.from sites.to in
    record {
      count = room;
      each = λ p is. below p is
          (omega (arith, rank_below v p (length v) (inside_length v p (open_true (choice_at v p) is)) is, opened_count v opened listed, past));
    }

-- an open site has its place
pub place_inside : (known : List Choice) (sites : StripSites) (numbers : List ℕ) (p : ℕ) → IsStripNumbering known sites numbers
    → choice_at (strip_view known sites.from sites.to) p ≡ Open → p - sites.from < length numbers
place_inside known sites numbers p numbered is =
    omega (arith, numbered.count, seen_from known sites.from sites.to p is, seen_to known sites.from sites.to p is)

-- ---- the numbers of all open sites

pub numbers_whole : (known : List Choice) (to : ℕ) (numbers : List ℕ) → length known ≤ to → length numbers ≡ length known
    → ((p : ℕ) → choice_at (strip_view known 0 to) p ≡ Open → slice_index numbers (p - 0) ≡ open_rank (strip_view known 0 to) p) → IsNumbering known numbers
numbers_whole known to numbers all count each = record {
  count = count;
  each = λ p l opened.
      ap (slice_index numbers) (let e : p ≡ p - 0 = omega arith in e) ∙ each p (ap (λ (choice : ℕ → Choice). choice p) (whole_is known to all) ∙ opened) ∙ ap (λ (rank : ℕ → ℕ). rank p) (whole_rank known to all);
}
