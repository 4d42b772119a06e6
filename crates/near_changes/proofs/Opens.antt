-- Opening keeps what is at 0, and opens sites of a window alone.
use Rattle.std.proofs.Common.{◌≡◌, ◌↔◌, ◌⊎◌, ℕ, ◌<◌, ◌+◌, ◌≤◌, min, Bool, true, false, not, List, All, [], ◌∷◌, ◌++◌, subst, length, get_or, below_more, refl, sym, ap, ◌∙◌, inl, inr, arith}
use Rattle.std.specs.Prelude.{slice_index, slice_set}
use Rattle.std.specs.List.{Contains}
use Rattle.std.proofs.lemmas.List.Elements.{All-contains, All-get_or, All-from_get_or, Contains-append_left, Contains-push}
use Rattle.std.proofs.lemmas.Bool.{cases_eq, cases_lt}
use Rattle.std.proofs.lemmas.List.{length-set, get_or-set_same, get_or-set_other, get_or_past}
use Rattle.site_bounds.proofs.Skipping.{skipped}
use Rattle.move_energy.specs.BySite.{IsListing}
use Rattle.move_energy.specs.declared.choice.Choice.{Choice}
use Rattle.move_energy.specs.declared.choice.Choice.TheVariants.{Open, Zero, One}
use Rattle.move_energy.specs.Choices.{choice_at, choice_of, is_open, open_at, value_of, AreAssigned, AreOpenSites}
use Rattle.near_changes.specs.declared.opening.Window.{Window}
use Rattle.near_changes.specs.Working.{KeepsZeros, OpensWithin, LieWithin, WasLookedAt, AreLookedAt}

pub keeps_same : (choices : List Choice) → KeepsZeros choices choices
keeps_same choices = record { count = refl; each = λ p l. ((λ zero. zero), (λ zero. zero)) }

pub keeps_then : (first now new : List Choice) → KeepsZeros first now → KeepsZeros now new → KeepsZeros first new
keeps_then first now new one two = record {
  count = two.count ∙ one.count;
  each = λ p l.
      let later = two.each p (omega (arith, l, one.count)) in
      let before = one.each p l in
      ((λ zero. before.0 (later.0 zero)), (λ zero. later.1 (before.1 zero)));
}

-- a site that was not looked at is opened
pub keeps_opened : (site : ℕ) (old new : List Choice) → site < length old → choice_at old site ≡ One → new ≡ slice_set old site Open → KeepsZeros old new
keeps_opened site old new l was is = record {
  count = ap (λ (xs : List Choice). length xs) is ∙ length-set old site Open;
  each = λ p k. elim (cases_eq p site) [
    | inl same ↦
        let here : choice_at new p ≡ Open = ap (λ (xs : List Choice). choice_at xs p) is ∙ ap (choice_at (slice_set old site Open)) same ∙ get_or-set_same old site Open Zero l in
        let before : choice_at old p ≡ One = ap (choice_at old) same ∙ was in (
          (λ zero. (let e = sym here ∙ zero in absurd (cc (e)))),
          (λ zero. (let e = sym before ∙ zero in absurd (cc (e)))),
        )
    | inr other ↦
        let here : choice_at new p ≡ choice_at old p = ap (λ (xs : List Choice). choice_at xs p) is ∙ get_or-set_other old site p Open Zero other in
        ((λ zero. sym here ∙ zero), (λ zero. here ∙ zero))
  ];
}

-- ---- a window

pub opens_same : (window : Window) (choices : List Choice) → OpensWithin window choices choices
opens_same window choices = record { zeros = keeps_same choices; within = λ before. before; looked = λ p was. was }

pub opens_then : (window : Window) (first now new : List Choice) → OpensWithin window first now → OpensWithin window now new → OpensWithin window first new
opens_then window first now new one two = record {
  zeros = keeps_then first now new one.zeros two.zeros;
  within = λ before. two.within (one.within before);
  looked = λ p was. two.looked p (one.looked p was);
}

-- a site of the window that was not looked at is opened
pub opens_one : (window : Window) (site : ℕ) (old new : List Choice) → site < length old → choice_at old site ≡ One → window.from ≤ site → site < window.to
    → new ≡ slice_set old site Open → OpensWithin window old new
opens_one window site old new l was above below is = record {
  zeros = keeps_opened site old new l was is;
  within = λ before p opened. elim (cases_eq p site) [
    | inl same ↦ (omega (arith, same, above), omega (arith, same, below))
    | inr other ↦
        let here : choice_at old p ≡ choice_at new p = sym (ap (λ (xs : List Choice). choice_at xs p) is ∙ get_or-set_other old site p Open Zero other) in
        before p (ap is_open here ∙ opened)
  ];
  looked = λ p before one. elim (cases_eq p site) [
    | inl same ↦
        let here : choice_at new p ≡ Open = ap (λ (xs : List Choice). choice_at xs p) is ∙ ap (choice_at (slice_set old site Open)) same ∙ get_or-set_same old site Open Zero l in
        (let e = sym here ∙ one in cc (e))
    | inr other ↦
        let here : choice_at old p ≡ choice_at new p = sym (ap (λ (xs : List Choice). choice_at xs p) is ∙ get_or-set_other old site p Open Zero other) in
        before (here ∙ one)
  ];
}

-- each of the first i sites that is of the window was looked at
abbrev pub AreFirstLookedAt : Window → List ℕ → ℕ → List Choice → Type 0
AreFirstLookedAt window sites i choices =
    (k : ℕ) → k < i → window.from ≤ slice_index sites k → slice_index sites k < window.to → WasLookedAt choices (slice_index sites k)

pub looked_more : (window : Window) (sites : List ℕ) (i : ℕ) (now new : List Choice) → AreFirstLookedAt window sites i now → OpensWithin window now new
    → (window.from ≤ slice_index sites i → slice_index sites i < window.to → WasLookedAt new (slice_index sites i)) → AreFirstLookedAt window sites (i + 1) new
looked_more window sites i now new before opened here =
    below_more (λ k. window.from ≤ slice_index sites k → slice_index sites k < window.to → WasLookedAt new (slice_index sites k)) i
    (λ k l above below. opened.looked (slice_index sites k) (before k l above below)) here

pub looked_all : (window : Window) (sites : List ℕ) (i : ℕ) (choices : List Choice) → length sites ≤ i → AreFirstLookedAt window sites i choices → AreLookedAt window sites choices
looked_all window sites i choices all each =
    All-from_get_or (λ p. window.from ≤ p → p < window.to → WasLookedAt choices p) sites 0 (λ k l. each k (omega (arith, l, all)))

-- each of the first i sites was looked at, or is listed
abbrev pub AreFirstListed : List Choice → List ℕ → ℕ → List ℕ → Type 0
AreFirstListed choices sites i listed = (k : ℕ) → k < i → WasLookedAt choices (slice_index sites k) ⊎ Contains listed (slice_index sites k)

pub listed_more : (choices : List Choice) (sites : List ℕ) (i : ℕ) (listed new more : List ℕ) → new ≡ listed ++ more → AreFirstListed choices sites i listed
    → WasLookedAt choices (slice_index sites i) ⊎ Contains new (slice_index sites i) → AreFirstListed choices sites (i + 1) new
listed_more choices sites i listed new more is before here =
    below_more (λ k. WasLookedAt choices (slice_index sites k) ⊎ Contains new (slice_index sites k)) i
    (λ k l. elim (before k l) [
      | inl was ↦ inl was
      | inr has ↦ inr (subst (λ (xs : List ℕ). Contains xs (slice_index sites k)) (sym is) (Contains-append_left listed more (slice_index sites k) has))
    ]) here

pub listed_here : (listed : List ℕ) (site : ℕ) (new : List ℕ) → new ≡ listed ++ site ∷ [] → Contains new site
listed_here listed site new is = subst (λ (xs : List ℕ). Contains xs site) (sym is) (Contains-push listed site)

-- what is listed and opened, or was looked at before
pub looked_listed : (window : Window) (sites listed : List ℕ) (first now new : List Choice) → All (λ p. WasLookedAt first p ⊎ Contains listed p) sites
    → OpensWithin window first now → AreLookedAt window listed now → OpensWithin window now new → AreLookedAt window sites new
looked_listed window sites listed first now new each opened looked later =
    All-from_get_or (λ p. window.from ≤ p → p < window.to → WasLookedAt new p) sites 0 (λ k l above below.
    later.looked (get_or sites k 0) (elim (All-get_or (λ p. WasLookedAt first p ⊎ Contains listed p) sites k 0 l each) [
      | inl was ↦ opened.looked (get_or sites k 0) was
      | inr has ↦ All-contains (λ p. window.from ≤ p → p < window.to → WasLookedAt now p) listed (get_or sites k 0) looked has above below
    ]))

pub looked_later : (window : Window) (sites : List ℕ) (now new : List Choice) → AreLookedAt window sites now → OpensWithin window now new → AreLookedAt window sites new
looked_later window sites now new looked opened =
    All-from_get_or (λ p. window.from ≤ p → p < window.to → WasLookedAt new p) sites 0 (λ k l above below.
    opened.looked (get_or sites k 0) (All-get_or (λ p. window.from ≤ p → p < window.to → WasLookedAt now p) sites k 0 l looked above below))

-- all sites are of the window
pub looked_whole : (window : Window) (n : ℕ) (sites : List ℕ) (choices : List Choice) → window.from ≡ 0 → window.to ≡ n → All (λ p. p < n) sites
    → AreLookedAt window sites choices → All (λ p. WasLookedAt choices p) sites
looked_whole window n sites choices first last inside looked =
    All-from_get_or (λ p. WasLookedAt choices p) sites 0 (λ k l.
    All-get_or (λ p. window.from ≤ p → p < window.to → WasLookedAt choices p) sites k 0 l looked (omega (arith, first))
    (omega (arith, last, All-get_or (λ p. p < n) sites k 0 l inside)))

shut_bit : (b : Bool) → is_open (choice_of b) ≡ true → ⊥
shut_bit true opened = cc (opened)
shut_bit false opened = cc (opened)

-- once each site has its value, none is open
pub assigned_within : (window : Window) (old : List Choice) (bits : List Bool) (new : List Choice) → AreAssigned old bits new → LieWithin window new
assigned_within window old bits new assigned p opened = elim (cases_lt p (length old)) [
  | inl l ↦ absurd (shut_bit (value_of old bits p) (ap is_open (sym (assigned.each p l)) ∙ opened))
  | inr past ↦ absurd (let e = sym opened ∙ ap is_open (get_or_past new p Zero (omega (arith, past, assigned.count))) in cc (e))
]

-- all sites are a window
pub all_within : (window : Window) (choices : List Choice) → window.from ≡ 0 → window.to ≡ length choices → LieWithin window choices
all_within window choices first last p opened = elim (cases_lt p (length choices)) [
  | inl l ↦ (omega (arith, first), omega (arith, last, l))
  | inr past ↦ absurd (let e = sym opened ∙ ap is_open (get_or_past choices p Zero (omega (arith, past))) in cc (e))
]

not_open : (b : Bool) → (b ≡ true → ⊥) → b ≡ false
not_open true none = absurd (none refl)
not_open false none = refl

-- before the window no site is open
pub none_before : (window : Window) (choices : List Choice) (n : ℕ) → LieWithin window choices → n ≤ window.from → IsListing (open_at choices) n []
none_before window choices n within l = skipped (open_at choices) 0 n [] (omega (arith))
    (λ p from below. not_open (open_at choices p) (λ opened. absurd (let at = within p opened in omega (arith, at.0, below, l)))) refl

-- the lesser of two numbers is one of them
pub lesser_ends : (n to end : ℕ) → end ≡ min n to → (to ≤ end) ⊎ (n ≤ end)
lesser_ends n to end is = elim (cases_lt n to) [
  | inl less ↦ inr (omega (arith, is, less))
  | inr other ↦ inl (omega (arith, is, other))
]

-- and behind it none is
pub none_behind : (window : Window) (choices : List Choice) (end : ℕ) (sites : List ℕ) → LieWithin window choices → end ≤ length choices
    → (window.to ≤ end) ⊎ (length choices ≤ end) → IsListing (open_at choices) end sites → AreOpenSites choices sites
none_behind window choices end sites within l all listed = skipped (open_at choices) end (length choices) sites l
    (λ p from below. not_open (open_at choices p) (λ opened. elim all [
      | inl to ↦ absurd (let at = within p opened in omega (arith, at.1, from, to))
      | inr last ↦ absurd (omega (arith, from, below, last))
    ])) listed

-- ---- what the cut showed

told_zero : (b : Bool) → choice_of b ≡ Zero ↔ b ≡ false
told_zero true = ((λ e. absurd (cc (e))), (λ e. absurd (cc (e))))
told_zero false = ((λ e. refl), (λ e. refl))

pub assigned_zeros : (old : List Choice) (bits : List Bool) (now new : List Choice) → AreAssigned old bits now → KeepsZeros now new
    → (p : ℕ) → p < length old → choice_at new p ≡ Zero ↔ value_of old bits p ≡ false
assigned_zeros old bits now new assigned keeps p l =
    let told = told_zero (value_of old bits p) in
    let kept = keeps.each p (omega (arith, l, assigned.count)) in
    let is = assigned.each p l in
    ((λ zero. told.0 (sym is ∙ kept.0 zero)), (λ none. kept.1 (is ∙ told.1 none)))

-- ---- before the first stage

not_zero : (b : Bool) → choice_of (not b) ≡ Zero ↔ b ≡ true
not_zero true = ((λ e. refl), (λ e. refl))
not_zero false = ((λ e. absurd (cc (e))), (λ e. absurd (cc (e))))
