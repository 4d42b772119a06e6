-- The open sites, where they are listed.
use Rattle.std.proofs.Common.{◌≡◌, ◌≢◌, ℕ, ◌+◌, ◌<◌, ◌≤◌, Bool, true, false, List, length, get_or, All, refl, sym, ap, ◌∙◌, inl, inr, arith}
use Rattle.std.specs.Prelude.{slice_set, ◌⊎◌}
use Rattle.std.proofs.lemmas.Bool.{cases_lt, cases_eq}
use Rattle.std.proofs.lemmas.List.{length-set, get_or-set_same, get_or-set_other}
use Rattle.std.proofs.lemmas.List.Elements.{All-from_get_or}
use Rattle.sums.specs.Sums.{count_if}
use Rattle.sums.proofs.SumLemmas.{sum_below-same}
use Rattle.move_energy.specs.BySite.{rising_sites}
use Rattle.move_energy.proofs.Listings.{chosen_below, listing_length, listing_short, listing_place, listing_has}
use Rattle.label_energies.specs.Energies.{labelling}
use Rattle.move_energy.specs.declared.choice.Choice.{Choice}
use Rattle.move_energy.specs.declared.choice.Choice.TheVariants.{Open, Zero as DecidedZero, One as DecidedOne}
use Rattle.move_energy.specs.Choices.{bit_of, choice_at, openness, is_open, open_at, open_rank, open_count, choice_of, value_of, AreOpenSites, IsNumbering, AreAssigned}
use Rattle.move_energy.proofs.Numbers.{assigned_already, rank_below}

-- ---- the test of a choice

pub open_true : (c : Choice) → c ≡ Open → is_open c ≡ true
open_true c is = ap is_open is

pub true_open : (c : Choice) → is_open c ≡ true → c ≡ Open
true_open Open is = refl
true_open DecidedZero is = absurd (cc is)
true_open DecidedOne is = absurd (cc is)

pub cases_open : (c : Choice) → (c ≡ Open) ⊎ (¬ (c ≡ Open))
cases_open Open = inl refl
cases_open DecidedZero = inr (λ is. absurd (cc is))
cases_open DecidedOne = inr (λ is. absurd (cc is))

openness_is : (c : Choice) → count_if (is_open c) 1 ≡ openness c
openness_is Open = refl
openness_is DecidedZero = refl
openness_is DecidedOne = refl

rank_is : (choices : List Choice) (n : ℕ) → chosen_below (open_at choices) n ≡ open_rank choices n
rank_is choices n = sum_below-same n (λ p. count_if (open_at choices p) 1) (λ p. openness (choice_at choices p)) (λ p l. openness_is (choice_at choices p))

-- ---- the list of the open sites

pub opened_count : (choices : List Choice) (opened : List ℕ) → AreOpenSites choices opened → length opened ≡ open_count choices
opened_count choices opened listed = ap (λ (xs : List ℕ). length xs) listed ∙ listing_length (open_at choices) (length choices) ∙ rank_is choices (length choices)

pub opened_few : (choices : List Choice) (opened : List ℕ) → AreOpenSites choices opened → length opened ≤ length choices
opened_few choices opened listed =
    let e = ap (λ (xs : List ℕ). length xs) listed in
    omega (arith, e, listing_short (open_at choices) (length choices))

-- what stands in the list
pub opened_has : (choices : List Choice) (opened : List ℕ) (i : ℕ) → AreOpenSites choices opened → i < length opened
    → (get_or opened i 0 < length choices) × (choice_at choices (get_or opened i 0) ≡ Open) × (open_rank choices (get_or opened i 0) ≡ i)
opened_has choices opened i listed l =
    let same : get_or opened i 0 ≡ get_or (rising_sites (open_at choices) (length choices)) i 0 = ap (λ (xs : List ℕ). get_or xs i 0) listed in
    let e = ap (λ (xs : List ℕ). length xs) listed in
    let found = listing_has (open_at choices) (length choices) i (omega (arith, l, e)) in (
      omega (arith, same, found.0),
      true_open (choice_at choices (get_or opened i 0)) (ap (open_at choices) same ∙ found.1),
      ap (open_rank choices) same ∙ sym (rank_is choices (get_or (rising_sites (open_at choices) (length choices)) i 0)) ∙ found.2,
    )

pub opened_within : (choices : List Choice) (opened : List ℕ) (n : ℕ) → AreOpenSites choices opened → length choices ≡ n → All (λ site. site < n) opened
opened_within choices opened n listed size =
    All-from_get_or (λ site. site < n) opened 0 (λ i l. omega (arith, (opened_has choices opened i listed l).0, size))

-- where an open site stands in it
pub opened_place : (choices : List Choice) (opened : List ℕ) (p : ℕ) → AreOpenSites choices opened → p < length choices → choice_at choices p ≡ Open
    → get_or opened (open_rank choices p) 0 ≡ p
opened_place choices opened p listed l opened_is =
    let found = listing_place (open_at choices) (length choices) p l (open_true (choice_at choices p) opened_is) in
    ap (λ (xs : List ℕ). get_or xs (open_rank choices p) 0) listed
    ∙ ap (λ i. get_or (rising_sites (open_at choices) (length choices)) i 0) (sym (rank_is choices p)) ∙ found.1

-- ---- numbers

-- as IsNumbering, of the first i open sites
pub record AreNumberedListed (choices : List Choice) (variables : List ℕ) (i : ℕ) : Type 0 where
  pub count : length variables ≡ length choices
  pub each : (p : ℕ) → p < length choices → choice_at choices p ≡ Open → open_rank choices p < i → labelling variables p ≡ open_rank choices p

pub listed_none : (choices : List Choice) (variables : List ℕ) → length variables ≡ length choices → AreNumberedListed choices variables 0
listed_none choices variables count = record { count = count; each = λ p l o less. absurd (omega (arith, less)) }

pub listed_more : (choices : List Choice) (opened old new : List ℕ) (i site : ℕ) → AreOpenSites choices opened → i < length opened → site ≡ get_or opened i 0
    → new ≡ slice_set old site i → AreNumberedListed choices old i → AreNumberedListed choices new (i + 1)
listed_more choices opened old new i site listed l read written below =
    let has = opened_has choices opened i listed l in
    let within : site < length old = omega (arith, read, has.0, below.count) in
    record {
      count = ap (λ (xs : List ℕ). length xs) written ∙ length-set old site i ∙ below.count;
      each = λ p k o less.
          let here = ap (λ (xs : List ℕ). labelling xs p) written in
          elim (cases_lt (open_rank choices p) i) [
            | inl before ↦
                let apart : p ≢ site = λ e. omega (arith, before, ap (open_rank choices) e, ap (open_rank choices) read, has.2) in
                here ∙ get_or-set_other old site p i 0 apart ∙ below.each p k o before
            | inr not_before ↦
                let at : open_rank choices p ≡ i = omega (arith, less, not_before) in
                let same : site ≡ p = read ∙ ap (λ j. get_or opened j 0) (sym at) ∙ opened_place choices opened p listed k o in
                here ∙ ap (labelling (slice_set old site i)) (sym same) ∙ get_or-set_same old site i 0 within ∙ sym at
          ];
    }

pub listed_all : (choices : List Choice) (opened variables : List ℕ) (i : ℕ) → AreOpenSites choices opened → length opened ≤ i → AreNumberedListed choices variables i
    → IsNumbering choices variables
listed_all choices opened variables i listed l below = record {
  count = below.count;
  each = λ p k o. below.each p k o (omega (arith, rank_below choices p (length choices) k o, opened_count choices opened listed, l));
}

-- ---- values

-- as AreAssigned, of the decided sites and the first i open ones
pub record AreAssignedListed (old : List Choice) (bits : List Bool) (new : List Choice) (i : ℕ) : Type 0 where
  pub count : length new ≡ length old
  pub each : (p : ℕ) → p < length old → ((¬ (choice_at old p ≡ Open)) ⊎ (open_rank old p < i)) → choice_at new p ≡ choice_of (value_of old bits p)

pub values_none : (old : List Choice) (bits : List Bool) → AreAssignedListed old bits old 0
values_none old bits = record {
  count = refl;
  each = λ p l way. elim way [
    | inl decided ↦ assigned_already (choice_at old p) _ decided
    | inr less ↦ absurd (omega (arith, less))
  ];
}

pub values_more : (old : List Choice) (bits : List Bool) (opened : List ℕ) (now new : List Choice) (i site : ℕ) (b : Bool) (c : Choice)
    → AreOpenSites old opened → i < length opened → site ≡ get_or opened i 0
    → new ≡ slice_set now site c → c ≡ choice_of b → b ≡ get_or bits i false → AreAssignedListed old bits now i → AreAssignedListed old bits new (i + 1)
values_more old bits opened now new i site b c listed l read written is bit below =
    let has = opened_has old opened i listed l in
    let within : site < length now = omega (arith, read, has.0, below.count) in
    let site_open : choice_at old site ≡ Open = ap (choice_at old) read ∙ has.1 in
    let site_rank : open_rank old site ≡ i = ap (open_rank old) read ∙ has.2 in
    let own : c ≡ choice_of (value_of old bits site) =
    is ∙ ap choice_of (bit ∙ ap (λ k. get_or bits k false) (sym site_rank) ∙ sym (ap (λ (d : Choice). bit_of d (get_or bits (open_rank old site) false)) site_open)) in
    let other : (p : ℕ) → p < length old → p ≢ site → ((¬ (choice_at old p ≡ Open)) ⊎ (open_rank old p < i)) → choice_at new p ≡ choice_of (value_of old bits p) =
    λ p k apart way. ap (λ (xs : List Choice). choice_at xs p) written ∙ get_or-set_other now site p c _ apart ∙ below.each p k way in
    record {
      count = ap (λ (xs : List Choice). length xs) written ∙ length-set now site c ∙ below.count;
      each = λ p k way. elim way [
        | inl decided ↦ other p k (λ e. decided (ap (choice_at old) e ∙ site_open)) (inl decided)
        | inr less ↦ elim (cases_eq p site) [
          | inl same ↦
              ap (λ (xs : List Choice). choice_at xs p) written ∙ ap (choice_at (slice_set now site c)) same
              ∙ get_or-set_same now site c _ within ∙ own ∙ ap (λ q. choice_of (value_of old bits q)) (sym same)
          | inr apart ↦ elim (cases_open (choice_at old p)) [
            | inl here ↦
                let before : open_rank old p ≢ i = λ e. apart (sym (opened_place old opened p listed k here) ∙ ap (λ j. get_or opened j 0) e ∙ sym read) in
                other p k apart (inr (omega (arith, less, before)))
            | inr decided ↦ other p k apart (inl decided)
          ]
        ]
      ];
    }

pub values_all : (old : List Choice) (bits : List Bool) (opened : List ℕ) (new : List Choice) (i : ℕ) → AreOpenSites old opened → length opened ≤ i
    → AreAssignedListed old bits new i → AreAssigned old bits new
values_all old bits opened new i listed l below = record {
  count = below.count;
  each = λ p k. elim (cases_open (choice_at old p)) [
    | inl here ↦ below.each p k (inr (omega (arith, rank_below old p (length old) k here, opened_count old opened listed, l)))
    | inr decided ↦ below.each p k (inl decided)
  ];
}
