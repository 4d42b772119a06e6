-- Sites that are listed among those of a list.
use Rattle.std.proofs.Common.{◌≡◌, ◌≢◌, ℕ, zero, suc, ◌+◌, ◌<◌, ◌≤◌, Bool, true, false, cond, List, [], ◌∷◌, ◌++◌, ◌||◌, ◌==◌, not, length, get_or, take, Contains, refl, sym, ap, ◌∙◌, inl, inr, subst, arith, add-one}
use Rattle.std.specs.List.{filter}
use Rattle.sums.specs.Sums.{count_if}
use Rattle.std.specs.Prelude.{◌↔◌, IsTrue}
use Rattle.std.proofs.lemmas.Bool.{eq-eqb}
use Rattle.std.proofs.lemmas.List.{get_or_default, length-append}
use Rattle.std.proofs.lemmas.List.Elements.{filter-append, All-from_get_or}
use Rattle.std.proofs.Math.Seq.{take-suc, take-length}
use Rattle.label_energies.specs.declared.change.Move.{Move}
use Rattle.label_energies.specs.declared.change.Move.TheVariants.{Expand, Swap}
use Rattle.label_energies.specs.Energies.{labelling}
use Rattle.label_energies.specs.Moves.{IsOneOf, label_after}
use Rattle.label_energies.proofs.Reaching.{cases_one, swap_one, swap_other}
use Rattle.move_energy.specs.BySite.{rising_sites, IsListing}
use Rattle.move_energy.specs.declared.choice.Choice.{Choice}
use Rattle.move_energy.specs.declared.choice.Choice.TheVariants.{Open, Zero, One}
use Rattle.move_energy.specs.Choices.{is_open, open_at, open_count, bit_of, choice_at, AreAllOpen, AreOpenSites}
use Rattle.move_energy.proofs.Listings.{chosen_below, listing_has, listing_place, listing_short}
use Rattle.move_energy.proofs.Opened.{opened_count}
use Rattle.form_lists.specs.Lists.{CoversChanges}
use Rattle.site_bounds.specs.declared.bounds.Bounds.{Bounds}
use Rattle.site_bounds.specs.Listed.{changes, CoversRest, CoversOpen}
use Rattle.site_bounds.specs.Working.{StayDecided}
use Rattle.site_bounds.proofs.Fixed.{IsFixed, fixed_site}
use Rattle.site_bounds.proofs.Skipping.{none_open}

-- ---- those of a listing that are chosen

filter_one : (now : ℕ → Bool) (b : Bool) (n : ℕ) → (b ≡ false → now n ≡ false) → filter now (cond b (n ∷ []) []) ≡ cond (now n) (n ∷ []) []
filter_one now true n none = refl
filter_one now false n none = sym (ap (λ c. cond c (n ∷ []) []) (none refl))

filtered : (before now : ℕ → Bool) (n : ℕ) → ((p : ℕ) → p < n → before p ≡ false → now p ≡ false) → filter now (rising_sites before n) ≡ rising_sites now n
filtered before now zero none = refl
filtered before now (suc n) none =
    filter-append now (rising_sites before n) (cond (before n) (n ∷ []) [])
    ∙ (λ i. filtered before now n (λ p l. none p (omega (arith, l))) i ++ filter_one now (before n) n (none n (omega arith)) i)

-- the chosen ones of a listing are listed
pub chosen_listed : (before now : ℕ → Bool) (n : ℕ) (sites new : List ℕ) → IsListing before n sites → ((p : ℕ) → p < n → before p ≡ false → now p ≡ false) → new ≡ filter now sites → IsListing now n new
chosen_listed before now n sites new listed none is = is ∙ ap (filter now) listed ∙ filtered before now n none

-- one site more is looked at
pub picked_more : (now : ℕ → Bool) (sites : List ℕ) (place : ℕ) (b : Bool) (old new : List ℕ) → place < length sites → b ≡ now (get_or sites place 0)
    → new ≡ old ++ cond b (get_or sites place 0 ∷ []) [] → old ≡ filter now (take place sites) → new ≡ filter now (take (place + 1) sites)
picked_more now sites place b old new l is pushed was =
    let site = get_or sites place 0 in
    pushed ∙ (λ i. was i ++ cond (is i) (site ∷ []) []) ∙ sym (filter-append now (take place sites) (site ∷ []))
    ∙ sym (ap (λ n. filter now (take n sites)) (add-one place) ∙ ap (filter now) (take-suc sites place 0 l))

pub all_taken : (now : ℕ → Bool) (sites new : List ℕ) (place : ℕ) → place ≡ length sites → new ≡ filter now (take place sites) → new ≡ filter now sites
all_taken now sites new place at_end is = is ∙ ap (λ n. filter now (take n sites)) at_end ∙ ap (filter now) (take-length sites)

-- ---- what is listed

pub listed_inside : (chosen : ℕ → Bool) (n : ℕ) (sites : List ℕ) (i : ℕ) → IsListing chosen n sites → i < length sites → get_or sites i 0 < n
listed_inside chosen n sites i listed l =
    let same : get_or sites i 0 ≡ get_or (rising_sites chosen n) i 0 = ap (λ (xs : List ℕ). get_or xs i 0) listed in
    let e = ap (λ (xs : List ℕ). length xs) listed in
    let found = listing_has chosen n i (omega (arith, l, e)) in
    omega (arith, same, found.0)

listed_has : (chosen : ℕ → Bool) (n : ℕ) (sites : List ℕ) (p : ℕ) → IsListing chosen n sites → p < n → chosen p ≡ true → Contains sites p
listed_has chosen n sites p listed l is =
    let found = listing_place chosen n p l is in
    let e = ap (λ (xs : List ℕ). length xs) listed in
    let inside : chosen_below chosen p < length sites = omega (arith, found.0, e) in
    let k = chosen_below chosen p in
    (k, inside, get_or_default sites k p 0 inside ∙ ap (λ (xs : List ℕ). get_or xs k 0) listed ∙ found.1)

-- ---- the open sites among others

pub covers_open : (move : Move) (f : List ℕ) (choices : List Choice) (sites : List ℕ) → length choices ≡ length f → CoversRest move f choices sites → CoversOpen choices sites
covers_open move f choices sites same covers = record {
  before = covers.before;
  listing = (let L : ℕ → Type 0 = λ n. IsListing covers.before n sites in subst L (sym same) covers.listing);
  rest = λ p l none. none_open move (labelling f) choices p (covers.rest p (omega (arith, l, same)) none);
}

pub among_count : (choices : List Choice) (sites : List ℕ) → CoversOpen choices sites → length (filter (open_at choices) sites) ≡ open_count choices
among_count choices sites covers =
    opened_count choices (filter (open_at choices) sites) (chosen_listed covers.before (open_at choices) (length choices) sites _ covers.listing covers.rest refl)

pub among_few : (choices : List Choice) (sites : List ℕ) → CoversOpen choices sites → length sites ≤ length choices
among_few choices sites covers = (let e = ap (λ (xs : List ℕ). length xs) covers.listing in omega (arith, e, listing_short covers.before (length choices)))

one_longer : (xs : List ℕ) (n : ℕ) (b : Bool) → length (xs ++ cond b (n ∷ []) []) ≡ length xs + count_if b 1
one_longer xs n true = length-append xs (n ∷ [])
one_longer xs n false = length-append xs []

pub picked_count : (now : ℕ → Bool) (sites : List ℕ) (place : ℕ) (b : Bool) → place < length sites → b ≡ now (get_or sites place 0)
    → length (filter now (take (place + 1) sites)) ≡ length (filter now (take place sites)) + count_if b 1
picked_count now sites place b l is =
    ap (λ (xs : List ℕ). length xs) (sym (picked_more now sites place b (filter now (take place sites)) _ l is refl refl)) ∙ one_longer (filter now (take place sites)) (get_or sites place 0) b

-- ---- the sites that were open before any was decided

open_is : (b : Bool) (c : Choice) → (IsTrue b ↔ (c ≡ Open)) → b ≡ is_open c
open_is true Open h = refl
open_is false Open h = (let n = h.1 refl in absurd (cc (n)))
open_is true Zero h = (let n = h.0 refl in absurd (cc (n)))
open_is false Zero h = refl
open_is true One h = (let n = h.0 refl in absurd (cc (n)))
open_is false One h = refl

pub open_test : (choices : List Choice) (site : ℕ) (b : Bool) → site < length choices → (IsTrue b ↔ (get_or choices site Open ≡ Open)) → b ≡ open_at choices site
open_test choices site b l h = open_is b (get_or choices site Open) h ∙ ap is_open (get_or_default choices site Open Zero l)

is_open_of : (c : Choice) → c ≡ Open → is_open c ≡ true
is_open_of c opened = ap is_open opened

closed_of : (c : Choice) → is_open c ≡ false → c ≢ Open
closed_of c shut opened = absurd (cc (shut, is_open_of c opened))

not_open : (c : Choice) → c ≢ Open → is_open c ≡ false
not_open Open shut = absurd (shut refl)
not_open Zero shut = refl
not_open One shut = refl

either_same : (a b old : ℕ) (bit : Bool) → b ≡ a → IsOneOf a b old → cond bit b a ≡ old
either_same a b old true same (inl is) = same ∙ sym is
either_same a b old true same (inr is) = sym is
either_same a b old false same (inl is) = sym is
either_same a b old false same (inr is) = sym same ∙ sym is

fixed_keeps : (move : Move) (old : ℕ) (bit : Bool) → IsFixed move old → label_after move old bit ≡ old
fixed_keeps (Expand a) old true fixed = fixed
fixed_keeps (Expand a) old false fixed = refl
fixed_keeps (Swap a b) old bit fixed = elim (cases_one a b old) [
  | inl one ↦
      let same : b ≡ a = sym (swap_one a b old true one) ∙ fixed ∙ swap_one a b old false one in
      swap_one a b old bit one ∙ either_same a b old bit same one
  | inr off ↦ swap_other a b old bit off.0 off.1
]

-- a site that was not open, and is not, keeps its label
keeps_label : (move : Move) (f : ℕ → ℕ) (choices : List Choice) (p : ℕ) → open_at choices p ≡ false → IsFixed move (f p) → changes move f choices p ≡ false
keeps_label move f choices p closed fixed =
    (λ i. closed i || not (fixed_keeps move (f p) (bit_of (choice_at choices p) false) fixed i == f p)) ∙ ap not (eq-eqb (f p) (f p) refl)

pub covers_rest : (move : Move) (f : List ℕ) (old new : Bounds) (sites : List ℕ) → AreAllOpen move f old.choices.items → StayDecided old new → AreOpenSites old.choices.items sites
    → CoversRest move f new.choices.items sites
covers_rest move f old new sites opened closed listed =
    let before = open_at old.choices.items in
    record {
      before = before;
      listing = (let L : ℕ → Type 0 = λ n. IsListing before n sites in subst L opened.count listed);
      rest = λ p l none.
          let was = closed_of (choice_at old.choices.items p) none in
          keeps_label move (labelling f) new.choices.items p (not_open (choice_at new.choices.items p) (closed p was)) (fixed_site move f old.choices.items p opened l was);
    }

pub covers_changes : (move : Move) (f : List ℕ) (choices : List Choice) (sites : List ℕ) → AreAllOpen move f choices → AreOpenSites choices sites → CoversChanges move f sites
covers_changes move f choices sites opened listed =
    let L : ℕ → Type 0 = λ n. IsListing (open_at choices) n sites in
    let all = subst L opened.count listed in
    record {
      inside = All-from_get_or (λ p. p < length f) sites 0 (λ i l. listed_inside (open_at choices) (length f) sites i all l);
      each = λ u l moved. listed_has (open_at choices) (length f) sites u all l (is_open_of (choice_at choices u) ((opened.opened u l).1 moved));
    }

pub open_covers : (choices : List Choice) (sites : List ℕ) → AreOpenSites choices sites → CoversOpen choices sites
open_covers choices sites listed = record { before = open_at choices; listing = listed; rest = λ p l none. none }
