-- The sites while they are summed one after another, and once all are.
use Rattle.std.proofs.Common.{◌≡◌, ◌≢◌, ◌⊎◌, ℕ, suc, ◌+◌, ◌*◌, ◌<◌, ◌≤◌, Bool, true, false, [], List, length, get_or, Result, Ok, Err, OnOk, refl, sym, ap, ◌∙◌, inl, inr, subst, arith}
use Rattle.std.proofs.lemmas.Bool.{cases_eq, cases_lt}
use Rattle.sums.specs.Sums.{count_if}
use Rattle.sums.proofs.SumLemmas.{sum_below-le-longer}
use Rattle.label_energies.specs.declared.change.Move.{Move}
use Rattle.label_energies.specs.Energies.{Instance, labelling}
use Rattle.compile_cut.specs.Weights.{weights_size}
use Rattle.move_energy.specs.Weights.{open_weights}
use Rattle.move_energy.specs.BySite.{neighbours_start, rising_sites, IsListing}
use Rattle.move_energy.specs.declared.choice.Choice.TheVariants.{Open, Zero, One}
use Rattle.move_energy.specs.declared.choice.Choice.{Choice}
use Rattle.move_energy.specs.Choices.{bit_of, choice_at, is_open}
use Rattle.move_energy.proofs.Listings.{chosen_below, listing_has, listing_place}
use Rattle.move_energy.proofs.Parts.{starts_rise, starts_within}
use Rattle.move_energy.proofs.PairEnds.{ends_len}
use Rattle.site_forms.specs.declared.numbers.SiteForm.{SiteForm}
use Rattle.site_forms.specs.Numbers.{IsFormOf, IsOverPairs}
use Rattle.site_bounds.specs.declared.bounds.Bounds.{Bounds}
use Rattle.site_bounds.specs.Finding.{IsInBudget, total_left, SumsNext, EndsSites, DecidesSites}
use Rattle.site_bounds.specs.Listed.{CoversOpen}
use Rattle.site_bounds.specs.Working.{AreUnsummed, IsSummed, AreWaiting, ArePartlyDecided, StayDecided, AreClosed, open_ends}
use Rattle.site_bounds.proofs.Closed.{same_closed, both_closed}
use Rattle.site_bounds.proofs.Left.{left_most, starts_climb}
use Rattle.site_bounds.proofs.Places.{none_waits}
use Rattle.site_bounds.proofs.Ranges.{empty_list, empty_range, total_none}

-- the sites are decided so far, from the beginning on
pub record IsUnderWay (form : SiteForm) (start now : Bounds) : Type 0 where
  pub within : now.summed ≤ length form.at.now
  pub budget : IsInBudget form now
  pub waiting : AreWaiting now.summed now
  pub closed : StayDecided start now
  pub none : now.waiting.items ≡ []
  pub total : total_left form now ≤ 40000000 * length form.pairs.now.list + 10000000 * now.summed + 10000000 * neighbours_start form.ends.now now.summed
  pub decided : (m : Instance) (move : Move) → IsFormOf m move form → ArePartlyDecided m move (labelling form.at.now) 0 start
      → ArePartlyDecided m move (labelling form.at.now) now.summed now

-- before any site is summed, its bounds make no difference
begun_same : (m : Instance) (move : Move) (f : ℕ → ℕ) (old new : Bounds) → new.choices ≡ old.choices → ArePartlyDecided m move f 0 old → ArePartlyDecided m move f 0 new
begun_same m move f old new cs begun = record {
  decisions = begun.decisions;
  passed = begun.passed;
  shown = λ x p l. begun.shown x p l ∙ ap (λ (v : _). bit_of (choice_at v.items p) (x p)) (sym cs);
  least = λ u l. absurd (omega (arith, l));
  greatest = λ u l. absurd (omega (arith, l));
}

few_ends : (form : SiteForm) (b : Bounds) → IsOverPairs form → open_ends form.ends.now (length form.at.now) b.choices.items ≤ 2 * length form.pairs.now.list
few_ends form b over =
    let L : ℕ → Type 0 = λ n. open_ends form.ends.now n b.choices.items ≤ 2 * length form.pairs.now.list in
    subst L (sym over.sites) (left_most form.pairs.now form.ends.now b.choices.items over.by_site)

-- nothing is summed, and there is room for the bounds
pub way_begins : (form : SiteForm) (start b : Bounds) → IsOverPairs form → AreUnsummed (length form.at.now) start → IsSummed (length start.choices.items) b
    → (b.choices ≡ start.choices) × (b.waiting ≡ start.waiting) × (b.summed ≡ start.summed) → IsUnderWay form start b
way_begins form start b over u sized same =
    let few = few_ends form b over in
    let S : ℕ → Type 0 = λ n. IsSummed n b in
    let summed : b.summed ≡ 0 = same.2 ∙ u.unsummed.summed in
    let none : length b.waiting.items ≡ 0 = ap (λ (v : _). length v.items) same.1 ∙ u.unsummed.none in
    record {
      within = omega (arith, summed);
      budget = record { sized = subst S u.choices sized; left = few; range = empty_range _ b summed };
      waiting = record { sites = λ i d l. absurd (omega (arith, l, none)); each = λ v l. absurd (omega (arith, l, summed)) };
      closed = same_closed start b same.0;
      none = empty_list b.waiting.items none;
      total = omega (arith, few, total_none b summed);
      decided = λ m move read begun. (let D : ℕ → Type 0 = λ k. ArePartlyDecided m move (labelling form.at.now) k b in
          subst D (sym summed) (begun_same m move (labelling form.at.now) start b same.0 begun));
    }

-- one site more is summed
pub way_more : (form : SiteForm) (start mid new : Bounds) (site : ℕ) → IsOverPairs form → mid.summed ≤ site → site < length form.at.now → SumsNext form site mid new
    → IsUnderWay form start mid → IsUnderWay form start new
way_more form start mid new site over on inside sums way =
    let within : site < form.pairs.now.sites = omega (arith, inside, over.sites) in
    let W : ℕ → Type 0 = λ k. AreWaiting k new in
    record {
      within = omega (arith, sums.summed, inside);
      budget = sums.budget;
      waiting = subst W (sym sums.summed) sums.waiting;
      closed = both_closed start mid new way.closed sums.closed;
      none = sums.none;
      total = (let ordered = starts_rise form.pairs.now form.ends.now site over.by_site within in
          let climbs = starts_climb form.pairs.now form.ends.now mid.summed site over.by_site on (omega (arith, within)) in
          let next = ap (neighbours_start form.ends.now) sums.summed in
          omega (arith, way.total, sums.total, sums.summed, ordered, climbs, next, on));
      decided = λ m move read begun.
          let D : ℕ → Type 0 = λ k. ArePartlyDecided m move (labelling form.at.now) k new in
          subst D (sym sums.summed) (sums.decided m move read (way.decided m move read begun));
    }

-- all are passed
pub way_ends : (form : SiteForm) (start mid new : Bounds) → IsOverPairs form → EndsSites form mid new → IsUnderWay form start mid → DecidesSites form start new
way_ends form start mid new over ends way = record {
  sized = ends.sized;
  total = (let inside : mid.summed ≤ form.pairs.now.sites = omega (arith, way.within, over.sites) in
      let most = starts_within form.pairs.now form.ends.now mid.summed over.by_site inside in
      let all = ap (λ n. weights_size (open_weights new.choices.items new.greatest.items n)) ends.summed in
      omega (arith, all, ends.total, way.total, inside, most, ends_len form.pairs.now.list, over.list.count, over.list.sites));
  none = none_waits (length form.at.now) new (ap (λ (v : _). v.items) ends.same.0 ∙ way.none) ends.waiting;
  closed = both_closed start mid new way.closed (same_closed mid new ends.same.1);
  decided = λ m move read begun. ends.decided m move read (way.decided m move read begun);
}

pub on_ok_seven : {T E : Type 0} (r : Result T E) (A B C D F G H X : Type 0) → (A → B → C → D → F → G → H → X) → OnOk r A → OnOk r B → OnOk r C → OnOk r D → OnOk r F → OnOk r G → OnOk r H → OnOk r X
on_ok_seven (Ok v) A B C D F G H X all a b c d f g h = all a b c d f g h
on_ok_seven (Err e) A B C D F G H X all a b c d f g h = tt

-- ---- the open sites are among those of a list

open_or : (c : Choice) → (c ≡ Open) ⊎ (c ≢ Open)
open_or Open = inl refl
open_or Zero = inr (λ is. absurd (cc (is)))
open_or One = inr (λ is. absurd (cc (is)))

shut : (c : Choice) → is_open c ≡ false → c ≢ Open
shut c closed opened = absurd (cc (closed, ap is_open opened))

-- an open site behind those that were passed is none of the first ones of the list
abbrev pub AreAhead : (ℕ → Bool) → ℕ → ℕ → Bounds → Type 0
AreAhead before n place b = (u : ℕ) → u < n → choice_at b.choices.items u ≡ Open → b.summed ≤ u → place ≤ chosen_below before u

true_or : (b : Bool) → (b ≡ true) ⊎ (b ≡ false)
true_or true = inl refl
true_or false = inr refl

-- the sites of the list from a place on are not passed
abbrev pub AreBehind : (ℕ → Bool) → ℕ → ℕ → Bounds → Type 0
AreBehind before n place b = (u : ℕ) → u < n → before u ≡ true → place ≤ chosen_below before u → b.summed ≤ u

-- an open site is listed
is_listed : (start now : Bounds) (sites : List ℕ) (u : ℕ) → (among : CoversOpen start.choices.items sites) → StayDecided start now → u < length start.choices.items → choice_at now.choices.items u ≡ Open
    → among.before u ≡ true
is_listed start now sites u among closed inside opened = elim (true_or (among.before u)) [
  | inl is ↦ is
  | inr off ↦ absurd (closed u (shut (choice_at start.choices.items u) (among.rest u inside off)) opened)
]

pub rank_of : (before : ℕ → Bool) (n place : ℕ) (sites : List ℕ) → IsListing before n sites → place < length sites → chosen_below before (get_or sites place 0) ≡ place
rank_of before n place sites listing l =
    let e = ap (λ (xs : List ℕ). length xs) listing in
    let same : get_or sites place 0 ≡ _ = ap (λ (xs : List ℕ). get_or xs place 0) listing in
    ap (chosen_below before) same ∙ (listing_has before n place (omega (arith, l, e))).2

site_of : (before : ℕ → Bool) (n place u : ℕ) (sites : List ℕ) → IsListing before n sites → u < n → before u ≡ true → chosen_below before u ≡ place → u ≡ get_or sites place 0
site_of before n place u sites listing l is rank =
    let found = listing_place before n u l is in
    sym found.1 ∙ sym (ap (λ (xs : List ℕ). get_or xs (chosen_below before u) 0) listing) ∙ ap (λ i. get_or sites i 0) rank

counted_here : (b : Bool) → b ≡ true → count_if b 1 ≡ 1
counted_here true is = refl
counted_here false is = absurd (cc is)

pub rank_climbs : (before : ℕ → Bool) (u site : ℕ) → u < site → before u ≡ true → chosen_below before u < chosen_below before site
rank_climbs before u site l is =
    let longer = sum_below-le-longer (suc u) site (λ p. count_if (before p) 1) (omega (arith, l)) in
    omega (arith, longer, counted_here (before u) is)

-- those before the next one of the list are closed
pub ahead_closed : (start now : Bounds) (sites : List ℕ) (place : ℕ) → (among : CoversOpen start.choices.items sites) → StayDecided start now → place < length sites
    → AreAhead among.before (length start.choices.items) place now → AreClosed now.summed (get_or sites place 0) now
ahead_closed start now sites place among closed l ahead u from to opened =
    let n = length start.choices.items in
    let at = rank_of among.before n place sites among.listing l in
    let e = ap (λ (xs : List ℕ). length xs) among.listing in
    let same = ap (λ (xs : List ℕ). get_or xs place 0) among.listing in
    let inside = (listing_has among.before n place (omega (arith, l, e))).0 in
    let within : u < n = omega (arith, to, inside, same) in
    let climbs = rank_climbs among.before u (get_or sites place 0) to (is_listed start now sites u among closed within opened) in
    absurd (omega (arith, climbs, at, ahead u within opened from))

-- one of the list more is looked at
pub ahead_more : (start old new : Bounds) (sites : List ℕ) (place : ℕ) → (among : CoversOpen start.choices.items sites) → StayDecided start new → StayDecided old new → place < length sites
    → old.summed ≤ new.summed → (choice_at new.choices.items (get_or sites place 0) ≡ Open → new.summed ≤ get_or sites place 0 → ⊥) → AreAhead among.before (length start.choices.items) place old
    → AreAhead among.before (length start.choices.items) (place + 1) new
ahead_more start old new sites place among closed stays l on passed ahead u within opened behind =
    let n = length start.choices.items in
    let listed = is_listed start new sites u among closed within opened in
    elim (open_or (choice_at old.choices.items u)) [
      | inr was ↦ absurd (stays u was opened)
      | inl was ↦
          let least = ahead u within was (omega (arith, on, behind)) in
          elim (cases_eq (chosen_below among.before u) place) [
            | inl same ↦
                let here = site_of among.before n place u sites among.listing within listed same in
                absurd (passed (ap (choice_at new.choices.items) (sym here) ∙ opened) (omega (arith, here, behind)))
            | inr other ↦ omega (arith, least, other)
          ]
    ]

-- all were looked at
pub ahead_none : (start now : Bounds) (sites : List ℕ) (place : ℕ) → (among : CoversOpen start.choices.items sites) → StayDecided start now → length sites ≤ place
    → AreAhead among.before (length start.choices.items) place now → AreClosed now.summed (length start.choices.items) now
ahead_none start now sites place among closed l ahead u from to opened =
    let n = length start.choices.items in
    let e = ap (λ (xs : List ℕ). length xs) among.listing in
    let found = listing_place among.before n u to (is_listed start now sites u among closed to opened) in
    absurd (omega (arith, found.0, e, l, ahead u to opened from))

-- the next of the list is not passed
pub behind_next : (start now : Bounds) (sites : List ℕ) (place : ℕ) → (among : CoversOpen start.choices.items sites) → place < length sites
    → AreBehind among.before (length start.choices.items) place now → now.summed ≤ get_or sites place 0
behind_next start now sites place among l behind =
    let n = length start.choices.items in
    let e = ap (λ (xs : List ℕ). length xs) among.listing in
    let same : get_or sites place 0 ≡ get_or (rising_sites among.before n) place 0 = ap (λ (xs : List ℕ). get_or xs place 0) among.listing in
    let has = listing_has among.before n place (omega (arith, l, e)) in
    let least = behind (get_or (rising_sites among.before n) place 0) has.0 has.1 (omega (arith, has.2)) in
    omega (arith, least, same)

-- once it is, the others are not
pub behind_more : (start new : Bounds) (sites : List ℕ) (place : ℕ) → (among : CoversOpen start.choices.items sites) → place < length sites → new.summed ≡ get_or sites place 0 + 1
    → AreBehind among.before (length start.choices.items) (place + 1) new
behind_more start new sites place among l is u within listed rank =
    let site = get_or sites place 0 in
    let n = length start.choices.items in
    let at = rank_of among.before n place sites among.listing l in
    elim (cases_lt site u) [
      | inl after ↦ omega (arith, is, after)
      | inr before ↦ elim (cases_eq u site) [
        | inl same ↦ (let e = ap (chosen_below among.before) same in absurd (omega (arith, e, at, rank)))
        | inr other ↦ (let earlier : u < site = omega (arith, before, other) in absurd (omega (arith, rank_climbs among.before u site earlier listed, at, rank)))
      ]
    ]

pub behind_on : (before : ℕ → Bool) (n place : ℕ) (b : Bounds) → AreBehind before n place b → AreBehind before n (place + 1) b
behind_on before n place b behind u within listed rank = behind u within listed (omega (arith, rank))
