-- The pairs of a site, and what is told of all pairs by those of each site.
use Rattle.move_energy.specs.Ends.{AreEnds}
use Rattle.std.proofs.Common.{◌≡◌, ◌≢◌, ◌⊎◌, ◌==◌, ℕ, ◌+◌, ◌-◌, ◌<◌, Bool, true, false, cond, List, length, All, refl, sym, ap, ◌∙◌, subst, inl, inr, arith}
use Rattle.std.proofs.lemmas.Bool.{eq-eqb, ne_eqb}
use Rattle.std.specs.List.{Contains}
use Rattle.std.proofs.lemmas.List.Elements.{All-contains_itself, All-get_or, All-from_get_or}
use Rattle.move_energy.specs.declared.by_site.Neighbours.{Neighbours}
use Rattle.label_field.specs.declared.pair.Pair.{Pair}
use Rattle.label_field.specs.PairLists.{PairList, IsPair}
use Rattle.label_energies.specs.Energies.{Instance}
use Rattle.move_energy.specs.BySite.{AreBySite, degree, neighbours_start, neighbour_at, weight_at, is_first, grouped_at, pair_in, pair_of, pair_beside}
use Rattle.move_energy.proofs.PairEnds.{Touches, touching_found}
use Rattle.move_energy.proofs.Parts.{from_touches, pair_has}
use Rattle.near_changes.specs.Fresh.{AreFresh, IsFreshAcross}
use Rattle.near_changes.specs.Looking.{AreBeside, IsNearChange}
use Rattle.near_changes.specs.Working.{IsMarkedAcross, IsMarkedAround}

abbrev none : Pair
none = record { first = 0; second = 0; weight = 0 }

-- a pair that touches a site is among the site's
pub pair_met : (pairs : PairList) (ends : Neighbours) (site i : ℕ) → AreBySite pairs ends → site < pairs.sites → i < length pairs.list → Touches site (pair_in pairs.list i)
    → (k : ℕ) × (k < degree ends site) × (pair_of ends site k ≡ pair_in pairs.list i)
pair_met pairs ends site i by_site inside l touches =
    let found = touching_found pairs.list pairs.sites site i none (grouped_at ends by_site.places) by_site.grouped l touches in
    let k = found.0 - neighbours_start ends site in
    let at : neighbours_start ends site + k ≡ found.0 = omega (arith, found.1) in
    (k, omega (arith, found.1, found.2), ap (pair_beside ends site) at ∙ by_site.each site found.0 inside found.1 found.2 ∙ ap (pair_in pairs.list) found.3)

-- what is true of each pair by its number is true of all
pub of_all : (P : Pair → Type 0) (list : List Pair) → ((i : ℕ) → i < length list → P (pair_in list i)) → All P list
of_all P list each = All-from_get_or P list none each

pub of_one : (P : Pair → Type 0) (list : List Pair) (i : ℕ) → All P list → i < length list → P (pair_in list i)
of_one P list i all l = All-get_or P list i none l all

-- ---- the other end

pub at_other : (P : ℕ → Type 0) (pair : Pair) (site other : ℕ) → pair.first ≢ pair.second → other ≡ cond (pair.first == site) pair.second pair.first → P other
    → (pair.first ≡ site → P pair.second) × (pair.second ≡ site → P pair.first)
at_other P pair site other apart is holds = (
  (λ first. subst P (is ∙ ap (λ b. cond b pair.second pair.first) (eq-eqb pair.first site first)) holds),
  (λ second. subst P (is ∙ ap (λ b. cond b pair.second pair.first) (ne_eqb pair.first site (λ first. apart (first ∙ sym second)))) holds),
)

other_of : (b : Bool) (n first second : ℕ) → first < n → second < n → cond b second first < n
other_of true n first second f s = s
other_of false n first second f s = f

pub other_inside : (n : ℕ) (pair : Pair) (site other : ℕ) → IsPair n pair → other ≡ cond (pair.first == site) pair.second pair.first → other < n
other_inside n pair site other is e = omega (arith, e, other_of (pair.first == site) n pair.first pair.second is.first is.second)

-- the pairs of a site touch it
touches : (ends : Neighbours) (site k : ℕ) → Touches site (pair_of ends site k)
touches ends site k = from_touches (is_first ends site (neighbours_start ends site + k)) site (neighbour_at ends (neighbours_start ends site + k)) (weight_at ends (neighbours_start ends site + k))

ends_are : (pair : Pair) (site other : ℕ) → pair.first ≢ pair.second → Touches site pair → other ≡ cond (pair.first == site) pair.second pair.first → AreEnds pair site other
ends_are pair site other apart (inl first) is = inl (first, sym (is ∙ ap (λ b. cond b pair.second pair.first) (eq-eqb pair.first site first)))
ends_are pair site other apart (inr second) is =
    inr (sym (is ∙ ap (λ b. cond b pair.second pair.first) (ne_eqb pair.first site (λ first. apart (first ∙ sym second)))), second)

-- the other end is beside the site
pub other_beside : (pairs : PairList) (ends : Neighbours) (site k other : ℕ) (pair : Pair) → AreBySite pairs ends → site < pairs.sites → k < degree ends site
    → pair ≡ pair_of ends site k → pair.first ≢ pair.second → other ≡ cond (pair.first == site) pair.second pair.first → AreBeside pairs site other
other_beside pairs ends site k other pair by_site inside l is apart at =
    let P : Pair → Type 0 = λ q. Touches site q in
    let Q : Pair → Type 0 = λ q. Contains pairs.list q in (
      pair,
      subst Q (sym is) (pair_has Q pairs ends site k (All-contains_itself pairs.list) by_site inside l),
      ends_are pair site other apart (subst P (sym is) (touches ends site k)) at,
    )

-- ---- fresh sites

-- one more site is marked
pub only_one : (could near : ℕ → Type 0) (old now new : ℕ → Bool) (site : ℕ) → near site → ((p : ℕ) → now p ≡ true → (old p ≡ true) ⊎ (could p × near p))
    → ((p : ℕ) → new p ≡ true → (now p ≡ true) ⊎ (could p × (p ≡ site))) → (p : ℕ) → new p ≡ true → (old p ≡ true) ⊎ (could p × near p)
only_one could near old now new site is before later p held = elim (later p held) [
  | inl was ↦ before p was
  | inr here ↦ inr (here.0, subst near (sym here.1) is)
]

-- the sites around a changed one are marked
pub only_near : (pairs : PairList) (could : ℕ → Type 0) (changed now new : ℕ → Bool) (site : ℕ) → changed site ≡ true
    → ((p : ℕ) → now p ≡ true → could p × IsNearChange pairs changed p)
    → ((p : ℕ) → new p ≡ true → (now p ≡ true) ⊎ (could p × ((p ≡ site) ⊎ AreBeside pairs site p))) → (p : ℕ) → new p ≡ true → could p × IsNearChange pairs changed p
only_near pairs could changed now new site yet before later p held = elim (later p held) [
  | inl was ↦ before p was
  | inr here ↦ (here.0, elim here.1 [ inl same ↦ inl (ap changed same ∙ yet) | inr beside ↦ inr (site, yet, beside) ])
]

pub across_stays : (a : ℕ) (f : ℕ → ℕ) (site : ℕ) (old new : ℕ → Bool) (pair : Pair) → ((p : ℕ) → old p ≡ true → new p ≡ true)
    → IsMarkedAcross a f site old pair → IsMarkedAcross a f site new pair
across_stays a f site old new pair stays across = ((λ here could. stays pair.second (across.0 here could)), (λ here could. stays pair.first (across.1 here could)))

pub around_stays : (pairs : PairList) (ends : Neighbours) (a : ℕ) (f : ℕ → ℕ) (site : ℕ) (old new : ℕ → Bool) → ((p : ℕ) → old p ≡ true → new p ≡ true)
    → IsMarkedAround pairs ends a f site old → IsMarkedAround pairs ends a f site new
around_stays pairs ends a f site old new stays around = record {
  own = λ could. stays site (around.own could);
  beside = λ k l. across_stays a f site old new (pair_of ends site k) stays (around.beside k l);
}

-- a pair with a changed end
fresh_across : (pairs : PairList) (ends : Neighbours) (a : ℕ) (f : ℕ → ℕ) (changed fresh : ℕ → Bool) (i : ℕ) → AreBySite pairs ends → All (IsPair pairs.sites) pairs.list
    → ((p : ℕ) → p < pairs.sites → changed p ≡ true → IsMarkedAround pairs ends a f p fresh) → i < length pairs.list → IsFreshAcross a f changed fresh (pair_in pairs.list i)
fresh_across pairs ends a f changed fresh i by_site are around l =
    let pair = pair_in pairs.list i in
    let is = of_one (IsPair pairs.sites) pairs.list i are l in (
      (λ could held.
          let met = pair_met pairs ends pair.second i by_site is.second l (inr refl) in
          let P : Pair → Type 0 = λ q. IsMarkedAcross a f pair.second fresh q in
          (subst P met.2 ((around pair.second is.second held).beside met.0 met.1)).1 refl could),
      (λ could held.
          let met = pair_met pairs ends pair.first i by_site is.first l (inl refl) in
          let P : Pair → Type 0 = λ q. IsMarkedAcross a f pair.first fresh q in
          (subst P met.2 ((around pair.first is.first held).beside met.0 met.1)).0 refl could),
    )

pub all_fresh : (pairs : PairList) (ends : Neighbours) (a : ℕ) (f : ℕ → ℕ) (changed fresh : ℕ → Bool) → AreBySite pairs ends → All (IsPair pairs.sites) pairs.list
    → ((p : ℕ) → p < pairs.sites → changed p ≡ true → IsMarkedAround pairs ends a f p fresh)
    → (m : Instance) → m.sites ≡ pairs.sites → m.pairs ≡ pairs.list → AreFresh m a f changed fresh
all_fresh pairs ends a f changed fresh by_site are around m sites list =
    let P : List Pair → Type 0 = λ xs. All (IsFreshAcross a f changed fresh) xs in
    record {
      own = λ p l could held. (around p (omega (arith, l, sites)) held).own could;
      beside = subst P (sym list) (of_all (IsFreshAcross a f changed fresh) pairs.list (λ i l. fresh_across pairs ends a f changed fresh i by_site are around l));
    }
