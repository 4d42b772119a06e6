-- Sites that are passed over, since none of them is chosen.
use Rattle.std.proofs.Common.{◌≡◌, ℕ, zero, suc, ◌+◌, ◌-◌, ◌<◌, ◌≤◌, Bool, false, cond, List, [], ◌∷◌, ◌++◌, ◌||◌, true, sym, ap, ◌∙◌, refl, subst, arith}
use Rattle.std.proofs.lemmas.List.{append-nil, append_assoc}
use Rattle.label_energies.specs.declared.change.Move.{Move}
use Rattle.move_energy.specs.declared.choice.Choice.{Choice}
use Rattle.move_energy.specs.Choices.{open_at}
use Rattle.move_energy.specs.BySite.{rising_sites, IsListing}
use Rattle.site_bounds.specs.Listed.{changes}

listing_on : (chosen : ℕ → Bool) (n k : ℕ) → ((p : ℕ) → n ≤ p → p < n + k → chosen p ≡ false) → rising_sites chosen (n + k) ≡ rising_sites chosen n
listing_on chosen n zero none = (let same : n + zero ≡ n = omega arith in ap (rising_sites chosen) same)
listing_on chosen n (suc k) none =
    let next : n + suc k ≡ suc (n + k) = omega arith in
    ap (rising_sites chosen) next ∙ ap (λ b. rising_sites chosen (n + k) ++ cond b ((n + k) ∷ []) []) (none (n + k) (omega arith) (omega arith)) ∙ append-nil (rising_sites chosen (n + k))
    ∙ listing_on chosen n k (λ p l m. none p l (omega (arith, m)))

pub skipped : (chosen : ℕ → Bool) (from to : ℕ) (sites : List ℕ) → from ≤ to → ((p : ℕ) → from ≤ p → p < to → chosen p ≡ false) → IsListing chosen from sites → IsListing chosen to sites
skipped chosen from to sites l none listed =
    let all : from + (to - from) ≡ to = omega (arith, l) in
    listed ∙ sym (listing_on chosen from (to - from) (λ p m h. none p m (omega (arith, h, all)))) ∙ ap (rising_sites chosen) all

or_false : (a b : Bool) → (a || b) ≡ false → a ≡ false
or_false false b none = refl
or_false true b none = none

-- a site that does not change is not open
pub none_open : (move : Move) (f : ℕ → ℕ) (choices : List Choice) (p : ℕ) → changes move f choices p ≡ false → open_at choices p ≡ false
none_open move f choices p none = or_false (open_at choices p) _ none

-- one site more
pub listed_more : (chosen : ℕ → Bool) (site : ℕ) (b : Bool) (old new : List ℕ) → b ≡ chosen site → new ≡ old ++ cond b (site ∷ []) [] → IsListing chosen site old → IsListing chosen (site + 1) new
listed_more chosen site b old new is pushed listed =
    let next : suc site ≡ site + 1 = omega arith in
    pushed ∙ (λ i. listed i ++ cond (is i) (site ∷ []) []) ∙ ap (rising_sites chosen) next

-- one site more of a block, whose chosen sites are kept behind those that were listed before
pub kept_more : (chosen : ℕ → Bool) (from place : ℕ) (b : Bool) (before old new : List ℕ) → b ≡ chosen (from + place) → new ≡ old ++ cond b ((from + place) ∷ []) []
    → IsListing chosen (from + place) (before ++ old) → IsListing chosen (from + (place + 1)) (before ++ new)
kept_more chosen from place b before old new is kept listed =
    let next : from + place + 1 ≡ from + (place + 1) = omega arith in
    let L : ℕ → Type 0 = λ n. IsListing chosen n (before ++ new) in
    let more = ap (λ (xs : List ℕ). before ++ xs) kept ∙ sym (append_assoc before old (cond b ((from + place) ∷ []) [])) in
    subst L next (listed_more chosen (from + place) b (before ++ old) (before ++ new) is more listed)
