-- The open sites of a strip, one after another.
use Rattle.std.proofs.Common.{◌≡◌, ◌≢◌, ◌<◌, ◌≤◌, ◌+◌, ◌++◌, ◌∷◌, [], ℕ, zero, suc, Bool, true, false, cond, List, length, get_or, refl, sym, ap, subst, ◌∙◌, inl, inr, add-one, arith}
use Rattle.std.specs.Prelude.{filter, ◌↔◌, IsTrue}
use Rattle.std.proofs.lemmas.Bool.{cases_eq, cases_lt}
use Rattle.std.proofs.lemmas.List.{append-nil, get_or_default}
use Rattle.std.proofs.lemmas.List.Elements.{filter-append}
use Rattle.move_energy.specs.declared.choice.Choice.{Choice}
use Rattle.move_energy.specs.declared.choice.Choice.TheVariants.{Open, Zero, One}
use Rattle.move_energy.specs.BySite.{rising_sites}
use Rattle.move_energy.specs.Choices.{choice_at, is_open, open_at, AreOpenSites}
use Rattle.move_energy.proofs.Opened.{open_true}
use Rattle.persistency.specs.Agreeing.{or_else}
use Rattle.persistency.specs.Borders.{range_of}
use Rattle.strip_nets.specs.Views.{strip_view}
use Rattle.strip_nets.proofs.Views.{in_range, above_range, below_range, range_more, view_length, open_is, seen_out, inside_open, whole_is}

-- ---- lists of sites

pub listing_same : (a b : ℕ → Bool) (n : ℕ) → ((p : ℕ) → p < n → a p ≡ b p) → rising_sites a n ≡ rising_sites b n
listing_same a b zero same = refl
listing_same a b (suc n) same =
    ap (λ (xs : List ℕ). xs ++ cond (a n) (n ∷ []) []) (listing_same a b n (λ p l. same p (omega (arith, l))))
    ∙ ap (λ (c : Bool). rising_sites b n ++ cond c (n ∷ []) []) (same n (omega arith))

pub none_more : (xs : List ℕ) (n : ℕ) (b : Bool) → b ≡ false → xs ++ cond b (n ∷ []) [] ≡ xs
none_more xs n true h = absurd (cc (h))
none_more xs n false h = append-nil xs

pub listing_from : (chosen : ℕ → Bool) (k n : ℕ) → k ≤ n → ((p : ℕ) → k ≤ p → p < n → chosen p ≡ false) → rising_sites chosen n ≡ rising_sites chosen k
listing_from chosen k zero l none = ap (rising_sites chosen) (let e : zero ≡ k = omega (arith, l) in e)
listing_from chosen k (suc n) l none = elim (cases_eq k (suc n)) [
  | inl same ↦ ap (rising_sites chosen) (sym same)
  | inr other ↦
      let less : k ≤ n = omega (arith, l, other) in
      none_more (rising_sites chosen n) n (chosen n) (none n less (omega arith))
      ∙ listing_from chosen k n less (λ p from small. none p from (omega (arith, small)))
]

one_more : (xs : List ℕ) (n : ℕ) (b : Bool) → b ≡ true → xs ++ cond b (n ∷ []) [] ≡ xs ++ n ∷ []
one_more xs n true h = refl
one_more xs n false h = absurd (cc (h))

-- those of the listed sites that a test keeps, where fewer are chosen
kept_last : (q : ℕ → Bool) (n : ℕ) (a b : Bool) → (b ≡ true → a ≡ true) → (a ≡ true → q n ≡ b) → filter q (cond a (n ∷ []) []) ≡ cond b (n ∷ []) []
kept_last q n true b within is = ap (λ (c : Bool). cond c (n ∷ []) []) (is refl)
kept_last q n false true within is = absurd (cc (within refl))
kept_last q n false false within is = refl

pub listing_left : (a b q : ℕ → Bool) (n : ℕ) → ((p : ℕ) → p < n → b p ≡ true → a p ≡ true) → ((p : ℕ) → p < n → a p ≡ true → q p ≡ b p)
    → filter q (rising_sites a n) ≡ rising_sites b n
listing_left a b q zero within is = refl
listing_left a b q (suc n) within is =
    filter-append q (rising_sites a n) (cond (a n) (n ∷ []) [])
    ∙ ap (λ (xs : List ℕ). xs ++ filter q (cond (a n) (n ∷ []) [])) (listing_left a b q n (λ p l. within p (omega (arith, l))) (λ p l. is p (omega (arith, l))))
    ∙ ap (λ (ys : List ℕ). rising_sites b n ++ ys) (kept_last q n (a n) (b n) (within n (omega arith)) (is n (omega arith)))

-- ---- the sites of a range

none_from : (known : List Choice) (from to p : ℕ) → to ≤ p → open_at (strip_view known from to) p ≡ false
none_from known from to p l = open_is known from to p ∙ seen_out known from to p (above_range from to p l)

-- the list of the open sites of a range is that of those before its end
before_end : (known : List Choice) (from to : ℕ) → to ≤ length known
    → rising_sites (open_at (strip_view known from to)) (length (strip_view known from to)) ≡ rising_sites (open_at (strip_view known from to)) to
before_end known from to l =
    listing_from (open_at (strip_view known from to)) to (length (strip_view known from to)) (omega (arith, l, view_length known from to)) (λ p past small. none_from known from to p past)

pub none_listed : (known : List Choice) (from : ℕ) (opened : List ℕ) → opened ≡ [] → AreOpenSites (strip_view known from from) opened
none_listed known from opened none =
    let v = strip_view known from from in
    none ∙ sym (listing_from (open_at v) 0 (length v) (omega arith)
    (λ p past small. open_is known from from p ∙ seen_out known from from p (elim (cases_lt p from) [ inl l ↦ below_range from from p l | inr h ↦ above_range from from p (omega (arith, h)) ])))

same_open : (known : List Choice) (from s p : ℕ) → p ≢ s → open_at (strip_view known from (s + 1)) p ≡ open_at (strip_view known from s) p
same_open known from s p other =
    open_is known from (s + 1) p ∙ ap (λ (b : Bool). is_open (cond b (choice_at known p) (or_else (choice_at known p) Zero))) (range_more from s p other)
    ∙ sym (open_is known from s p)

not_open : (b : Bool) (c : Choice) → c ≢ Open → is_open (cond b c (or_else c Zero)) ≡ false
not_open b Open h = absurd (h refl)
not_open true Zero h = refl
not_open false Zero h = refl
not_open true One h = refl
not_open false One h = refl

still_shut : (known : List Choice) (from s p : ℕ) → p ≡ s → choice_at known s ≢ Open → open_at (strip_view known from (s + 1)) p ≡ open_at (strip_view known from s) p
still_shut known from s p here shuts =
    let is : choice_at known p ≢ Open = λ o. shuts (ap (choice_at known) (sym here) ∙ o) in
    open_is known from (s + 1) p ∙ not_open (range_of from (s + 1) p) (choice_at known p) is
    ∙ sym (not_open (range_of from s p) (choice_at known p) is) ∙ sym (open_is known from s p)

-- a site that is not open
pub next_shut : (known : List Choice) (from s : ℕ) (opened : List ℕ) → choice_at known s ≢ Open → AreOpenSites (strip_view known from s) opened
    → AreOpenSites (strip_view known from (s + 1)) opened
next_shut known from s opened shuts listed =
    listed ∙ ap (rising_sites (open_at (strip_view known from s))) (view_length known from s ∙ sym (view_length known from (s + 1)))
    ∙ sym (listing_same (open_at (strip_view known from (s + 1))) (open_at (strip_view known from s)) (length (strip_view known from (s + 1)))
    (λ p l. elim (cases_eq p s) [
      | inl here ↦ still_shut known from s p here shuts
      | inr other ↦ same_open known from s p other
    ]))

-- a site that is
pub next_open : (known : List Choice) (from s : ℕ) (opened more : List ℕ) → from ≤ s → s < length known → choice_at known s ≡ Open → more ≡ opened ++ s ∷ []
    → AreOpenSites (strip_view known from s) opened → AreOpenSites (strip_view known from (s + 1)) more
next_open known from s opened more after inside is adds listed =
    let v = strip_view known from s in
    let w = strip_view known from (s + 1) in
    let here : open_at w s ≡ true = inside_open known from (s + 1) s (in_range from (s + 1) s after (omega arith)) (open_true (choice_at known s) is) in
    let below : rising_sites (open_at v) s ≡ rising_sites (open_at w) s = listing_same (open_at v) (open_at w) s (λ p l. sym (same_open known from s p (λ e. (omega (arith, l, e))))) in
    adds ∙ ap (λ (xs : List ℕ). xs ++ s ∷ []) (listed ∙ before_end known from s (omega (arith, inside)) ∙ below)
    ∙ sym (one_more (rising_sites (open_at w) s) s (open_at w s) here)
    ∙ ap (rising_sites (open_at w)) (sym (add-one s)) ∙ sym (before_end known from (s + 1) (omega (arith, inside)))

-- ---- the whole

pub whole_listed : (known : List Choice) (to : ℕ) (opened : List ℕ) → length known ≤ to → AreOpenSites (strip_view known 0 to) opened → AreOpenSites known opened
whole_listed known to opened all listed =
    listed ∙ (λ j. rising_sites (λ p. is_open (whole_is known to all j p)) (view_length known 0 to j))

-- a site is kept where it is open
pub next_kept : (known : List Choice) (first site : ℕ) (b : Bool) (old new : List ℕ) → first ≤ site → site < length known → (IsTrue b ↔ (get_or known site Open ≡ Open))
    → new ≡ old ++ cond b (site ∷ []) [] → AreOpenSites (strip_view known first site) old → AreOpenSites (strip_view known first (site + 1)) new
next_kept known first site true old new after l opens is listed = next_open known first site old new after l (sym (get_or_default known site Open Zero l) ∙ opens.0 refl) is listed
next_kept known first site false old new after l opens is listed =
    let shuts : choice_at known site ≢ Open = λ same. (let e = opens.1 (get_or_default known site Open Zero l ∙ same) in cc (e)) in
    subst (λ (xs : List ℕ). AreOpenSites (strip_view known first (site + 1)) xs) (sym (is ∙ append-nil old)) (next_shut known first site old shuts listed)
