-- The links of the sites by label.
use Rattle.std.proofs.Common.{◌≡◌, ◌≢◌, ◌==◌, ◌||◌, ◌⊎◌, ℕ, ◌+◌, ◌<◌, ◌≤◌, Bool, true, false, List, length, get_or, refl, sym, ap, ◌∙◌, inl, inr, subst, arith}
use Rattle.std.specs.Prelude.{slice_set, min}
use Rattle.std.proofs.lemmas.Bool.{cases_eq, cases_lt, cases_Bool}
use Rattle.std.proofs.lemmas.List.{get_or-set_same, get_or-set_other, length-set, get_or_default, get_or-replicate}
use Rattle.std.specs.Prelude.{replicate}
use Rattle.label_energies.specs.Energies.{labelling}
use Rattle.move_energy.specs.BySite.{rising_sites, IsListing}
use Rattle.move_energy.proofs.Listings.{chosen_below, listing_has, listing_place}
use Rattle.move_energy.proofs.SiteSums.{test_true, test_false}
use Rattle.site_bounds.specs.Linked.{is_labelled, is_either_label, IsNext, AreOthersLinked, AreLinkedFrom, AreLinkedAndListed}
use Rattle.site_bounds.specs.Swapped.{has_either}
use Rattle.site_bounds.proofs.Skipping.{skipped}
use Rattle.site_bounds.proofs.Course.{rank_of, rank_climbs}
use Rattle.std.proofs.Math.ListN.{get_or-eq_default}
use Rattle.site_bounds.proofs.Among.{listed_inside}
use Rattle.site_bounds.proofs.Opening.{rising_same, or_true}

-- ---- the next chosen site

pub next_on : (chosen : ℕ → Bool) (n from to next : ℕ) → IsNext chosen n from next → from ≤ to → to ≤ next → IsNext chosen n to next
next_on chosen n from to next is l within = record {
  behind = within;
  within = is.within;
  found = is.found;
  none = λ p a b. is.none p (omega (arith, a, l)) b;
}

pub next_back : (chosen : ℕ → Bool) (n from to next : ℕ) → IsNext chosen n from next → to ≤ from → ((p : ℕ) → to ≤ p → p < from → chosen p ≡ false) → IsNext chosen n to next
next_back chosen n from to next is l none = record {
  behind = (let b = is.behind in omega (arith, l, b));
  within = is.within;
  found = is.found;
  none = λ p a b. elim (cases_lt p from) [
    | inl before ↦ none p a before
    | inr after ↦ is.none p after b
  ];
}

next_here : (chosen : ℕ → Bool) (n site : ℕ) → site < n → chosen site ≡ true → IsNext chosen n site site
next_here chosen n site l is = record {
  behind = omega arith;
  within = omega (arith, l);
  found = λ _. is;
  none = λ p a b. absurd (omega (arith, a, b));
}

next_none : (chosen : ℕ → Bool) (n next : ℕ) → next ≡ n → IsNext chosen n n next
next_none chosen n next is = record {
  behind = omega (arith, is);
  within = omega (arith, is);
  found = λ l. absurd (omega (arith, is, l));
  none = λ p a b. absurd (omega (arith, is, a, b));
}

next_same : (one two : ℕ → Bool) (n from next : ℕ) → ((p : ℕ) → p < n → one p ≡ two p) → IsNext one n from next → IsNext two n from next
next_same one two n from next same is = record {
  behind = is.behind;
  within = is.within;
  found = λ l. sym (same next l) ∙ is.found l;
  none = λ p a b. (let w = is.within in sym (same p (omega (arith, b, w))) ∙ is.none p a b);
}

-- ---- a site more is linked

apart_labels : (some : ℕ → Bool) (one other : ℕ) → some one ≡ true → some other ≡ false → other ≢ one
apart_labels some one other is off same = absurd (cc (is, off, ap some same))

set_at : (xs : List ℕ) (u v : ℕ) → u < length xs → get_or (slice_set xs u v) u 0 ≡ v
set_at xs u v l = get_or-set_same xs u v 0 l

set_off : (xs : List ℕ) (u p v : ℕ) → p ≢ u → get_or (slice_set xs u v) p 0 ≡ get_or xs p 0
set_off xs u p v off = get_or-set_other xs u p v 0 (λ same. off (omega (arith, same)))

pub linked_more : (some : ℕ → Bool) (site n : ℕ) (f : ℕ → ℕ) (firsts nexts : List ℕ) → site < n → f site < 256 → length firsts ≡ 256 → site < length nexts → some (f site) ≡ true
    → AreLinkedFrom some (site + 1) n f firsts nexts → AreLinkedFrom some site n f (slice_set firsts (f site) site) (slice_set nexts site (get_or firsts (f site) 0))
linked_more some site n f firsts nexts l small_label len room is linked =
    let inside : f site < length firsts = omega (arith, small_label, len) in
    let N : (chosen : ℕ → Bool) (from : ℕ) → ℕ → Type 0 = λ chosen from next. IsNext chosen n from next in
    record {
      first = λ label small chosen. elim (cases_eq label (f site)) [
        | inl same ↦
            subst (N (is_labelled label f) site) (sym (ap (λ k. get_or (slice_set firsts (f site) site) k 0) same ∙ set_at firsts (f site) site inside))
            (next_here (is_labelled label f) n site l (test_true (f site) label (sym same)))
        | inr off ↦
            subst (N (is_labelled label f) site) (sym (set_off firsts (f site) label site off))
            (next_back (is_labelled label f) n (site + 1) site _ (linked.first label small chosen) (omega arith) (λ p a b. (
            let here : p ≡ site = omega (arith, a, b) in
            test_false (f p) label (λ same. off (sym same ∙ ap f here))
            )))
      ];
      next = λ p from within chosen. elim (cases_eq p site) [
        | inl same ↦
            subst (λ q. IsNext (is_labelled (f q) f) n (q + 1) (get_or (slice_set nexts site (get_or firsts (f site) 0)) q 0)) (sym same)
            (subst (N (is_labelled (f site) f) (site + 1)) (sym (set_at nexts site (get_or firsts (f site) 0) room)) (linked.first (f site) small_label is))
        | inr off ↦ subst (N (is_labelled (f p) f) (p + 1)) (sym (set_off nexts site p (get_or firsts (f site) 0) off)) (linked.next p (omega (arith, from, off)) within chosen)
      ];
      others = record {
        first = λ label small other.
            subst (N (is_labelled label f) 0) (sym (set_off firsts (f site) label site (apart_labels some (f site) label is other))) (linked.others.first label small other);
        next = λ p within other.
            subst (N (is_labelled (f p) f) (p + 1)) (sym (set_off nexts site p (get_or firsts (f site) 0) (λ same. apart_labels some (f site) (f p) is other (ap f same))))
            (linked.others.next p within other);
      };
    }

-- sites that have none of the labels are passed over
pub linked_back : (some : ℕ → Bool) (from to n : ℕ) (f : ℕ → ℕ) (firsts nexts : List ℕ) → to ≤ from → ((p : ℕ) → to ≤ p → p < from → some (f p) ≡ false)
    → AreLinkedFrom some from n f firsts nexts → AreLinkedFrom some to n f firsts nexts
linked_back some from to n f firsts nexts l none linked = record {
  first = λ label small chosen.
      next_back (is_labelled label f) n from to _ (linked.first label small chosen) l (λ p a b. test_false (f p) label (λ same. apart_labels some label (f p) chosen (none p a b) same));
  next = λ p from_p within chosen. elim (cases_lt p from) [
    | inl before ↦ absurd (cc (chosen, none p from_p before))
    | inr after ↦ linked.next p after within chosen
  ];
  others = linked.others;
}

-- ---- all sites

no_others : (n : ℕ) (f : ℕ → ℕ) (firsts nexts : List ℕ) → AreOthersLinked (λ _. true) n f firsts nexts
no_others n f firsts nexts = record {
  first = λ label small off. absurd (cc off);
  next = λ p within off. absurd (cc off);
}

-- none is linked yet
pub none_linked : (n : ℕ) (f : ℕ → ℕ) (firsts nexts : List ℕ) → firsts ≡ replicate 256 n → AreLinkedFrom (λ _. true) n n f firsts nexts
none_linked n f firsts nexts are = record {
  first = λ label small _.
      next_none (is_labelled label f) n _ (ap (λ (xs : List ℕ). get_or xs label 0) are ∙ get_or-replicate 256 label n 0 small);
  next = λ p from within _. absurd (omega (arith, from, within));
  others = no_others n f firsts nexts;
}

pub all_linked : (some : ℕ → Bool) (n : ℕ) (f : ℕ → ℕ) (firsts nexts : List ℕ) → AreLinkedFrom some 0 n f firsts nexts → AreLinkedFrom (λ _. true) 0 n f firsts nexts
all_linked some n f firsts nexts linked = record {
  first = λ label small _. elim (cases_Bool (some label)) [
    | inl is ↦ linked.first label small is
    | inr off ↦ linked.others.first label small off
  ];
  next = λ p from within _. elim (cases_Bool (some (f p))) [
    | inl is ↦ linked.next p from within is
    | inr off ↦ linked.others.next p within off
  ];
  others = no_others n f firsts nexts;
}

-- ---- the sites of two labels

is_one : (a b : Bool) → (a || b) ≡ true → (a ≡ true) ⊎ (b ≡ true)
is_one true b is = inl refl
is_one false b is = inr is

test_same : (a b : ℕ) → (a == b) ≡ true → a ≡ b
test_same a b is = elim (cases_eq a b) [
  | inl same ↦ same
  | inr off ↦ absurd (cc (is, test_false a b off))
]

last_set : (xs : List ℕ) (a b n label : ℕ) → length xs ≡ 256 → a < 256 → b < 256 → is_either_label a b label ≡ true → get_or (slice_set (slice_set xs a n) b n) label 0 ≡ n
last_set xs a b n label len la lb is = elim (cases_eq label b) [
  | inl same ↦ ap (λ k. get_or (slice_set (slice_set xs a n) b n) k 0) same ∙ set_at (slice_set xs a n) b n (omega (arith, lb, len, length-set xs a n))
  | inr off ↦ set_off (slice_set xs a n) b label n off ∙ elim (is_one (label == a) (label == b) is) [
    | inl one ↦ ap (λ k. get_or (slice_set xs a n) k 0) (test_same label a one) ∙ set_at xs a n (omega (arith, la, len))
    | inr other ↦ absurd (off (test_same label b other))
  ]
]

off_one : (a b : Bool) → (a || b) ≡ false → (a ≡ false) × (b ≡ false)
off_one true b is = absurd (cc is)
off_one false b is = (refl, is)

test_apart : (a b : ℕ) → (a == b) ≡ false → a ≢ b
test_apart a b off same = absurd (cc (off, test_true a b same))

-- none of two labels is linked yet
pub others_linked : (a b n : ℕ) (f : ℕ → ℕ) (firsts nexts : List ℕ) → length firsts ≡ 256 → a < 256 → b < 256 → AreOthersLinked (is_either_label a b) n f firsts nexts
    → AreLinkedFrom (is_either_label a b) n n f (slice_set (slice_set firsts a n) b n) nexts
others_linked a b n f firsts nexts len la lb others = record {
  first = λ label small is. next_none (is_labelled label f) n _ (last_set firsts a b n label len la lb is);
  next = λ p from within _. absurd (omega (arith, from, within));
  others = record {
    first = λ label small off.
        let apart = off_one (label == a) (label == b) off in
        subst (λ next. IsNext (is_labelled label f) n 0 next)
        (sym (set_off (slice_set firsts a n) b label n (test_apart label b apart.1) ∙ set_off firsts a label n (test_apart label a apart.0)))
        (others.first label small off);
    next = others.next;
  };
}

-- ---- between two sites of a list

-- no chosen site stands between two that follow one another
pub none_between : (chosen : ℕ → Bool) (n k p : ℕ) (sites : List ℕ) → IsListing chosen n sites → k < length sites → get_or sites k 0 + 1 ≤ p → p < get_or sites (k + 1) n → p < n → chosen p ≡ false
none_between chosen n k p sites listed l after before within = elim (cases_Bool (chosen p)) [
  | inr off ↦ off
  | inl is ↦ (
      let e = ap (λ (xs : List ℕ). length xs) listed in
      let found = listing_place chosen n p within is in
      let site = get_or sites k 0 in
      let same : get_or sites k 0 ≡ get_or (rising_sites chosen n) k 0 = ap (λ (xs : List ℕ). get_or xs k 0) listed in
      let has = listing_has chosen n k (omega (arith, l, e)) in
      let here : chosen site ≡ true = ap chosen same ∙ has.1 in
      let at : chosen_below chosen site ≡ k = rank_of chosen n k sites listed l in
      let climbs : chosen_below chosen site < chosen_below chosen p = rank_climbs chosen site p (omega (arith, after)) here in
      elim (cases_lt (k + 1) (length sites)) [
        | inr last ↦ absurd (omega (arith, climbs, at, found.0, e, last))
        | inl more ↦ (
            let next = get_or sites (k + 1) 0 in
            let earlier : p < next = (let d = get_or_default sites (k + 1) n 0 more in omega (arith, before, d)) in
            let place : chosen_below chosen next ≡ k + 1 = rank_of chosen n (k + 1) sites listed more in
            let later = rank_climbs chosen p next earlier is in
            absurd (omega (arith, climbs, later, at, place))
            )
      ]
      )
]

-- nor before the first
pub none_before : (chosen : ℕ → Bool) (n p : ℕ) (sites : List ℕ) → IsListing chosen n sites → p < get_or sites 0 n → p < n → chosen p ≡ false
none_before chosen n p sites listed before within = elim (cases_Bool (chosen p)) [
  | inr off ↦ off
  | inl is ↦ (
      let e = ap (λ (xs : List ℕ). length xs) listed in
      let found = listing_place chosen n p within is in
      let some : 0 < length sites = omega (arith, found.0, e) in
      let next = get_or sites 0 0 in
      let earlier : p < next = (let d = get_or_default sites 0 n 0 some in omega (arith, before, d)) in
      let place : chosen_below chosen next ≡ 0 = rank_of chosen n 0 sites listed some in
      let later = rank_climbs chosen p next earlier is in
      absurd (omega (arith, later, place))
      )
]

-- ---- the sites of a swap have other labels, of the same two

-- of the sites of two labels each still has one of them, and the others have theirs
pub still_either : (a b n : ℕ) (f g : ℕ → ℕ) (own : List ℕ) → IsListing (has_either a b g) n own → ((p : ℕ) → ((k : ℕ) → k < length own → get_or own k 0 ≢ p) → f p ≡ g p)
    → ((k : ℕ) → k < length own → has_either a b f (get_or own k 0) ≡ true) → (p : ℕ) → p < n → (has_either a b g p ≡ has_either a b f p) × (has_either a b g p ≡ false → f p ≡ g p)
still_either a b n f g own listed others either p l =
    let chosen = has_either a b g in
    let e = ap (λ (xs : List ℕ). length xs) listed in
    elim (cases_Bool (chosen p)) [
      | inl is ↦ (
          let found = listing_place chosen n p l is in
          let k = chosen_below chosen p in
          let here : get_or own k 0 ≡ p = ap (λ (xs : List ℕ). get_or xs k 0) listed ∙ found.1 in
          (is ∙ sym (sym (ap (has_either a b f) here) ∙ either k (omega (arith, found.0, e))), λ off. absurd (cc (is, off)))
          )
      | inr off ↦ (
          let same : f p ≡ g p = others p (λ k m here. (
          let at : get_or own k 0 ≡ get_or (rising_sites chosen n) k 0 = ap (λ (xs : List ℕ). get_or xs k 0) listed in
          let has = listing_has chosen n k (omega (arith, m, e)) in
          absurd (cc (off, has.1, ap chosen (sym at ∙ here)))
          )) in
          (sym (ap (λ v. (v == a) || (v == b)) same), λ _. same)
          )
    ]

not_either : (a b v label : ℕ) → is_either_label a b v ≡ true → is_either_label a b label ≡ false → (v == label) ≡ false
not_either a b v label is off = test_false v label (λ same. absurd (cc (is, off, ap (is_either_label a b) same)))

pub own_linked : (a b : ℕ) (old at firsts nexts own : List ℕ) → length old ≡ length at → AreLinkedAndListed old firsts nexts own a b
    → ((p : ℕ) → ((k : ℕ) → k < length own → get_or own k 0 ≢ p) → labelling at p ≡ labelling old p)
    → ((k : ℕ) → k < length own → has_either a b (labelling at) (get_or own k 0) ≡ true)
    → IsListing (has_either a b (labelling at)) (length at) own × AreOthersLinked (is_either_label a b) (length at) (labelling at) firsts nexts
own_linked a b old at firsts nexts own size linked others either =
    let f = labelling at in
    let g = labelling old in
    let n = length at in
    let listed = subst (λ k. IsListing (has_either a b g) k own) size linked.listed in
    let links = subst (λ k. AreLinkedFrom (λ _. true) 0 k g firsts nexts) size linked.linked.links in
    let still = still_either a b n f g own listed others either in
    let same_test : (label : ℕ) → is_either_label a b label ≡ false → (p : ℕ) → p < n → is_labelled label g p ≡ is_labelled label f p = λ label off p l. elim (cases_Bool (has_either a b g p)) [
      | inl is ↦ not_either a b (g p) label is off ∙ sym (not_either a b (f p) label (sym (still p l).0 ∙ is) off)
      | inr none ↦ sym (ap (λ v. v == label) ((still p l).1 none))
    ] in (
      listed ∙ rising_same (has_either a b g) (has_either a b f) n (λ p l. (still p l).0),
      record {
        first = λ label small off. next_same (is_labelled label g) (is_labelled label f) n 0 _ (same_test label off) (links.first label small refl);
        next = λ p within off.
            let stays : f p ≡ g p = (still p within).1 ((still p within).0 ∙ off) in
            next_same (is_labelled (f p) g) (is_labelled (f p) f) n (p + 1) _ (same_test (f p) off)
            (subst (λ label. IsNext (is_labelled label g) n (p + 1) (get_or nexts p 0)) (sym stays) (links.next p (omega arith) within refl));
      },
    )

-- ---- the sites of two labels are listed

pub none_of_either : (a b n from x y to : ℕ) (f : ℕ → ℕ) → IsNext (is_labelled a f) n from x → IsNext (is_labelled b f) n from y → to ≤ x → to ≤ y → (p : ℕ) → from ≤ p → p < to → has_either a b f p ≡ false
none_of_either a b n from x y to f one other lx ly p l m =
    λ i. one.none p l (omega (arith, m, lx)) i || other.none p l (omega (arith, m, ly)) i

min_one : (x y : ℕ) → (min x y ≡ x) ⊎ (min x y ≡ y)
min_one x y = elim (cases_lt x y) [
  | inl less ↦ inl (omega (arith, less))
  | inr more ↦ inr (omega (arith, more))
]

-- once the first of the next two is known
pub either_on : (a b n from x y site : ℕ) (f : ℕ → ℕ) (list : List ℕ) → site ≡ min x y → IsNext (is_labelled a f) n from x → IsNext (is_labelled b f) n from y → IsListing (has_either a b f) from list
    → IsNext (is_labelled a f) n site x × IsNext (is_labelled b f) n site y × ((site ≡ x) ⊎ (site ≡ y)) × IsListing (has_either a b f) site list
either_on a b n from x y site f list is one other listed =
    let one_on : from ≤ x = one.behind in
    let other_on : from ≤ y = other.behind in
    let least : (site ≡ x) ⊎ (site ≡ y) = elim (min_one x y) [
      | inl first ↦ inl (is ∙ first)
      | inr second ↦ inr (is ∙ second)
    ] in
    let before : site ≤ x = omega (arith, is) in
    let before_other : site ≤ y = omega (arith, is) in
    let on : from ≤ site = omega (arith, is, one_on, other_on) in (
      next_on (is_labelled a f) n from site x one on before,
      next_on (is_labelled b f) n from site y other on before_other,
      least,
      skipped (has_either a b f) from site list on (none_of_either a b n from x y site f one other before before_other) listed,
    )

-- the next of a label, once its first site is listed
pub either_next : (a b n site x y next new same : ℕ) (f : ℕ → ℕ) → a ≢ b → site < n → site ≡ x → IsNext (is_labelled a f) n site x → IsNext (is_labelled b f) n site y
    → IsNext (is_labelled (f site) f) n (site + 1) next → new ≡ next → same ≡ y → IsNext (is_labelled a f) n (site + 1) new × IsNext (is_labelled b f) n (site + 1) same × (f site ≡ a)
either_next a b n site x y next new same f apart l here one other after is was =
    let has : f site ≡ a = test_same (f site) a (ap (is_labelled a f) here ∙ one.found (omega (arith, here, l))) in
    let off : y ≢ site = λ at. apart (sym has ∙ test_same (f site) b (ap (is_labelled b f) (sym at) ∙ other.found (omega (arith, at, l)))) in
    let on : site ≤ y = other.behind in (
      subst (λ v. IsNext (is_labelled a f) n (site + 1) v) (sym is) (subst (λ label. IsNext (is_labelled label f) n (site + 1) next) has after),
      subst (λ v. IsNext (is_labelled b f) n (site + 1) v) (sym was) (next_on (is_labelled b f) n site (site + 1) y other (omega arith) (omega (arith, on, off))),
      has,
    )

-- ---- from one listed site to the next

pub climbs : (chosen : ℕ → Bool) (n k : ℕ) (sites : List ℕ) → IsListing chosen n sites → k < length sites → get_or sites k 0 < n → get_or sites k 0 + 1 ≤ get_or sites (k + 1) n
climbs chosen n k sites listed l inside = elim (cases_lt (k + 1) (length sites)) [
  | inr last ↦ (let d : get_or sites (k + 1) n ≡ n = get_or-eq_default sites n {n = k + 1} (omega (arith, last)) in omega (arith, d, inside))
  | inl more ↦ (
      let site = get_or sites k 0 in
      let next = get_or sites (k + 1) 0 in
      let d = get_or_default sites (k + 1) n 0 more in
      let at : chosen_below chosen site ≡ k = rank_of chosen n k sites listed l in
      let place : chosen_below chosen next ≡ k + 1 = rank_of chosen n (k + 1) sites listed more in
      elim (cases_lt site next) [
        | inl after ↦ omega (arith, d, after)
        | inr before ↦ elim (cases_eq next site) [
          | inl same ↦ absurd (omega (arith, ap (chosen_below chosen) same, at, place))
          | inr other ↦ (
              let e = ap (λ (xs : List ℕ). length xs) listed in
              let same : next ≡ get_or (rising_sites chosen n) (k + 1) 0 = ap (λ (xs : List ℕ). get_or xs (k + 1) 0) listed in
              let has = listing_has chosen n (k + 1) (omega (arith, more, e)) in
              let is : chosen next ≡ true = ap chosen same ∙ has.1 in
              absurd (omega (arith, rank_climbs chosen next site (omega (arith, before, other)) is, at, place))
              )
        ]
      ]
      )
]

pub next_within : (chosen : ℕ → Bool) (n k : ℕ) (sites : List ℕ) → IsListing chosen n sites → get_or sites k n ≤ n
next_within chosen n k sites listed = elim (cases_lt k (length sites)) [
  | inl inside ↦ (let d = get_or_default sites k n 0 inside in let l = listed_inside chosen n sites k listed inside in omega (arith, d, l))
  | inr beyond ↦ (let d : get_or sites k n ≡ n = get_or-eq_default sites n {n = k} beyond in omega (arith, d))
]

pub listed_chosen : (chosen : ℕ → Bool) (n : ℕ) (sites : List ℕ) (k : ℕ) → IsListing chosen n sites → k < length sites → chosen (get_or sites k 0) ≡ true
listed_chosen chosen n sites k listed l =
    let e = ap (λ (xs : List ℕ). length xs) listed in
    let same : get_or sites k 0 ≡ get_or (rising_sites chosen n) k 0 = ap (λ (xs : List ℕ). get_or xs k 0) listed in
    ap chosen same ∙ (listing_has chosen n k (omega (arith, l, e))).1

pub either_is : (a b v : ℕ) → (v ≡ a) ⊎ (v ≡ b) → is_either_label a b v ≡ true
either_is a b v (inl one) = ap (λ t. t || (v == b)) (test_true v a one)
either_is a b v (inr other) = ap (λ t. (v == a) || t) (test_true v b other) ∙ or_true (v == a)
