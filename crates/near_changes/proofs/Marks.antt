-- Marks, and the lists of the marked sites.
use Rattle.std.proofs.Common.{◌≡◌, ◌⊎◌, ℕ, ◌<◌, Bool, true, false, cond, List, [], ◌∷◌, ◌++◌, length, get_or, All, refl, sym, ap, ◌∙◌, subst, inl, inr, arith}
use Rattle.std.specs.Prelude.{slice_set}
use Rattle.std.specs.List.{Contains}
use Rattle.std.proofs.lemmas.Bool.{cases_eq}
use Rattle.std.proofs.lemmas.List.{append-nil, length-set, get_or-set_same, get_or-set_other}
use Rattle.std.proofs.lemmas.List.Elements.{All-push, Contains-append_left, Contains-push, Contains-append_cases}
use Rattle.near_changes.specs.Looking.{is_marked}
use Rattle.near_changes.specs.Working.{IsMarkedToo, IsListedToo, AreSiteMarks, StaysMarked}

clash : (b : Bool) → b ≡ true → b ≡ false → ⊥
clash b h k = (let e = sym h ∙ k in cc (e))

-- ---- one site

pub too_set : (site : ℕ) (old new : List Bool) → site < length old → new ≡ slice_set old site true → IsMarkedToo site old new
too_set site old new l is = record {
  count = ap (λ (xs : List Bool). length xs) is ∙ length-set old site true;
  each = λ p. elim (cases_eq p site) [
    | inl same ↦
        let here : is_marked new p ≡ true = ap (λ (xs : List Bool). is_marked xs p) is ∙ ap (is_marked (slice_set old site true)) same ∙ get_or-set_same old site true false l in
        ((λ held. inr same), (λ way. here))
    | inr other ↦
        let here : is_marked new p ≡ is_marked old p = ap (λ (xs : List Bool). is_marked xs p) is ∙ get_or-set_other old site p true false other in
        ((λ held. inl (sym here ∙ held)), (λ way. elim way [ inl was ↦ here ∙ was | inr same ↦ absurd (other same) ]))
  ];
}

pub too_was : (site : ℕ) (old : List Bool) → is_marked old site ≡ true → IsMarkedToo site old old
too_was site old was = record {
  count = refl;
  each = λ p. ((λ held. inl held), (λ way. elim way [ inl held ↦ held | inr same ↦ ap (is_marked old) same ∙ was ]));
}

pub too_stays : (site : ℕ) (old new : List Bool) → IsMarkedToo site old new → StaysMarked old new
too_stays site old new too p held = (too.each p).1 (inl held)

pub too_here : (site : ℕ) (old new : List Bool) → IsMarkedToo site old new → is_marked new site ≡ true
too_here site old new too = (too.each site).1 (inr refl)

pub listed_new : (site : ℕ) (flags : List Bool) (old new : List ℕ) → is_marked flags site ≡ false → new ≡ old ++ site ∷ [] → IsListedToo site flags old new
listed_new site flags old new not is = is ∙ ap (λ b. old ++ cond b [] (site ∷ [])) (sym not)

pub listed_was : (site : ℕ) (flags : List Bool) (old : List ℕ) → is_marked flags site ≡ true → IsListedToo site flags old old
listed_was site flags old was = sym (append-nil old) ∙ ap (λ b. old ++ cond b [] (site ∷ [])) (sym was)

-- ---- all sites

pub marks_none : (n : ℕ) (flags : List Bool) (sites : List ℕ) → length flags ≡ n → ((p : ℕ) → is_marked flags p ≡ false) → length sites ≡ 0 → AreSiteMarks n flags sites
marks_none n flags sites count none empty = record {
  count = count;
  listed = λ p l. ((λ held. absurd (clash (is_marked flags p) held (none p))), (λ has. absurd (omega (arith, has.1, empty))));
  inside = λ k d l. absurd (omega (arith, l, empty));
}

-- where a site stands once it is marked too
found_more : (site p : ℕ) (b : Bool) (sites : List ℕ) → ((b ≡ true) → Contains sites site) → (Contains sites p) ⊎ (p ≡ site) → Contains (sites ++ cond b [] (site ∷ [])) p
found_more site p b sites was (inl has) = Contains-append_left sites (cond b [] (site ∷ [])) p has
found_more site p true sites was (inr same) =
    let P : ℕ → Type 0 = λ q. Contains (sites ++ []) q in
    subst P (sym same) (Contains-append_left sites [] site (was refl))
found_more site p false sites was (inr same) =
    let P : ℕ → Type 0 = λ q. Contains (sites ++ site ∷ []) q in
    subst P (sym same) (Contains-push sites site)

lone : (site p : ℕ) (b : Bool) → Contains (cond b [] (site ∷ [])) p → p ≡ site
lone site p true has = absurd (omega (arith, has.1))
lone site p false has = elim (cases_eq has.0 0) [
  | inl first ↦ sym has.2 ∙ ap (λ k. get_or (site ∷ []) k p) first
  | inr more ↦ absurd (omega (arith, has.1, more))
]

from_more : (site p : ℕ) (b : Bool) (sites : List ℕ) → Contains (sites ++ cond b [] (site ∷ [])) p → (Contains sites p) ⊎ (p ≡ site)
from_more site p b sites has = elim (Contains-append_cases sites (cond b [] (site ∷ [])) p has) [
  | inl old ↦ inl old
  | inr new ↦ inr (lone site p b new)
]

inside_more : (n site : ℕ) (b : Bool) (sites : List ℕ) → site < n → All (λ p. p < n) sites → All (λ p. p < n) (sites ++ cond b [] (site ∷ []))
inside_more n site true sites l all = (let P : List ℕ → Type 0 = λ xs. All (λ p. p < n) xs in subst P (sym (append-nil sites)) all)
inside_more n site false sites l all = All-push (λ p. p < n) sites site all l

pub marks_more : (n site : ℕ) (old new : List Bool) (before after : List ℕ) → site < n → IsMarkedToo site old new → IsListedToo site old before after
    → AreSiteMarks n old before → AreSiteMarks n new after
marks_more n site old new before after l too is marks =
    let P : ℕ → List ℕ → Type 0 = λ p xs. Contains xs p in
    let Q : List ℕ → Type 0 = λ xs. All (λ p. p < n) xs in
    record {
      count = too.count ∙ marks.count;
      listed = λ p k. (
        (λ held. subst (P p) (sym is) (found_more site p (is_marked old site) before (λ was. (marks.listed site l).0 was)
            (elim ((too.each p).0 held) [ inl was ↦ inl ((marks.listed p k).0 was) | inr same ↦ inr same ]))),
        (λ has. (too.each p).1 (elim (from_more site p (is_marked old site) before (subst (P p) is has)) [
          | inl old ↦ inl ((marks.listed p k).1 old)
          | inr same ↦ inr same
        ])),
      );
      inside = subst Q (sym is) (inside_more n site (is_marked old site) before l marks.inside);
    }
