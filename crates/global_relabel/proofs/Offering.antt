-- What other blocks offer to a block's nodes.
use Rattle.std.proofs.Common.{◌≡◌, ℕ, ◌<◌, ◌≤◌, List, [], ◌∷◌, ◌++◌, length, slice_index, inl, inr, sym, ◌∙◌, ap, arith}
use Rattle.std.proofs.lemmas.Bool.{cases_lt}
use Rattle.std.proofs.lemmas.List.{length-append}
use Rattle.std.proofs.lemmas.List.Elements.{All-push}
use Rattle.std.proofs.Math.ListN.{get_or-append, get_or-eq_default}
use Rattle.std.proofs.Math.Seq.{get_or-append_seam}
use Rattle.block_net.specs.Whole.{Whole, block_at}
use Rattle.global_relabel.specs.declared.block_labels.Offer.{Offer}
use Rattle.global_relabel.specs.Lowering.{AreOffersBelow, AreOffersMet, AreOffersTo, AreOffersTold, IsAboveTold, IsAllowedBy, IsBorderOffered, IsOfferAt, IsOffered}

-- ---- offers

pub offered_more : (offers : List Offer) (labels : List ℕ) (v label more : ℕ) → IsOffered offers labels v label → label ≤ more → IsOffered offers labels v more
offered_more offers labels v label more (inl low) l = inl (omega (arith, low, l))
offered_more offers labels v label more (inr (k, lk, at, is)) l = inr (k, lk, at, λ d. omega (arith, is d, l))

pub offered_met : (offers : List Offer) (labels new : List ℕ) (v label : ℕ) → IsOffered offers labels v label → ((u : ℕ) → slice_index new u ≤ slice_index labels u)
    → AreOffersMet offers new → slice_index new v ≤ label
offered_met offers labels new v label (inl low) falls met = omega (arith, low, falls v)
offered_met offers labels new v label (inr (k, lk, at, is)) falls met =
    let d : Offer = record { label = 0; place = 0 } in
    omega (arith, met k d lk, ap (slice_index new) (at d), is d)

-- labels that came down are offered as before
pub offered_falls : (offers : List Offer) (labels new : List ℕ) (v label : ℕ) → IsOffered offers labels v label → ((u : ℕ) → slice_index new u ≤ slice_index labels u)
    → IsOffered offers new v label
offered_falls offers labels new v label (inl low) falls = inl (omega (arith, low, falls v))
offered_falls offers labels new v label (inr offered) falls = inr offered

-- one more offer
pub offered_push : (offers : List Offer) (offer : Offer) (labels : List ℕ) (v label : ℕ) → IsOffered offers labels v label
    → IsOffered (offers ++ offer ∷ []) labels v label
offered_push offers offer labels v label (inl low) = inl low
offered_push offers offer labels v label (inr (k, lk, at, is)) = inr (
  k,
  omega (arith, lk, length-append offers (offer ∷ [])),
  λ d. ap (λ (o : Offer). o.place) (get_or-append offers (offer ∷ []) d k lk) ∙ at d,
  λ d. omega (arith, ap (λ (o : Offer). o.label) (get_or-append offers (offer ∷ []) d k lk), is d),
)

pub offered_last : (offers : List Offer) (offer : Offer) (labels : List ℕ) (v label : ℕ) → v ≡ offer.place → offer.label ≤ label
    → IsOffered (offers ++ offer ∷ []) labels v label
offered_last offers offer labels v label at low = inr (
  length offers,
  omega (arith, length-append offers (offer ∷ [])),
  λ d. ap (λ (o : Offer). o.place) (get_or-append_seam offers offer [] d) ∙ sym at,
  λ d. omega (arith, ap (λ (o : Offer). o.label) (get_or-append_seam offers offer [] d), low),
)

-- what a node was told allows what it is offered
pub allowed_told : (w : Whole) (b : ℕ) (told : List ℕ) (offers : List Offer) → AreOffersTold w b told offers
    → (v label : ℕ) → IsAllowedBy offers v label → IsAboveTold w b told v label
allowed_told w b told offers are v label (k, lk, at, is) =
    let d : Offer = record { label = 0; place = 0 } in
    let from = are k d lk in
    (from.0, from.1, from.2, from.3 ∙ at d, omega (arith, from.4, is d))

pub told_of_offer : (w : Whole) (b : ℕ) (told : List ℕ) (j : ℕ) (offer : Offer) → j < length (block_at w b).borders → IsOfferAt w b told j offer
    → IsAboveTold w b told offer.place offer.label
told_of_offer w b told j offer lj is = (j, lj, is.residual, is.place, omega (arith, is.label))

pub told_push : (w : Whole) (b : ℕ) (told : List ℕ) (offers : List Offer) (offer : Offer) → AreOffersTold w b told offers
    → IsAboveTold w b told offer.place offer.label → AreOffersTold w b told (offers ++ offer ∷ [])
told_push w b told offers offer are is = All-push (λ (o : Offer). IsAboveTold w b told o.place o.label) offers offer are is

pub offers_push : (n : ℕ) (offers : List Offer) (offer : Offer) → AreOffersTo n offers → offer.place < n → 0 < offer.label → AreOffersTo n (offers ++ offer ∷ [])
offers_push n offers offer are l some = All-push (λ (o : Offer). (o.place < n) × (0 < o.label)) offers offer are (l, some)

pub below_push : (labels : List ℕ) (offers : List Offer) (offer : Offer) → AreOffersBelow labels offers → offer.label < slice_index labels offer.place
    → AreOffersBelow labels (offers ++ offer ∷ [])
below_push labels offers offer are low = All-push (λ (o : Offer). o.label < slice_index labels o.place) offers offer are low

-- a node that has a label above 0
pub place_below : (labels : List ℕ) (p : ℕ) → 0 < slice_index labels p → p < length labels
place_below labels p some = elim (cases_lt p (length labels)) [
  | inl less ↦ less
  | inr high ↦ absurd (omega (arith, some, get_or-eq_default labels 0 {n = p} high))
]

pub offers_none : (n : ℕ) → AreOffersTo n []
offers_none n k d l = absurd (omega (arith, l))

pub told_none : (w : Whole) (b : ℕ) (told : List ℕ) → AreOffersTold w b told []
told_none w b told k d l = absurd (omega (arith, l))

-- a border with nothing offered is met
pub border_unoffered : (w : Whole) (b : ℕ) (labels told : List ℕ) (offers : List Offer) (j : ℕ) → IsBorderOffered w b labels told [] j
    → IsBorderOffered w b labels told offers j
border_unoffered w b labels told offers j is some = elim (is some) [
  | inl low ↦ inl low
  | inr none ↦ absurd (omega (arith, none.1))
]

pub border_falls : (w : Whole) (b : ℕ) (labels new told : List ℕ) (offers : List Offer) (j : ℕ) → ((u : ℕ) → slice_index new u ≤ slice_index labels u)
    → IsBorderOffered w b labels told offers j → IsBorderOffered w b new told offers j
border_falls w b labels new told offers j falls is some = offered_falls offers labels new _ _ (is some) falls

pub border_push : (w : Whole) (b : ℕ) (labels told : List ℕ) (offers : List Offer) (offer : Offer) (j : ℕ) → IsBorderOffered w b labels told offers j
    → IsBorderOffered w b labels told (offers ++ offer ∷ []) j
border_push w b labels told offers offer j is some = offered_push offers offer labels _ _ (is some)

-- its own offer is in the list, or was taken
pub border_last : (w : Whole) (b : ℕ) (labels told : List ℕ) (offers : List Offer) (offer : Offer) (j : ℕ) → IsOfferAt w b told j offer
    → IsBorderOffered w b labels told (offers ++ offer ∷ []) j
border_last w b labels told offers offer j is some = offered_last offers offer labels _ _ is.place (omega (arith, is.label))

pub border_met : (w : Whole) (b : ℕ) (labels told : List ℕ) (offers : List Offer) (offer : Offer) (j : ℕ) → IsOfferAt w b told j offer
    → slice_index labels offer.place ≤ offer.label → IsBorderOffered w b labels told offers j
border_met w b labels told offers offer j is low some = inl (omega (arith, low, is.label, ap (slice_index labels) is.place))
