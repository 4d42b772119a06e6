use Rattle.std.proofs.Common.{rules, vec_len, ◌+◌, ◌<◌, ◌≤◌, ℕ, List, drop, length, slice_index, sym, ◌∙◌, subst, slice_index_or, ◌==◌, inl, inr, refl, arith, ap, ◌≡◌}
use Rattle.std.proofs.lemmas.Bool.{cases_lt, true≢false}
use Rattle.std.proofs.lemmas.List.Sorted.{All-permutation, IsPermutation-sym, IsNonDecreasingBy-from_sort_by_key}
use Rattle.block_net.specs.Views.{border_in}
use Rattle.block_net.specs.Whole.{Whole, block_at}
use Rattle.block_split.specs.Split.{whole_of}
use Rattle.global_relabel.specs.declared.block_labels.Offer.{Offer}
use Rattle.global_relabel.specs.Lowering.{AreOffersMet, AreOffersTold, AreTight, ComeDown, IsLowerSomewhere, IsAboveTold, IsAllowedBy, IsOffered, far_number}
use Rattle.global_relabel.proofs.Falling.{take_whole, tight_start, down_more, down_for}
use Rattle.global_relabel.proofs.Offering.{allowed_told, offered_met}
use Rattle.global_relabel.proofs.block_labels.BlockLabels.search_on.Goals as goal

pub spread-requires-clause-offers : goal.spread-requires-clause-offers
spread-requires-clause-offers c =
    let n = length c.list_offers-has_taken.new.labels in
    rw c.as_slice.ensures.value (All-permutation (λ (offer : Offer). (offer.place < n) × (0 < offer.label)) c.list_offers-has_taken.new.offers.items
    c.sort_unstable_by_key.new.self.items c.sort_unstable_by_key.ensures.permutation c.list_offers-has_taken.ensures.offers)

pub spread-requires-clause-rising : goal.spread-requires-clause-rising
spread-requires-clause-rising c =
    rw c.as_slice.ensures.value (IsNonDecreasingBy-from_sort_by_key (λ (offer : Offer). offer.label) _ c.sort_unstable_by_key.ensures.sorted (λ a r q k. search rules))

pub returns-clause-tight : goal.returns-clause-tight
returns-clause-tight c was =
    let w : Whole = whole_of c.args.net.now c.args.parts.now in
    let old : AreTight w c.args.block c.as_mut_slice-labels.result.now = subst (λ (labels : List ℕ). AreTight w c.args.block labels) (sym c.self.view_is ∙ sym c.as_mut_slice-labels.ensures.value) was in
    subst (λ (labels : List ℕ). AreTight w c.args.block labels)
    (take_whole c.spread.new.labels (drop (length c.spread.new.labels) c.self.inside.labels.items) c.self.inside.labels.len (search rules))
    (c.spread.ensures.tight (tight_start w c.args.block c.list_offers-has_taken.new.labels c.list_offers-has_taken.new.queue (c.list_offers-has_taken.ensures.tight old)))

pub returns-clause-beyond : goal.returns-clause-beyond
returns-clause-beyond c j lj some =
    let w : Whole = whole_of c.args.net.now c.args.parts.now in
    let labels = c.list_offers-has_taken.new.labels in
    let new = c.spread.new.labels in
    let offers = c.list_offers-has_taken.new.offers.items in
    let border = border_in (block_at w c.args.block) j in
    let told = slice_index c.args.told.now (far_number w border) + 1 in
    let offered : IsOffered offers labels border.near told = c.list_offers-has_taken.ensures.all j lj some in
    let sorted = c.sort_unstable_by_key.new.self.items in
    let all : AreOffersMet sorted new = subst (λ (xs : List Offer). AreOffersMet xs new) c.as_slice.ensures.value c.spread.ensures.met in
    let met : AreOffersMet offers new = All-permutation (λ (offer : Offer). slice_index new offer.place ≤ offer.label) sorted offers
    (IsPermutation-sym offers sorted c.sort_unstable_by_key.ensures.permutation) all in
    let low = offered_met offers labels new border.near told offered c.spread.ensures.down.falls met in
    subst (λ (xs : List ℕ). slice_index xs border.near ≤ told)
    (take_whole new (drop (length new) c.self.inside.labels.items) c.self.inside.labels.len (search rules)) low

pub returns-clause-down : goal.returns-clause-down
returns-clause-down c =
    let w : Whole = whole_of c.args.net.now c.args.parts.now in
    let b = c.args.block in
    let told = c.args.told.now in
    let A : ℕ → ℕ → Type 0 = IsAboveTold w b told in
    let labels = c.list_offers-has_taken.new.labels in
    let new = c.spread.new.labels in
    let offers = c.list_offers-has_taken.new.offers.items in
    let sorted = c.as_slice.result.now in
    let are : AreOffersTold w b told sorted = rw c.as_slice.ensures.value (All-permutation (λ (offer : Offer). IsAboveTold w b told offer.place offer.label) offers
    c.sort_unstable_by_key.new.self.items c.sort_unstable_by_key.ensures.permutation c.list_offers-has_taken.ensures.told) in
    let first = c.list_offers-has_taken.ensures.down in
    let then = down_for w b (IsAllowedBy sorted) A labels new (allowed_told w b told sorted are) c.spread.ensures.down in
    let both = down_more w b A c.as_mut_slice-labels.result.now labels new first then in
    let from = subst (λ (xs : List ℕ). ComeDown w b A xs new) (c.as_mut_slice-labels.ensures.value ∙ c.self.view_is) both in
    subst (λ (xs : List ℕ). ComeDown w b A c.args.self.now xs)
    (take_whole new (drop (length new) c.self.inside.labels.items) c.self.inside.labels.len (search rules)) from

pub returns-clause-lower : goal.returns-clause-lower
returns-clause-lower c =
    let new = c.spread.new.labels in
    let offers = c.list_offers-has_taken.new.offers.items in
    let sorted = c.sort_unstable_by_key.new.self.items in
    let all : AreOffersMet sorted new = subst (λ (xs : List Offer). AreOffersMet xs new) c.as_slice.ensures.value c.spread.ensures.met in
    let met : AreOffersMet offers new = All-permutation (λ (offer : Offer). slice_index new offer.place ≤ offer.label) sorted offers
    (IsPermutation-sym offers sorted c.sort_unstable_by_key.ensures.permutation) all in
    let lower : IsLowerSomewhere c.as_mut_slice-labels.result.now new = elim c.else-is_empty.either [
      | inl both ↦ let there = c.list_offers-has_taken.ensures.lower both.1 in (there.0, omega (arith, there.1, c.spread.ensures.down.falls there.0))
      | inr some ↦
          let d : Offer = record { label = 0; place = 0 } in
          let l : 0 < length offers = elim (cases_lt 0 (length offers)) [
            | inl less ↦ less
            | inr none ↦
                let zero : length offers ≡ 0 = omega (arith, none) in
                let size : vec_len c.list_offers-has_taken.new.offers ≡ length offers = search rules in
                absurd (true≢false (sym (c.is_empty.ensures ∙ ap (λ n. n == 0) (size ∙ zero)) ∙ some))
          ] in
          ((slice_index_or offers 0 d).place, omega (arith, c.list_offers-has_taken.ensures.below 0 d l, met 0 d l))
    ] in
    let from = subst (λ (xs : List ℕ). IsLowerSomewhere xs new) (c.as_mut_slice-labels.ensures.value ∙ c.self.view_is) lower in
    let there = subst (λ (xs : List ℕ). IsLowerSomewhere c.args.self.now xs)
    (take_whole new (drop (length new) c.self.inside.labels.items) c.self.inside.labels.len (search rules)) from in
    (λ on. there, λ fell. refl)
