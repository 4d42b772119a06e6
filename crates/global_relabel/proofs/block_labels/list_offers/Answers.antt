use Rattle.std.proofs.Common.{◌≡◌, ◌<◌, [], ◌∷◌, ◌++◌, length, slice_index, ap, subst, refl, inl, inr, arith}
use Rattle.std.proofs.lemmas.Bool.{cases_lt, true≢false}
use Rattle.block_net.specs.Views.{CellsView}
use Rattle.block_net.specs.Whole.{Whole, block_at}
use Rattle.block_split.specs.Split.{whole_of}
use Rattle.net_in_blocks.specs.Views.{blocks_in}
use Rattle.net_in_blocks.proofs.Steps.{at_read}
use Rattle.global_relabel.specs.Lowering.{AreOffersTold, IsAboveTold, IsAllowedBy, IsBorderOffered, IsOfferAt}
use Rattle.global_relabel.proofs.Falling.{down_more, down_for, tight_start}
use Rattle.global_relabel.proofs.Offering.{allowed_told, below_push, place_below, border_falls, border_last, border_met, border_push, border_unoffered, offers_push, told_none, told_of_offer, told_push}
use Rattle.global_relabel.proofs.block_labels.list_offers.Goals.{in-Some+then-len-capacity, in-Some+else-len-capacity, in_default}
use Rattle.global_relabel.proofs.block_labels.list_offers.Goals as goal

pub borders-preserved : goal.borders-preserved
borders-preserved c =
    let w' : Whole = whole_of c.args.split.now.net.now c.args.split.now.parts.now in
    let b = c.args.block in
    let told = c.args.told.now in
    let j = c.borders.j in
    let labels = c.borders.labels in
    let offers = c.borders.offers.items in
    let inv = c.borders.invariant in
    let at = at_read w' (blocks_in w') b c.index.result.now c.requires.laid refl c.requires.block c.index.ensures in
    let lj : j < length (block_at w' b).borders = omega (arith, c.borders-test.true, c.borders-j-end.ensures, ap (λ (q : CellsView). length q.borders) at.is) in
    elim c.match-offer_at.branch [
      | in-Some+then-len-capacity w ↦
          let offer = w.in-Some.offer in
          let is : IsOfferAt w' b told j offer = w.in-Some.ensures.some.0 in
          let low : offer.label < slice_index labels offer.place = w.in-Some.ensures.some.1 in
          let from = told_of_offer w' b told j offer lj is in
          rw (w.labels-is) (rw (w.queue-is) (rw (w.offers-is) (rw (w.has_taken-is) (record {
            room = inv.room;
            down = inv.down;
            tight = inv.tight;
            offers = rw (w.push_reserved.ensures.items) (offers_push (length labels) offers offer inv.offers (place_below labels offer.place (omega (arith, low))) (omega (arith, is.label)));
            told = rw (w.push_reserved.ensures.items) (told_push w' b told offers offer inv.told from);
            all = rw (w.push_reserved.ensures.items) (λ k l. elim (cases_lt k j) [
              | inl less ↦ border_push w' b labels told offers offer k (inv.all k less)
              | inr last ↦
                  let here : j ≡ k = omega (arith, l, last) in
                  subst (λ i. IsBorderOffered w' b labels told (offers ++ offer ∷ []) i) here (border_last w' b labels told offers offer j is)
            ]);
            below = rw (w.push_reserved.ensures.items) (below_push c.args.labels.now offers offer inv.below (omega (arith, low, inv.down.falls offer.place)));
            lower = inv.lower;
            same = inv.same;
          }))))
      | in-Some+else-len-capacity w ↦
          let offer = w.in-Some.offer in
          let new = w.spread.new.labels in
          let is : IsOfferAt w' b told j offer = w.in-Some.ensures.some.0 in
          let one : AreOffersTold w' b told (offer ∷ []) = told_push w' b told [] offer (told_none w' b told) (told_of_offer w' b told j offer lj is) in
          let down = w.spread.ensures.down in
          rw (w.labels-is) (rw (w.queue-is) (rw (w.offers-is) (rw (w.has_taken-is) (record {
            room = w.spread.ensures.room;
            down = down_more w' b (IsAboveTold w' b told) c.args.labels.now labels new inv.down
                (down_for w' b (IsAllowedBy (offer ∷ [])) (IsAboveTold w' b told) labels new (allowed_told w' b told (offer ∷ []) one) down);
            tight = λ was. w.spread.ensures.tight (tight_start w' b labels c.borders.queue (inv.tight was));
            offers = λ k d l. (omega (arith, (inv.offers k d l).0, down.len), (inv.offers k d l).1);
            told = inv.told;
            all = λ k l. elim (cases_lt k j) [
              | inl less ↦ border_falls w' b labels new told offers k down.falls (inv.all k less)
              | inr last ↦
                  let here : j ≡ k = omega (arith, l, last) in
                  subst (λ i. IsBorderOffered w' b new told offers i) here (border_met w' b new told offers offer j is (w.spread.ensures.met 0 offer (omega arith)))
            ];
            below = inv.below;
            lower = λ on. (offer.place, omega (arith, w.spread.ensures.met 0 offer (omega arith), w.in-Some.ensures.some.1, inv.down.falls offer.place));
            same = λ off. absurd (true≢false off);
          }))))
      | in_default w ↦
          rw (w.labels-is) (rw (w.queue-is) (rw (w.offers-is) (rw (w.has_taken-is) (record {
            room = inv.room;
            down = inv.down;
            tight = inv.tight;
            offers = inv.offers;
            told = inv.told;
            all = λ k l. elim (cases_lt k j) [
              | inl less ↦ inv.all k less
              | inr last ↦
                  let here : j ≡ k = omega (arith, l, last) in
                  subst (λ i. IsBorderOffered w' b labels told offers i) here (border_unoffered w' b labels told offers j w.in_default.ensures.none)
            ];
            below = inv.below;
            lower = inv.lower;
            same = inv.same;
          }))))
    ]
