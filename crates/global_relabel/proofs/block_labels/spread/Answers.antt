use Rattle.std.proofs.Common.{◌≡◌, ℕ, ◌+◌, ◌<◌, length, slice_index, slice_index_or, refl, ◌∙◌, ap, inl, inr, arith}
use Rattle.std.proofs.lemmas.Bool.{cases_lt}
use Rattle.std.proofs.lemmas.List.{get_or_default}
use Rattle.block_net.specs.Whole.{Whole}
use Rattle.block_split.specs.Split.{whole_of}
use Rattle.sink_distances.specs.Search.{found_of}
use Rattle.global_relabel.specs.declared.block_labels.Offer.{Offer}
use Rattle.global_relabel.specs.Lowering.{FallsTo, IsAllowedBy, IsReadyFor, StepsWithin}
use Rattle.global_relabel.proofs.Falling.{falls_low, tight_all, tight_more, tight_next, down_more, down_allowed, down_behind}
use Rattle.global_relabel.proofs.Spreading.{near_offer, near_node, waiting_more}
use Rattle.global_relabel.proofs.block_labels.spread.Goals.{then-is_offer_next, else-is_offer_next+then-next-end}
use Rattle.global_relabel.proofs.block_labels.spread.Goals as goal

pub returns-else-next-end-clause-tight : goal.returns-else-next-end-clause-tight
returns-else-next-end-clause-tight c first =
    let w : Whole = whole_of c.args.split.now.net.now c.args.split.now.parts.now in
    let inv = c.search.invariant in
    tight_all w c.requires.laid c.args.block c.requires.block c.search.next (found_of c.search.labels c.search.queue c.search.end)
    (inv.down.len ∙ c.requires.labels) c.if-next-end.false (inv.tight first)

pub search-preserved : goal.search-preserved
search-preserved c =
    let w' : Whole = whole_of c.args.split.now.net.now c.args.split.now.parts.now in
    let b = c.args.block in
    let inv = c.search.invariant in
    let offers = c.args.offers.now in
    let taken = c.search.taken in
    let next = c.search.next in
    let s = found_of c.search.labels c.search.queue c.search.end in
    elim c.if-is_offer_next.branch [
      | then-is_offer_next w ↦
          let zero : Offer = record { label = 0; place = 0 } in
          let offer = slice_index_or offers taken zero in
          let some : taken < length offers = c.is_offer_next.ensures.some w.if-is_offer_next.true in
          let t = found_of w.lower-end.new.labels w.lower-end.new.queue w.lower-end.result in
          let R : ℕ → Type 0 = λ v. v ≡ offer.place in
          let falls : FallsTo offer.label R s t = w.lower-end.ensures.falls in
          let ready : IsReadyFor offer.label s = record { queue = inv.queue; below = inv.waiting taken zero (omega arith) some } in
          let allowed : IsAllowedBy offers offer.place offer.label = (
            taken,
            some,
            λ d. ap (λ (o : Offer). o.place) (get_or_default offers taken d zero some),
            λ d. omega (arith, ap (λ (o : Offer). o.label) (get_or_default offers taken d zero some)),
          ) in
          rw (w.labels-is) (rw (w.queue-is) (rw (w.end-is) (rw (w.next-is) (rw (w.taken-is) (record {
            queue = falls.ready.queue;
            down = down_more w' b (IsAllowedBy offers) c.args.labels.now s.labels t.labels inv.down
                (down_allowed w' b (IsAllowedBy offers) offer.place offer.label s t falls allowed);
            next = omega (arith, inv.next, falls.more);
            taken = omega (arith, some);
            turns = omega (arith, inv.turns);
            near = near_offer offer.label R s t ready falls next inv.next w.lower-end.ensures.few (λ l. c.is_offer_next.ensures.low w.if-is_offer_next.true l zero);
            waiting = waiting_more offer.label R s t ready falls offers (taken + 1) (λ k d from l.
                omega (arith, c.requires.rising taken k d (omega (arith, from)) l, ap (λ (o : Offer). o.label) (get_or_default offers taken d zero some)));
            tight = λ first. tight_more w' b next offer.label R s t falls inv.next (inv.tight first);
            met = λ k d l. elim (cases_lt k taken) [
              | inl less ↦ omega (arith, inv.met k d less, falls_low offer.label R s t falls (slice_index_or offers k d).place)
              | inr last ↦
                  let here : k ≡ taken = omega (arith, l, last) in
                  let is : slice_index_or offers k d ≡ offer = ap (λ i. slice_index_or offers i d) here ∙ get_or_default offers taken d zero some in
                  omega (arith, w.lower-end.ensures.low, ap (λ (o : Offer). o.label) is, ap (λ (o : Offer). slice_index t.labels o.place) is)
            ];
          })))))
      | else-is_offer_next+then-next-end w ↦
          let q = slice_index c.search.queue next in
          let label = slice_index c.search.labels q + 1 in
          let t = found_of w.lower_behind-end.new.labels w.lower_behind-end.new.queue w.lower_behind-end.result in
          let R : ℕ → Type 0 = λ v. StepsWithin w' b v q in
          let falls : FallsTo label R s t = w.lower_behind-end.ensures.falls in
          let less = w.if-next-end.true in
          let ready : IsReadyFor label s = record { queue = inv.queue; below = inv.near less } in
          rw (w.labels-is) (rw (w.queue-is) (rw (w.end-is) (rw (w.next-is) (rw (w.taken-is) (record {
            queue = falls.ready.queue;
            down = down_more w' b (IsAllowedBy offers) c.args.labels.now s.labels t.labels inv.down
                (down_behind w' b (IsAllowedBy offers) q label s t falls refl);
            next = omega (arith, less, falls.more);
            taken = inv.taken;
            turns = omega (arith, inv.turns);
            near = near_node label R s t ready falls next less refl;
            waiting = waiting_more label R s t ready falls offers taken (λ k d from l.
                omega (arith, c.is_offer_next.ensures.high w.if-is_offer_next.false less (omega (arith, from, l)) d, c.requires.rising taken k d from l));
            tight = λ first. tight_next w' b next q label R s t falls less refl w.lower_behind-end.ensures.tight (inv.tight first);
            met = λ k d l. omega (arith, inv.met k d l, falls_low label R s t falls (slice_index_or offers k d).place);
          })))))
    ]

pub returns-clause-tight : goal.returns-clause-tight
returns-clause-tight c first =
    let w : Whole = whole_of c.args.split.now.net.now c.args.split.now.parts.now in
    let inv = c.search.invariant in
    tight_all w c.requires.laid c.args.block c.requires.block c.search.next (found_of c.search.labels c.search.queue c.search.end)
    (inv.down.len ∙ c.requires.labels) (omega (arith, inv.queue.fits, inv.turns, inv.taken, inv.next, c.search-test.false, c.search.auto.queue)) (inv.tight first)
