use Rattle.std.proofs.Common.{◌≡◌, ◌∙◌, ℕ, ◌<◌, List, length, slice_index_or, ap, sym, arith, inl, inr, get_or-set_other}
use Rattle.std.proofs.lemmas.Bool.{cases_eq}
use Rattle.std.proofs.lemmas.Grind.{get_or-set_at}
use Rattle.std.proofs.lemmas.List.{length-set}
use Rattle.flow_network.specs.declared.arc.Arc.{Arc}
use Rattle.flow_network.specs.Preflow.{arc_at}
use Rattle.sink_distances.specs.Rows.{residual_at, start_at, first_at, second_at}
use Rattle.sink_distances.proofs.Making.{near_step, far_step}
use Rattle.sink_distances.proofs.Carrying.{next_first, first_low, second_low, back_at}
use Rattle.sink_distances.proofs.carried.read_each.Goals as goal

pub take_next-place-requires-clause-room : goal.take_next-place-requires-clause-room
take_next-place-requires-clause-room c =
    let net = c.args.net.now in
    let k = c.arcs.k in
    let told = c.arcs-arcs.ensures.value in
    let blank : Arc = record { from = 0; to = 0; capacity = 0 } in
    let inside : k < length net.arcs = omega (arith, c.arcs-test.true, ap (length {A = Arc}) told) in
    let from : (slice_index_or c.arcs-arcs.result.now k blank).from ≡ (arc_at net k).from = ap (λ (xs : List Arc). (slice_index_or xs k blank).from) told in
    omega (arith, first_low net c.args.rows.now k _ c.arcs.nexts c.arcs-arcs.ensures.limits c.requires.rows inside from c.arcs.invariant.nexts, c.requires.rows.few)

pub take_next-requires-clause-room : goal.take_next-requires-clause-room
take_next-requires-clause-room c =
    let net = c.args.net.now in
    let rows = c.args.rows.now in
    let k = c.arcs.k in
    let h = c.arcs-arcs.ensures.limits in
    let told = c.arcs-arcs.ensures.value in
    let blank : Arc = record { from = 0; to = 0; capacity = 0 } in
    let inside : k < length net.arcs = omega (arith, c.arcs-test.true, ap (length {A = Arc}) told) in
    let from : (slice_index_or c.arcs-arcs.result.now k blank).from ≡ (arc_at net k).from = ap (λ (xs : List Arc). (slice_index_or xs k blank).from) told in
    let to : (slice_index_or c.arcs-arcs.result.now k blank).to ≡ (arc_at net k).to = ap (λ (xs : List Arc). (slice_index_or xs k blank).to) told in
    let one = near_step net (start_at rows) k _ c.take_next-place.result c.arcs.nexts c.take_next-place.new.nexts h inside from c.take_next-place.ensures.was c.take_next-place.ensures.more c.arcs.invariant.nexts in
    omega (arith, second_low net rows k _ c.take_next-place.new.nexts h c.requires.rows inside to one, c.requires.rows.few)

pub back-requires-clause-place : goal.back-requires-clause-place
back-requires-clause-place c =
    let net = c.args.net.now in
    let k = c.arcs.k in
    let told = c.arcs-arcs.ensures.value in
    let blank : Arc = record { from = 0; to = 0; capacity = 0 } in
    let inside : k < length net.arcs = omega (arith, c.arcs-test.true, ap (length {A = Arc}) told) in
    let from : (slice_index_or c.arcs-arcs.result.now k blank).from ≡ (arc_at net k).from = ap (λ (xs : List Arc). (slice_index_or xs k blank).from) told in
    omega (arith, c.take_next-place.ensures.was, first_low net c.args.rows.now k _ c.arcs.nexts c.arcs-arcs.ensures.limits c.requires.rows inside from c.arcs.invariant.nexts)

pub back-requires-clause-opposite : goal.back-requires-clause-opposite
back-requires-clause-opposite c =
    let net = c.args.net.now in
    let rows = c.args.rows.now in
    let k = c.arcs.k in
    let told = c.arcs-arcs.ensures.value in
    let blank : Arc = record { from = 0; to = 0; capacity = 0 } in
    let inside : k < length net.arcs = omega (arith, c.arcs-test.true, ap (length {A = Arc}) told) in
    let from : (slice_index_or c.arcs-arcs.result.now k blank).from ≡ (arc_at net k).from = ap (λ (xs : List Arc). (slice_index_or xs k blank).from) told in
    let first : c.take_next-place.result ≡ first_at rows k =
    c.take_next-place.ensures.was ∙ next_first net rows k _ c.arcs.nexts c.arcs-arcs.ensures.limits c.requires.rows inside from c.arcs.invariant.nexts in
    omega (arith, back_at rows k c.take_next-place.result first, (c.requires.rows.arcs k inside).second)

pub arcs-preserved : goal.arcs-preserved
arcs-preserved c =
    let net = c.args.net.now in
    let rows = c.args.rows.now in
    let k = c.arcs.k in
    let h = c.arcs-arcs.ensures.limits in
    let told = c.arcs-arcs.ensures.value in
    let blank : Arc = record { from = 0; to = 0; capacity = 0 } in
    let inside : k < length net.arcs = omega (arith, c.arcs-test.true, ap (length {A = Arc}) told) in
    let from : (slice_index_or c.arcs-arcs.result.now k blank).from ≡ (arc_at net k).from = ap (λ (xs : List Arc). (slice_index_or xs k blank).from) told in
    let to : (slice_index_or c.arcs-arcs.result.now k blank).to ≡ (arc_at net k).to = ap (λ (xs : List Arc). (slice_index_or xs k blank).to) told in
    let one = near_step net (start_at rows) k _ c.take_next-place.result c.arcs.nexts c.take_next-place.new.nexts h inside from c.take_next-place.ensures.was c.take_next-place.ensures.more c.arcs.invariant.nexts in
    let first : c.take_next-place.result ≡ first_at rows k = c.take_next-place.ensures.was ∙ next_first net rows k _ c.arcs.nexts h c.requires.rows inside from c.arcs.invariant.nexts in
    let carried : c.back.result ≡ residual_at rows (second_at rows k) = c.back.ensures ∙ ap (residual_at rows) (back_at rows k c.take_next-place.result first) in
    record {
      nexts = far_step net (start_at rows) k _ c.take_next.result c.take_next-place.new.nexts c.take_next.new.nexts h inside to c.take_next.ensures.was c.take_next.ensures.more one;
      len = length-set c.arcs.flow k c.back.result ∙ c.arcs.invariant.len;
      each = λ j l. elim (cases_eq j k) [
        | inl same ↦ get_or-set_at c.arcs.flow k j c.back.result 0 same (omega (arith, inside, c.arcs.invariant.len)) ∙ (carried ∙ ap (λ (i : ℕ). residual_at rows (second_at rows i)) (sym same))
        | inr other ↦ get_or-set_other c.arcs.flow k j c.back.result 0 other ∙ c.arcs.invariant.each j (omega (arith, l, other))
      ];
    }
