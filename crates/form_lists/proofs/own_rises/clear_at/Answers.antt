use Rattle.std.proofs.Common.{◌<◌, ◌∙◌, length, get_or, pos, refl, arith}
use Rattle.std.proofs.lemmas.List.{length-set}
use Rattle.std.proofs.lemmas.List.Elements.{All-get_or}
use Rattle.form_lists.proofs.Clearing.{cleared_more}
use Rattle.form_lists.proofs.own_rises.clear_at.Goals as goal

pub loop-place-init : goal.loop-place-init
loop-place-init c = record {
  count = refl;
  zeros = λ u off. c.requires.zeros u (λ k l. off k (omega arith) l);
}

pub loop-place-preserved : goal.loop-place-preserved
loop-place-preserved c =
    let i = c.loop-place.invariant in
    let sites = c.args.sites.now in
    let place = c.loop-place.place in
    let l : place < length sites = c.loop-place-test.true in
    let inside : get_or sites place 0 < length c.loop-place.rises = (let w = All-get_or (λ p. p < length c.args.rises.now) sites place 0 l c.requires.inside in omega (arith, w, i.count)) in
    record {
      count = length-set c.loop-place.rises (get_or sites place 0) (pos 0) ∙ i.count;
      zeros = cleared_more c.loop-place.rises sites place l inside i.zeros;
    }

pub returns-clause-zeros : goal.returns-clause-zeros
returns-clause-zeros c = λ u. c.loop-place.invariant.zeros u (λ k from l. absurd (omega (arith, from, l, c.loop-place-test.false)))
