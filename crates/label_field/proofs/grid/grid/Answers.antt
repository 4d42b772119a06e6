use Rattle.std.proofs.Common.{◌∙◌, ◌+◌, arith, ◌*◌, length, ap}
use Rattle.std.proofs.lemmas.List.Elements.{All-same}
use Rattle.label_field.specs.PairLists.{IsWeightedPair}
use Rattle.label_field.specs.Grids.{pairs_of_steps}
use Rattle.label_field.proofs.GridSteps.{front_more, length-front, front_are}
use Rattle.label_field.proofs.grid.grid.Goals as goal

pub loop-site-preserved : goal.loop-site-preserved
loop-site-preserved c =
    let all = pairs_of_steps c.args.image.width c.args.image.height c.args.weight c.args.steps.now in
    let one = front_more all c.loop-site._site in
    let pushed = c.in_ok-push_pairs.ensures in
    let here = ap all c.loop-site.invariant.site in
    record {
      list = cc (one, pushed, here, c.loop-site.invariant.list);
      site = c.next_place-place.ensures.site ∙ ap (λ s. s + 1) c.loop-site.invariant.site;
      place = λ inside. c.next_place-place.ensures.place (omega (arith, inside, c.loop-site.invariant.site));
    }

pub of_list-requires-clause-count : goal.of_list-requires-clause-count
of_list-requires-clause-count c =
    let few = length-front c.args.image.width c.args.image.height c.args.weight c.args.steps.now 0 c.loop-site._site c.requires.steps.count in
    let same = ap length c.loop-site.invariant.list in
    omega (arith, few, same, c.args.image.fits.places, c.loop-site.auto._site-end)

pub of_list-requires-clause-pairs : goal.of_list-requires-clause-pairs
of_list-requires-clause-pairs c =
    All-same (IsWeightedPair (c.args.image.width * c.args.image.height)) _ _ c.loop-site.invariant.list
    (front_are c.args.image.width c.args.image.height c.args.weight c.args.steps.now 0 c.loop-site._site
    c.args.image.fits c.requires.steps.forward c.requires.weight (omega (arith, c.loop-site.auto._site-end)))
