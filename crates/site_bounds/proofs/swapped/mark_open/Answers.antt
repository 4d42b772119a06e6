use Rattle.std.proofs.Common.{◌≡◌, ◌<◌, ◌∙◌, length, get_or, arith}
use Rattle.std.proofs.lemmas.List.{length-set}
use Rattle.move_energy.specs.declared.choice.Choice.TheVariants.{Open}
use Rattle.site_bounds.proofs.Opening.{opened_more, others_more}
use Rattle.site_bounds.proofs.swapped.mark_open.Goals as goal

pub loop-place-preserved : goal.loop-place-preserved
loop-place-preserved c =
    let a = c.args in
    let i = c.loop-place.invariant in
    let place = c.loop-place.place in
    let site = get_or a.sites.now place 0 in
    let inside : site < length c.loop-place.choices.items = (let l = c.requires place 0 c.loop-place-test.true in omega (arith, l, i.count)) in
    record {
      count = length-set c.loop-place.choices.items site Open ∙ i.count;
      opened = opened_more a.sites.now place c.loop-place.choices.items inside i.opened;
      others = others_more a.sites.now place a.choices.now.items c.loop-place.choices.items i.others;
    }

pub returns : goal.returns
returns c =
    let at_end : c.loop-place.place ≡ length c.args.sites.now = omega (arith, c.loop-place-test.false, c.loop-place.auto.place-end) in
    record {
      count = c.loop-place.invariant.count;
      opened = λ k l. c.loop-place.invariant.opened k (omega (arith, l, at_end));
      others = λ p off. c.loop-place.invariant.others p (λ k l. off k (omega (arith, l, at_end)));
    }
