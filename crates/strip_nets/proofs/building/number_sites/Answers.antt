use Rattle.std.proofs.Common.{◌-◌, ◌∙◌, get_or, refl, arith}
use Rattle.std.proofs.lemmas.List.{length-set}
use Rattle.strip_nets.proofs.Numbering.{numbered_more, numbered_all}
use Rattle.strip_nets.proofs.building.number_sites.Goals as goal

pub loop-index-preserved : goal.loop-index-preserved
loop-index-preserved c =
    let s = c.args.sites.now in
    let inv = c.loop-index.invariant in
    let place = get_or s.opened.now c.loop-index.index 0 - s.from in
    record {
      room = omega (arith, length-set c.loop-index.numbers.items place c.loop-index.index, inv.room);
      kept = λ long. length-set c.loop-index.numbers.items place c.loop-index.index ∙ inv.kept long;
      numbered = λ known listed.
          numbered_more known s.from s.to s.opened.now c.loop-index.numbers.items _ c.loop-index.index _ _ listed c.loop-index-test.true refl refl inv.room refl
          (inv.numbered known listed);
    }

pub returns-clause-each : goal.returns-clause-each
returns-clause-each c = λ known listed.
    numbered_all known c.args.sites.now c.args.sites.now.opened.now c.loop-index.numbers.items c.loop-index.index listed (omega (arith, c.loop-index-test.false))
    c.loop-index.invariant.room (c.loop-index.invariant.numbered known listed)
