use Rattle.std.proofs.Common.{arith}
use Rattle.near_changes.proofs.Opens.{opens_then, looked_more, looked_all}
use Rattle.near_changes.proofs.opening.open_all.Goals as goal

pub loop-index-preserved : goal.loop-index-preserved
loop-index-preserved c =
    let a = c.args in
    let invariant = c.loop-index.invariant in
    let now = c.loop-index.choices.items in
    let new = c.open_site.new.choices.items in
    record {
      opened = opens_then a.window a.choices.now.items now new invariant.opened c.open_site.ensures.opened;
      looked = looked_more a.window a.sites.now c.loop-index.index now new invariant.looked c.open_site.ensures.opened c.open_site.ensures.looked;
    }

pub returns-clause-looked : goal.returns-clause-looked
returns-clause-looked c =
    looked_all c.args.window c.args.sites.now c.loop-index.index c.loop-index.choices.items (omega (arith, c.loop-index-test.false)) c.loop-index.invariant.looked
