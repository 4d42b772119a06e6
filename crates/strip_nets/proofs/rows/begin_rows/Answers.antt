use Rattle.std.proofs.Common.{refl, arith}
use Rattle.strip_nets.proofs.Degrees.{none_begun, one_begun, all_begun, total_few}
use Rattle.strip_nets.proofs.Sizes.{row_few}
use Rattle.strip_nets.proofs.rows.begin_rows.Goals as goal

pub loop-index-init : goal.loop-index-init
loop-index-init c = none_begun c.args.material.now c.args.sites.now _ c.requires.count

pub overflow_add-total : goal.overflow_add-total
overflow_add-total c =
    let a = c.args in
    omega (
      arith,
      total_few a.material.now a.sites.now c.loop-index.index c.loop-index.total c.loop-index.starts.items c.requires.can c.requires.opened c.loop-index.invariant,
      c.count_neighbours-total.ensures,
      row_few a.material.now c.site_at-site.result c.requires.can c.site_at-site.ensures.site.0,
    )

pub loop-index-preserved : goal.loop-index-preserved
loop-index-preserved c =
    let a = c.args in
    one_begun a.material.now a.sites.now c.loop-index.index c.site_at-site.result c.loop-index.total c.count_neighbours-total.result _ _ c.requires.can c.requires.opened c.loop-index-test.true
    c.site_at-site.ensures.value c.site_at-site.ensures.site c.count_neighbours-total.ensures c.loop-index.invariant refl

pub returns : goal.returns
returns c =
    let a = c.args in
    all_begun a.material.now a.sites.now c.loop-index.index c.loop-index.total _ c.requires.can c.requires.opened (omega (arith, c.loop-index-test.false)) c.loop-index.invariant
