use Rattle.std.proofs.Common.{arith, pos}
use Rattle.pseudo_bool.proofs.TableLemmas.{kept_is, copied, all_copied}
use Rattle.pseudo_bool.proofs.row.narrow.Goals as goal

pub loop-place-preserved : goal.loop-place-preserved
loop-place-preserved g c =
    copied c.loop-place.kept c.args.table.now c.loop-place.place _ (omega (arith, c.told-table)) c.loop-place.invariant.0 c.loop-place.invariant.1
    (kept_is _ (c.requires c.loop-place.place (pos 0) (omega (arith, c.told-table))))

pub returns : goal.returns
returns g c = all_copied _ _ c.loop-place.place (omega (arith, c.told-table)) c.loop-place.invariant.0 c.loop-place.invariant.1
