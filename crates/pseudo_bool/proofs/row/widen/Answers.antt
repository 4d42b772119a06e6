use Rattle.std.proofs.Common.{arith, rules, w32, w64, FitsSigned, ◌∙◌}
use Rattle.std.proofs.lemmas.Int.{to_z-of_z}
use Rattle.pseudo_bool.specs.Energies.{entry}
use Rattle.pseudo_bool.proofs.TableLemmas.{copied, all_copied}
use Rattle.pseudo_bool.proofs.row.widen.Goals as goal

pub loop-place-preserved : goal.loop-place-preserved
loop-place-preserved g c =
    let fits : FitsSigned w32 (entry c.args.table.now c.loop-place.place) = record { sfits = search rules } in
    let wide : FitsSigned w64 c.from.result = record { sfits = c.from.type_inv } in
    copied c.loop-place.read c.args.table.now c.loop-place.place _ (omega (arith, c.told-table)) c.loop-place.invariant.0 c.loop-place.invariant.1
    (to_z-of_z w64 c.from.result wide ∙ c.from.ensures ∙ to_z-of_z w32 _ fits)

pub returns : goal.returns
returns g c = all_copied _ _ c.loop-place.place (omega (arith, c.told-table)) c.loop-place.invariant.0 c.loop-place.invariant.1
