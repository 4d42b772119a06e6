use Rattle.std.proofs.Common.{Bool, subst}
use Rattle.label_energies.specs.Energies.{labelling}
use Rattle.label_energies.specs.Chains.{IsChain, expansions}
use Rattle.label_energies.proofs.Chains.{settled_is_local}
use Rattle.label_energies.proofs.Ratio.{expansion_bound}
use Rattle.moves.proofs.bound.settled_run_is_near.Goals as goal

pub returns : goal.returns
returns c = λ m allowed f g ended bound pairs known run settled lg h lh.
    let C : Bool → Type 0 = λ b. IsChain m (expansions m.labels) allowed f g ended.cycles b in
    expansion_bound m known.metric.table (labelling g) h bound.vmin bound.vmax pairs known.metric.weighted known.metric.metric known.ratio known.free lg lh
    (settled_is_local m allowed f g ended.cycles (subst C settled run))
