use Rattle.std.proofs.Common.{◌≡◌, ◌++◌, map, take, drop}
use Rattle.vision.specs.Problems.{edge_weight, with_weight}
use Rattle.vision.proofs.pairs.weigh.Given as goal

abbrev pub invariant-loop-index : goal.invariant-loop-index
invariant-loop-index l = l.pairs ≡ record {
  sites = l.initial.pairs.sites;
  list = map (with_weight (edge_weight l.options l.picture)) (take l.index l.initial.pairs.list) ++ drop l.index l.initial.pairs.list;
  numbered = l.initial.pairs.numbered;
}
