use Rattle.std.proofs.Common.{refl}
use Rattle.cost_store.proofs.problem.Problem.new.Goals as goal

pub returns-clause-means : goal.returns-clause-means
returns-clause-means g c = λ at_sites between sites_told told. record {
  sites_are = refl;
  labels_are = refl;
  pairs_are = refl;
  data_are = sites_told;
  smooth_are = λ weighted. record { table = between; answers = told; weighted = λ weight a b. refl };
  by_pair = λ numbered. absurd (cc (numbered, c.requires.weighted));
  costs_are = record { each = λ label below. refl };
}
