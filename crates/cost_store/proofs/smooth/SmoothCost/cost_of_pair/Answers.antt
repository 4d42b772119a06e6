use Rattle.std.proofs.Common.{◌≡◌, ◌+◌, ◌*◌, ◌<◌, arith}
use Rattle.std.proofs.lemmas.Int.{ints}
use Rattle.std.proofs.lemmas.Nat.{mul-add-lt}
use Rattle.cost_store.proofs.smooth.SmoothCost.cost_of_pair.Goals as goal

pub returns-clause-range : goal.returns-clause-range
returns-clause-range g c =
    let a = c.args in
    let labels = a.self.now.labels in
    let same : labels * a.pairs ≡ a.pairs * labels = grind arith in
    let row : a.number * labels + a.first < a.pairs * labels = omega (arith, mul-add-lt a.number labels a.first a.pairs c.requires.pairs.0 c.requires.inside.0, same) in
    let kept = c.requires.keeps.entries (a.number * labels + a.first) a.second row c.requires.inside.1 in
    let range = kept.1 c.v.result c.v.ensures in (omega (arith, ints), omega (arith, ints))
