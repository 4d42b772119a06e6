use Rattle.std.proofs.lemmas.Grind.{common_steps}
use Rattle.std.proofs.Common.{arith, ◌≡◌, ◌<◌, length, pos}
use Rattle.std.proofs.lemmas.List.{get_or_read}
use Rattle.pseudo_bool.specs.Energies.{entry}
use Rattle.compile_cut.proofs.PartLemmas.{constant_is}
use Rattle.compile_cut.proofs.WeightLemmas.{weights_value-add, weight_small}
use Rattle.compile_cut.proofs.adding.add_weight.Goals as goal

pub returns : goal.returns
returns c =
    let ws = c.args.weights.now.items in
    let inside : c.args.at < length ws = omega (arith, c.args.weights.now.ok.0, c.requires.at) in
    let here : c.index_mut.result.now ≡ entry ws c.args.at = get_or_read ws c.args.at c.index_mut.result.now inside c.index_mut.ensures.value (pos 0) in
    record {
      len = grind (arith, common_steps);
      value = λ x.
          rw (here, constant_is (entry ws c.args.at) c.args.by (weight_small ws c.args.at inside (omega (arith, c.requires.room))) (omega (arith, c.requires.step)))
          (weights_value-add ws c.args.at c.args.by x inside);
      size = grind (arith, common_steps);
    }
