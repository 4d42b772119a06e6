use Rattle.std.proofs.Common.{◌≡◌, ◌<◌, ◌≤◌, ◌+◌, ℤ, ◌+ℤ◌, set, take, length, pos, ap, ◌∙◌, sym, subst, w64, to_z, of_z, arith}
use Rattle.std.proofs.lemmas.List.{get_or_read}
use Rattle.std.proofs.lemmas.List.Sums.{sum_by-take-le}
use Rattle.std.specs.Prelude.{unsigned_abs}
use Rattle.pseudo_bool.specs.Energies.{entry}
use Rattle.compile_cut.specs.Weights.{weights_value, weights_size}
use Rattle.strip_nets.proofs.Laying.{sum_passed, one_small, value_more, size_set}
use Rattle.strip_nets.proofs.building.add_weights.Goals as goal

pub loop-index-preserved : goal.loop-index-preserved
loop-index-preserved c =
    let first = c.args.weights.now.items in
    let ws = c.loop-index.weights.items in
    let list = c.args.list.now in
    let i = c.loop-index.index in
    let inv = c.loop-index.invariant in
    let k : i < length list = c.loop-index-test.true in
    let l : i < length ws = omega (arith, k, c.requires.count, inv.len, c.loop-index.weights.ok.0) in
    let most : weights_size ws ≤ 500000000000000000 = omega (arith, inv.size, sum_by-take-le unsigned_abs list i, c.requires.room) in
    let few : weights_size list ≤ 500000000000000000 = omega (arith, c.requires.room) in
    let here : c.index_mut.result.now ≡ entry ws i = get_or_read ws i c.index_mut.result.now l c.index_mut.ensures.value (pos 0) in
    let is = ap (λ (z : ℤ). to_z w64 (of_z w64 (to_z w64 (of_z w64 z) +ℤ to_z w64 (of_z w64 (entry list i))))) here
    ∙ sum_passed (entry ws i) (entry list i) (one_small ws i l most) (one_small list i k few) in
    let S : ℤ → Type 0 = λ z. weights_size (set ws i z) ≤ weights_size first + weights_size (take (i + 1) list) in
    record {
      len = inv.len;
      value = λ x. ap (λ (z : ℤ). weights_value (set ws i z) x) is ∙ value_more first ws list i x l k (inv.value x);
      size = subst S (sym is) (size_set first ws list i l k inv.size);
    }
