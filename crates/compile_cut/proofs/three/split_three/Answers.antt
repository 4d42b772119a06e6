use Rattle.std.proofs.Common.{arith, ◌≡◌, ◌≤◌, ◌≤ℤ◌, ◌<ℤ◌, pos, neg_ℤ, unsigned_abs, ap, sym, ◌∙◌}
use Rattle.std.proofs.lemmas.Int.{ints}
use Rattle.pseudo_bool.specs.Energies.{entry}
use Rattle.compile_cut.specs.Three.{cubic_weight}
use Rattle.compile_cut.proofs.PartLemmas.{passed_is, minus_is}
use Rattle.compile_cut.proofs.ThreeLemmas.{AtZeros, least_at_zeros, below_is, above_is, cubic-turned, regular-turned, least_turned, constant_turned}
use Rattle.compile_cut.proofs.three.split_three.Goals as goal

pub returns-then-product-le0-clause-value : goal.returns-then-product-le0-clause-value
returns-then-product-le0-clause-value c =
    let t = c.args.table.now in
    let h = c.product_weight-product.result in
    let part = c.split_at_zeros in
    let same = passed_is h (omega (arith, c.product_weight-product.ensures.small)) in
    let sign : h ≤ℤ pos 0 = omega (arith, ints, same, c.if-product-le0.true) in
    let hidden = rw same at part.ensures.value.hidden in
    least_at_zeros t part.result (unsigned_abs h) (record {
      constant = part.ensures.value.constant;
      first = part.ensures.value.first;
      second = part.ensures.value.second;
      third = part.ensures.value.third;
      first_second = part.ensures.value.arcs.first_second;
      first_third = part.ensures.value.arcs.first_third;
      second_third = part.ensures.value.arcs.second_third;
      hidden = hidden ∙ below_is h sign;
      cubic = hidden ∙ c.product_weight-product.ensures.value;
    })

pub split_at_zeros-turned-requires-clause-table : goal.split_at_zeros-turned-requires-clause-table
split_at_zeros-turned-requires-clause-table c = record {
  values = c.turned_table.ensures.values;
  regular = rw c.turned_table.ensures.value (regular-turned c.args.table.now c.requires.regular);
}

pub turned_part-requires-clause-constant : goal.turned_part-requires-clause-constant
turned_part-requires-clause-constant c =
    let t = c.args.table.now in
    let h = c.product_weight-product.result in
    let part = c.split_at_zeros-turned in
    let bound : unsigned_abs h ≤ 1000000000000000000 = omega (arith, c.product_weight-product.ensures.small) in
    let same = passed_is h bound in
    let sign : pos 0 <ℤ h = omega (arith, ints, same, c.if-product-le0.false) in
    let hidden : part.result.hidden ≡ neg_ℤ h = part.ensures.value.hidden ∙ minus_is h bound in
    let cubic : neg_ℤ h ≡ cubic_weight c.turned_table.result =
    ap neg_ℤ c.product_weight-product.ensures.value ∙ sym (cubic-turned t) ∙ ap cubic_weight (sym c.turned_table.ensures.value) in
    let zeros : AtZeros c.turned_table.result part.result (unsigned_abs h) = record {
      constant = part.ensures.value.constant;
      first = part.ensures.value.first;
      second = part.ensures.value.second;
      third = part.ensures.value.third;
      first_second = part.ensures.value.arcs.first_second;
      first_third = part.ensures.value.arcs.first_third;
      second_third = part.ensures.value.arcs.second_third;
      hidden = hidden ∙ above_is h sign;
      cubic = hidden ∙ cubic;
    } in
    let small : unsigned_abs (entry t 0) ≤ 1000000000 = c.requires.values 0 (pos 0) (omega (arith, c.told-table)) in
    passed_is (entry t 0) (omega (arith, small)) ∙ constant_turned t c.turned_table.result part.result (unsigned_abs h) c.turned_table.ensures.value zeros

pub turned_part-requires-clause-range : goal.turned_part-requires-clause-range
turned_part-requires-clause-range c =
    let t = c.args.table.now in
    let small : unsigned_abs (entry t 0) ≤ 1000000000 = c.requires.values 0 (pos 0) (omega (arith, c.told-table)) in
    rw (passed_is (entry t 0) (omega (arith, small))) small

pub returns-else-product-le0-clause-value : goal.returns-else-product-le0-clause-value
returns-else-product-le0-clause-value c =
    let t = c.args.table.now in
    let h = c.product_weight-product.result in
    let part = c.split_at_zeros-turned in
    let bound : unsigned_abs h ≤ 1000000000000000000 = omega (arith, c.product_weight-product.ensures.small) in
    let same = passed_is h bound in
    let sign : pos 0 <ℤ h = omega (arith, ints, same, c.if-product-le0.false) in
    let hidden : part.result.hidden ≡ neg_ℤ h = part.ensures.value.hidden ∙ minus_is h bound in
    let cubic : neg_ℤ h ≡ cubic_weight c.turned_table.result =
    ap neg_ℤ c.product_weight-product.ensures.value ∙ sym (cubic-turned t) ∙ ap cubic_weight (sym c.turned_table.ensures.value) in
    let zeros : AtZeros c.turned_table.result part.result (unsigned_abs h) = record {
      constant = part.ensures.value.constant;
      first = part.ensures.value.first;
      second = part.ensures.value.second;
      third = part.ensures.value.third;
      first_second = part.ensures.value.arcs.first_second;
      first_third = part.ensures.value.arcs.first_third;
      second_third = part.ensures.value.arcs.second_third;
      hidden = hidden ∙ above_is h sign;
      cubic = hidden ∙ cubic;
    } in
    least_turned t c.turned_table.result c.turned_part.result part.result c.turned_table.ensures.value
    (least_at_zeros c.turned_table.result part.result (unsigned_abs h) zeros) c.turned_part.ensures.value
