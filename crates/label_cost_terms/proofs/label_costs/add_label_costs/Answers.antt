use Rattle.std.proofs.Common.{◌≡◌, ℕ, ◌+◌, ◌*◌, ◌<◌, ◌≤◌, Bool, length, vec_len, pos, unsigned_abs, sym, ap, ◌∙◌, subst, arith, rules}
use Rattle.std.proofs.lemmas.Int.{ints}
use Rattle.sums.specs.Sums.{count_if}
use Rattle.compile_cut.specs.Shown.{Shows}
use Rattle.compile_cut.proofs.TermLemmas.{bounded-weaker}
use Rattle.move_energy.proofs.Numbers.{rank_most}
use Rattle.cost_store.specs.LabelCosts.{cost_at}
use Rattle.label_cost_terms.specs.LabelCosts.{uses, costs_below}
use Rattle.label_cost_terms.proofs.Uses.{uses_same}
use Rattle.label_cost_terms.proofs.Costing.{adds_fixed, adds_both, adds_along, wider_none, wider_more, more_costs}
use Rattle.label_cost_terms.proofs.label_costs.add_label_costs.Goals as goal

pub loop-label-init : goal.loop-label-init
loop-label-init c = record {
  wider = wider_none 0 0 c.args.form.now;
  adds = adds_fixed c.args.form.now (costs_below 0 c.args.alpha c.args.at.now c.args.variables.now.choices.items c.args.costs.now) 0 (λ x. Rattle.std.proofs.Common.refl);
}

pub add_label-requires-clause-form : goal.add_label-requires-clause-form
add_label-requires-clause-form c =
    let choices = c.args.variables.now.choices.items in
    let few : 5242880 + 10486 * c.loop-label.label ≤ 8388608 = omega (arith, c.loop-label-test.true, c.requires.few.1) in
    record {
      nodes = omega (arith, c.loop-label.invariant.adds.nodes, c.requires.nodes);
      form = record {
        bounded = bounded-weaker (5242880 + 10486 * c.loop-label.label) 8388608 c.loop-label.form few (c.loop-label.invariant.wider.bounded 5242880 c.requires.bounded);
        room = omega (arith, c.loop-label.invariant.wider.nodes, c.requires.nodes, rank_most choices (length choices), c.requires.opened.count, c.requires.few.0, c.requires.few.1);
      };
    }

pub returns-clause-bounded : goal.returns-clause-bounded
returns-clause-bounded c =
    let few : 5242880 + 10486 * c.loop-label.label ≤ 8388608 = omega (arith, c.loop-label.auto, c.requires.few.1) in
    bounded-weaker (5242880 + 10486 * c.loop-label.label) 8388608 c.loop-label.form few (c.loop-label.invariant.wider.bounded 5242880 c.requires.bounded)

pub loop-label-preserved : goal.loop-label-preserved
loop-label-preserved c =
    let old = c.args.form.now in
    let f = c.args.at.now in
    let choices = c.args.variables.now.choices.items in
    let costs = c.args.costs.now in
    let i = c.loop-label.label in
    let cost : c.unsigned_abs-cost.result ≡ cost_at costs i = search (rules, ints) in
    let same = λ (x y : ℕ → Bool) (shown : Shows (vec_len old.weights) x y).
    ap (λ (b : Bool). count_if b c.unsigned_abs-cost.result) (uses_same c.args.alpha f choices i x y (vec_len old.weights) c.requires.opened.count (omega (arith, c.requires.nodes)) shown) in
    let both = adds_both old c.loop-label.form c.add_label.new.form (costs_below i c.args.alpha f choices costs) (λ x. count_if (uses c.args.alpha f choices i x) c.unsigned_abs-cost.result)
    c.loop-label.invariant.adds c.in_ok-add_label.ensures.adds same in
    record {
      wider = wider_more i old c.loop-label.form c.add_label.new.form c.loop-label.invariant.wider c.in_ok-add_label.ensures.wider;
      adds = adds_along old c.add_label.new.form (λ x. costs_below i c.args.alpha f choices costs x + count_if (uses c.args.alpha f choices i x) c.unsigned_abs-cost.result)
          (costs_below (i + 1) c.args.alpha f choices costs)
          (λ x. more_costs i c.args.alpha f choices costs x c.unsigned_abs-cost.result cost) both;
    }
