use Rattle.std.proofs.Common.{List, ℤ, subst, arith}
use Rattle.cost_store.specs.LabelCosts.{AreFree}
use Rattle.near_changes.proofs.Noting.{move_stamped}
use Rattle.one_move.specs.Building.{site_values}
use Rattle.one_move.proofs.Answers.{costs_free}
use Rattle.later_expansions.proofs.Stages.{not_taken}
use Rattle.later_expansions.proofs.expansion_memory.note_whole.Goals as goal

pub returns-else-has_cost : goal.returns-else-has_cost
returns-else-has_cost g c = λ f h taken m meant size best stamped.
    let S : List ℤ → Type 0 = λ list. AreFree list in
    let free = costs_free m c.args.problem.now.label_costs meant.costs_are (subst S c.costs_of.ensures (c.has_cost.ensures.none c.if-has_cost.false)) in
    move_stamped m c.args.alpha f h (site_values c.args.choices.now) c.args.changes.now c.note_values.new.self free best
    (λ p l none. not_taken c.args.alpha f h (site_values c.args.choices.now) p taken (omega (arith, l, size)) none) c.note_values.ensures stamped
