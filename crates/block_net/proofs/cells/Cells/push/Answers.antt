use Rattle.std.proofs.Common.{◌≤◌, sym, subst, arith, rules}
use Rattle.std.proofs.lemmas.Grind.{common_steps}
use Rattle.block_net.specs.Views.{IsBlock, excess_in, lane_in}
use Rattle.block_net.proofs.Keeping.{push_keeps}
use Rattle.block_net.proofs.cells.Cells.push.Goals as goal

pub invariant_of-self : goal.invariant_of-self
invariant_of-self c =
    let now = c.args.self.now in
    let k : IsBlock now = subst IsBlock c.self.view_is c.self.invariant in
    let a = c.min-amount.result in
    let enough : a ≤ excess_in now c.args.v = grind (arith, common_steps) in
    let fits : a ≤ (lane_in now c.args.j).residual = grind (arith, common_steps) in
    let kept = push_keeps now c.args.v c.args.j a k c.requires.node c.requires.place enough fits in
    subst IsBlock (sym (first_of (search (rules, common_steps), grind (arith, common_steps)))) kept

pub overflow_add-index_mut : goal.overflow_add-index_mut
overflow_add-index_mut c = grind (arith, common_steps)

pub overflow_add-index_mut-2 : goal.overflow_add-index_mut-2
overflow_add-index_mut-2 c = grind (arith, common_steps)

pub overflow_sub-index_mut : goal.overflow_sub-index_mut
overflow_sub-index_mut c = grind (arith, common_steps)

pub overflow_sub-index_mut-2 : goal.overflow_sub-index_mut-2
overflow_sub-index_mut-2 c = grind (arith, common_steps)

pub returns : goal.returns
returns c = grind (arith, common_steps)
