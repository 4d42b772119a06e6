use Rattle.std.proofs.Common.{◌≤◌, sym, subst, arith, rules}
use Rattle.std.proofs.lemmas.Grind.{common_steps}
use Rattle.block_net.specs.Views.{IsBlock, excess_in, border_in}
use Rattle.block_net.proofs.Keeping.{send_keeps}
use Rattle.block_net.proofs.cells.Cells.send.Goals as goal

pub overflow_sub-border : goal.overflow_sub-border
overflow_sub-border c = grind (arith, common_steps)

pub overflow_sub-index_mut : goal.overflow_sub-index_mut
overflow_sub-index_mut c = grind (arith, common_steps)

pub invariant_of-self : goal.invariant_of-self
invariant_of-self c =
    let now = c.args.self.now in
    let k : IsBlock now = subst IsBlock c.self.view_is c.self.invariant in
    let a = c.min-amount.result in
    let enough : a ≤ excess_in now c.args.v = grind (arith, common_steps) in
    let fits : a ≤ (border_in now c.args.j).residual = grind (arith, common_steps) in
    let kept = send_keeps now c.args.v c.args.j a k c.requires.node c.requires.place enough fits in
    subst IsBlock (sym (first_of (search (rules, common_steps), grind (arith, common_steps)))) kept

pub returns-clause-sent : goal.returns-clause-sent
returns-clause-sent c = grind (arith, common_steps)
