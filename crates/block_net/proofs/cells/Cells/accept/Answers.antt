use Rattle.std.proofs.Common.{◌≡◌, ◌<◌, length, rules, sym, ◌∙◌, ap, subst, arith}
use Rattle.std.proofs.lemmas.Grind.{common_steps}
use Rattle.std.proofs.lemmas.List.{get_or_read}
use Rattle.std.proofs.lemmas.List.Elements.{All-get_or}
use Rattle.block_net.specs.declared.lanes.Border.{Border}
use Rattle.block_net.specs.Views.{CellsView, IsBlock, IsBorder, border_in, no_border}
use Rattle.block_net.proofs.Keeping.{accept_keeps}
use Rattle.block_net.proofs.cells.Cells.accept.Goals as goal

pub overflow_add-border : goal.overflow_add-border
overflow_add-border c =
    let now = c.args.self.now in
    let k : IsBlock now = subst IsBlock c.self.view_is c.self.invariant in
    let is = All-get_or (IsBorder (length now.excess) now.top) now.borders c.args.j no_border c.requires.place k.borders in
    let l : c.args.j < length c.self.inside.borders.items = subst (λ (b : CellsView). c.args.j < length b.borders) (sym c.self.view_is) c.requires.place in
    let read : c.index.result.now ≡ border_in now c.args.j = get_or_read c.self.inside.borders.items c.args.j c.index.result.now l c.index.ensures no_border ∙ ap (λ (b : CellsView). border_in b c.args.j) c.self.view_is in
    let residual = ap (λ (x : Border). x.residual) (c.border-border.ensures.value ∙ read) in
    let small = is.small in
    omega (arith, residual, small, c.requires.fits)

pub invariant_of-self : goal.invariant_of-self
invariant_of-self c =
    let now = c.args.self.now in
    let k : IsBlock now = subst IsBlock c.self.view_is c.self.invariant in
    let kept = accept_keeps now c.args.j c.args.amount c.args.label k c.requires.place c.requires.fits c.requires.label in
    subst IsBlock (sym (first_of (search (rules, common_steps), grind (arith, common_steps)))) kept

pub overflow_add-index_mut : goal.overflow_add-index_mut
overflow_add-index_mut c = grind (arith, common_steps)

pub returns-clause-accepted : goal.returns-clause-accepted
returns-clause-accepted c = grind (arith, common_steps)
