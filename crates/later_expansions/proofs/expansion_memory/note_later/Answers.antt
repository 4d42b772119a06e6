use Rattle.std.proofs.Common.{◌≡◌, ◌↔◌, List, ℕ, true, sym, subst, arith}
use Rattle.std.specs.List.{Contains}
use Rattle.near_changes.specs.Looking.{is_marked}
use Rattle.near_changes.proofs.Noting.{move_stamped}
use Rattle.one_move.proofs.Answers.{costs_free}
use Rattle.later_expansions.proofs.Stages.{not_taken}
use Rattle.later_expansions.proofs.expansion_memory.note_later.Goals as goal

pub returns : goal.returns
returns g c = λ f h listed taken m meant size best stamped.
    let took = is_marked c.args.stage.now.taken.items in
    let free = costs_free m c.args.problem.now.label_costs meant.costs_are c.requires.free in
    let noted = c.note_sites.ensures took (λ within p l.
    subst (λ (xs : List ℕ). (took p ≡ true) ↔ Contains xs p) (sym c.deref.ensures.value)
    (listed.listed p (let sites = stamped.sites (omega (arith, within)) in omega (arith, l, sites, size)))) in
    move_stamped m c.args.alpha f h took c.args.changes.now c.note_sites.new.self free best
    (λ p l none. not_taken c.args.alpha f h took p taken (omega (arith, l, size)) none) noted stamped
