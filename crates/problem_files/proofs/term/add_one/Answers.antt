use Rattle.std.proofs.Common.{◌≡◌, ◌∙◌, pos, sym, w64, rules}
use Rattle.std.proofs.lemmas.Int.{to_z-of_z}
use Rattle.pseudo_bool.specs.declared.term.Term.TheVariants.{One}
use Rattle.pseudo_bool.proofs.RefusalLemmas.{unknown_refused, range_refused, term_taken}
use Rattle.problem_files.proofs.TermLemmas.{one_is_due, due_at_ok, due_at_err, gained}
use Rattle.problem_files.proofs.term.add_one.Goals as goal

pub returns-in-Ok-clause-ok : goal.returns-in-Ok-clause-ok
returns-in-Ok-clause-ok c =
    let due = one_is_due c.args.energy.now.variables c.args.place c.in_ok-first.first c.args.table c.add_term1.result
    (unknown_refused c.args.energy.now (One c.in_ok-first.first c.args.table) c.add_term1.result c.add_term1.ensures.accepted c.add_term1.ensures.refused)
    (λ here. range_refused c.args.energy.now (One c.in_ok-first.first c.args.table) c.add_term1.result c.add_term1.ensures.accepted c.add_term1.ensures.refused here tt)
    (λ term. term_taken c.args.energy.now (One c.in_ok-first.first c.args.table) c.add_term1.result c.add_term1.ensures.accepted c.add_term1.ensures.refused term c.requires.room) in
    let on_is : c.args.on ≡ pos c.in_ok-first.first = sym (to_z-of_z w64 c.args.on c.ranges.on) ∙ c.in_ok-first.ensures.ok in
    rw on_is (gained _ _ _ _ (due_at_ok _ _ _ _ _ due c.in-Ok.is) c.in-Ok.ensures.added)

pub returns-in-Err-clause-refused : goal.returns-in-Err-clause-refused
returns-in-Err-clause-refused c =
    let due = one_is_due c.args.energy.now.variables c.args.place c.in_ok-first.first c.args.table c.add_term1.result
    (unknown_refused c.args.energy.now (One c.in_ok-first.first c.args.table) c.add_term1.result c.add_term1.ensures.accepted c.add_term1.ensures.refused)
    (λ here. range_refused c.args.energy.now (One c.in_ok-first.first c.args.table) c.add_term1.result c.add_term1.ensures.accepted c.add_term1.ensures.refused here tt)
    (λ term. term_taken c.args.energy.now (One c.in_ok-first.first c.args.table) c.add_term1.result c.add_term1.ensures.accepted c.add_term1.ensures.refused term c.requires.room) in
    let on_is : c.args.on ≡ pos c.in_ok-first.first = sym (to_z-of_z w64 c.args.on c.ranges.on) ∙ c.in_ok-first.ensures.ok in
    λ memory. rw (c.refusal_of.ensures, on_is) (due_at_err _ _ _ _ _ due c.in-Err.is (rw c.refusal_of.ensures at memory))

pub returns-in_err-first-clause-refused : goal.returns-in_err-first-clause-refused
returns-in_err-first-clause-refused c = search rules
