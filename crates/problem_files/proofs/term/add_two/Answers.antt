use Rattle.std.proofs.Common.{arith, ◌≡◌, ◌∙◌, pos, sym, w64}
use Rattle.std.proofs.lemmas.Int.{to_z-of_z}
use Rattle.pseudo_bool.specs.declared.term.Term.TheVariants.{Two}
use Rattle.pseudo_bool.proofs.RefusalLemmas.{unknown_refused, twice_refused, range_refused, term_taken}
use Rattle.problem_files.proofs.TermLemmas.{two_is_due, due_at_ok, due_at_err, gained}
use Rattle.problem_files.proofs.term.add_two.Goals as goal

pub returns-in-Ok-clause-ok : goal.returns-in-Ok-clause-ok
returns-in-Ok-clause-ok c =
    let due = two_is_due c.args.energy.now.variables c.args.place c.in_ok-first.first c.in_ok-second.second c.args.table c.add_term2.result
    (unknown_refused c.args.energy.now (Two c.in_ok-first.first c.in_ok-second.second c.args.table) c.add_term2.result c.add_term2.ensures.accepted c.add_term2.ensures.refused)
    (λ here same. twice_refused c.args.energy.now (Two c.in_ok-first.first c.in_ok-second.second c.args.table) c.add_term2.result c.add_term2.ensures.accepted c.add_term2.ensures.refused (here, omega (arith, here, same)) same)
    (λ here there. range_refused c.args.energy.now (Two c.in_ok-first.first c.in_ok-second.second c.args.table) c.add_term2.result c.add_term2.ensures.accepted c.add_term2.ensures.refused (here, there))
    (λ term. term_taken c.args.energy.now (Two c.in_ok-first.first c.in_ok-second.second c.args.table) c.add_term2.result c.add_term2.ensures.accepted c.add_term2.ensures.refused term c.requires.room) in
    let on_is : c.args.on ≡ pos c.in_ok-first.first = sym (to_z-of_z w64 c.args.on c.ranges.on) ∙ c.in_ok-first.ensures.ok in
    let and_is : c.args.and ≡ pos c.in_ok-second.second = sym (to_z-of_z w64 c.args.and c.ranges.and) ∙ c.in_ok-second.ensures.ok in
    rw (on_is, and_is) (gained _ _ _ _ (due_at_ok _ _ _ _ _ due c.in-Ok.is) c.in-Ok.ensures.added)

pub returns-in-Err-clause-refused : goal.returns-in-Err-clause-refused
returns-in-Err-clause-refused c =
    let due = two_is_due c.args.energy.now.variables c.args.place c.in_ok-first.first c.in_ok-second.second c.args.table c.add_term2.result
    (unknown_refused c.args.energy.now (Two c.in_ok-first.first c.in_ok-second.second c.args.table) c.add_term2.result c.add_term2.ensures.accepted c.add_term2.ensures.refused)
    (λ here same. twice_refused c.args.energy.now (Two c.in_ok-first.first c.in_ok-second.second c.args.table) c.add_term2.result c.add_term2.ensures.accepted c.add_term2.ensures.refused (here, omega (arith, here, same)) same)
    (λ here there. range_refused c.args.energy.now (Two c.in_ok-first.first c.in_ok-second.second c.args.table) c.add_term2.result c.add_term2.ensures.accepted c.add_term2.ensures.refused (here, there))
    (λ term. term_taken c.args.energy.now (Two c.in_ok-first.first c.in_ok-second.second c.args.table) c.add_term2.result c.add_term2.ensures.accepted c.add_term2.ensures.refused term c.requires.room) in
    let on_is : c.args.on ≡ pos c.in_ok-first.first = sym (to_z-of_z w64 c.args.on c.ranges.on) ∙ c.in_ok-first.ensures.ok in
    let and_is : c.args.and ≡ pos c.in_ok-second.second = sym (to_z-of_z w64 c.args.and c.ranges.and) ∙ c.in_ok-second.ensures.ok in
    λ memory. rw (c.refusal_of.ensures, on_is, and_is) (due_at_err _ _ _ _ _ due c.in-Err.is (rw c.refusal_of.ensures at memory))
