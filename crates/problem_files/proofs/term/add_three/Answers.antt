use Rattle.std.proofs.Common.{◌≡◌, ◌∙◌, pos, sym, w64}
use Rattle.std.proofs.lemmas.Int.{to_z-of_z}
use Rattle.pseudo_bool.specs.declared.term.Term.TheVariants.{Three}
use Rattle.pseudo_bool.proofs.RefusalLemmas.{unknown_refused, twice_refused, range_refused, term_taken}
use Rattle.problem_files.proofs.TermLemmas.{three_is_due, due_at_ok, due_at_err, gained}
use Rattle.problem_files.proofs.term.add_three.Goals as goal

pub returns-in-Ok-clause-ok : goal.returns-in-Ok-clause-ok
returns-in-Ok-clause-ok c =
    let due = three_is_due c.args.energy.now.variables c.args.place c.in_ok-x.x c.in_ok-y.y c.in_ok-z.z c.args.table c.add_term3.result
    (unknown_refused c.args.energy.now (Three c.in_ok-x.x c.in_ok-y.y c.in_ok-z.z c.args.table) c.add_term3.result c.add_term3.ensures.accepted c.add_term3.ensures.refused)
    (λ x y z. twice_refused c.args.energy.now (Three c.in_ok-x.x c.in_ok-y.y c.in_ok-z.z c.args.table) c.add_term3.result c.add_term3.ensures.accepted c.add_term3.ensures.refused (x, y, z))
    (λ x y z x_y x_z y_z. range_refused c.args.energy.now (Three c.in_ok-x.x c.in_ok-y.y c.in_ok-z.z c.args.table) c.add_term3.result c.add_term3.ensures.accepted c.add_term3.ensures.refused (x, y, z) (x_y, x_z, y_z))
    (λ term. term_taken c.args.energy.now (Three c.in_ok-x.x c.in_ok-y.y c.in_ok-z.z c.args.table) c.add_term3.result c.add_term3.ensures.accepted c.add_term3.ensures.refused term c.requires.room) in
    let on_is : c.args.on ≡ pos c.in_ok-x.x = sym (to_z-of_z w64 c.args.on c.ranges.on) ∙ c.in_ok-x.ensures.ok in
    let and_is : c.args.and ≡ pos c.in_ok-y.y = sym (to_z-of_z w64 c.args.and c.ranges.and) ∙ c.in_ok-y.ensures.ok in
    let also_is : c.args.also ≡ pos c.in_ok-z.z = sym (to_z-of_z w64 c.args.also c.ranges.also) ∙ c.in_ok-z.ensures.ok in
    rw (on_is, and_is, also_is) (gained _ _ _ _ (due_at_ok _ _ _ _ _ due c.in-Ok.is) c.in-Ok.ensures.added)

pub returns-in-Err-clause-refused : goal.returns-in-Err-clause-refused
returns-in-Err-clause-refused c =
    let due = three_is_due c.args.energy.now.variables c.args.place c.in_ok-x.x c.in_ok-y.y c.in_ok-z.z c.args.table c.add_term3.result
    (unknown_refused c.args.energy.now (Three c.in_ok-x.x c.in_ok-y.y c.in_ok-z.z c.args.table) c.add_term3.result c.add_term3.ensures.accepted c.add_term3.ensures.refused)
    (λ x y z. twice_refused c.args.energy.now (Three c.in_ok-x.x c.in_ok-y.y c.in_ok-z.z c.args.table) c.add_term3.result c.add_term3.ensures.accepted c.add_term3.ensures.refused (x, y, z))
    (λ x y z x_y x_z y_z. range_refused c.args.energy.now (Three c.in_ok-x.x c.in_ok-y.y c.in_ok-z.z c.args.table) c.add_term3.result c.add_term3.ensures.accepted c.add_term3.ensures.refused (x, y, z) (x_y, x_z, y_z))
    (λ term. term_taken c.args.energy.now (Three c.in_ok-x.x c.in_ok-y.y c.in_ok-z.z c.args.table) c.add_term3.result c.add_term3.ensures.accepted c.add_term3.ensures.refused term c.requires.room) in
    let on_is : c.args.on ≡ pos c.in_ok-x.x = sym (to_z-of_z w64 c.args.on c.ranges.on) ∙ c.in_ok-x.ensures.ok in
    let and_is : c.args.and ≡ pos c.in_ok-y.y = sym (to_z-of_z w64 c.args.and c.ranges.and) ∙ c.in_ok-y.ensures.ok in
    let also_is : c.args.also ≡ pos c.in_ok-z.z = sym (to_z-of_z w64 c.args.also c.ranges.also) ∙ c.in_ok-z.ensures.ok in
    λ memory. rw (c.refusal_of.ensures, on_is, and_is, also_is) (due_at_err _ _ _ _ _ due c.in-Err.is (rw c.refusal_of.ensures at memory))
