use Rattle.std.proofs.Common.{◌≡◌, ◌+ℤ◌, sym, subst, w64, FitsSigned}
use Rattle.std.specs.List.{list_any}
use Rattle.std.proofs.lemmas.Int.{to_z-of_z}
use Rattle.std.proofs.lemmas.Result.{on_ok_weaker}
use Rattle.sums.specs.IntegerSums.{int_counted}
use Rattle.pseudo_bool.specs.Energies.{Energy, value_at}
use Rattle.pseudo_bool.specs.Hidden.{IsLeastOver, IsTieable, if_any_terms, with_terms}
use Rattle.pseudo_bool.proofs.HiddenLemmas.{any_least}
use Rattle.pseudo_bool.proofs.energy.Energy.add_if_any.Goals as goal

pub returns-clause-least : goal.returns-clause-least
returns-clause-least c =
    let old = c.args.self.now in
    let fits : FitsSigned w64 c.args.cost = c.ranges.cost in
    let tie : IsTieable old c.args.names.now c.args.cost = simp to_z-of_z at c.in_ok-test_tie.ensures.accepted in
    on_ok_weaker c.add_tied.result (λ added x.
    let P : Energy → Type 0 = λ e. IsLeastOver e old.variables x (value_at old x +ℤ int_counted (list_any x c.args.names.now) c.args.cost) in
    let is : c.add_tied.new.self ≡ with_terms old (if_any_terms c.args.names.now old.variables c.args.cost) = simp to_z-of_z at added in
    subst P (sym is) (any_least old c.args.names.now c.args.cost x c.add_tied.ensures.limits tie)) c.add_tied.ensures.added
