use Rattle.std.proofs.Common.{◌≡◌, ◌∙◌, ◌≤ℤ◌, subst, sym, rules, w64, FitsSigned, to_z, of_z}
use Rattle.std.proofs.lemmas.Int.{to_z-of_z}
use Rattle.graph_cuts.specs.Energies.{Energy, value_at, assignment}
use Rattle.example_energy.proofs.least_value.Goals as goal

pub returns-clause-least : goal.returns-clause-least
returns-clause-least c = λ x.
    let minimum = c.in_ok-minimum.minimum in
    let same = c.in-Ok.ensures.same in
    let fits : FitsSigned w64 minimum.value = record { sfits = search rules } in
    let value : to_z w64 (of_z w64 minimum.value) ≡ value_at c.in-Ok.regular (assignment minimum.assignment.items) =
    to_z-of_z w64 minimum.value fits ∙ c.in_ok-minimum.ensures.value in
    let P : Energy → Type 0 = λ e. to_z w64 (of_z w64 minimum.value) ≤ℤ value_at e x in
    subst P same (rw value (c.in_ok-minimum.ensures.best.least x))

pub returns-clause-reached : goal.returns-clause-reached
returns-clause-reached c =
    let minimum = c.in_ok-minimum.minimum in
    let same = c.in-Ok.ensures.same in
    let fits : FitsSigned w64 minimum.value = record { sfits = search rules } in
    let value : to_z w64 (of_z w64 minimum.value) ≡ value_at c.in-Ok.regular (assignment minimum.assignment.items) =
    to_z-of_z w64 minimum.value fits ∙ c.in_ok-minimum.ensures.value in
    let P : Energy → Type 0 = λ e. value_at e (assignment minimum.assignment.items) ≡ to_z w64 (of_z w64 minimum.value) in
    (assignment minimum.assignment.items, subst P same (sym value))
