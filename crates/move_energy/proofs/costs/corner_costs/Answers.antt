use Rattle.std.proofs.Common.{◌≡◌, ◌∙◌, ◌∷◌, [], ℤ, w64, FitsSigned}
use Rattle.std.proofs.lemmas.Int.{to_z-of_z}
use Rattle.move_energy.proofs.costs.corner_costs.Goals as goal

pub pair_cost-neither-requires-clause-weight : goal.pair_cost-neither-requires-clause-weight
pair_cost-neither-requires-clause-weight g c = λ κs lives. c.requires.weight

pub pair_cost-neither-requires-clause-inside : goal.pair_cost-neither-requires-clause-inside
pair_cost-neither-requires-clause-inside g c = λ κs lives. (c.requires.first.0, c.requires.second.0)

pub pair_cost-first_alone-requires-clause-weight : goal.pair_cost-first_alone-requires-clause-weight
pair_cost-first_alone-requires-clause-weight g c = λ κs lives. c.requires.weight

pub pair_cost-first_alone-requires-clause-inside : goal.pair_cost-first_alone-requires-clause-inside
pair_cost-first_alone-requires-clause-inside g c = λ κs lives. (c.requires.first.1, c.requires.second.0)

pub pair_cost-second_alone-requires-clause-weight : goal.pair_cost-second_alone-requires-clause-weight
pair_cost-second_alone-requires-clause-weight g c = λ κs lives. c.requires.weight

pub pair_cost-second_alone-requires-clause-inside : goal.pair_cost-second_alone-requires-clause-inside
pair_cost-second_alone-requires-clause-inside g c = λ κs lives. (c.requires.first.0, c.requires.second.1)

pub pair_cost-both-requires-clause-weight : goal.pair_cost-both-requires-clause-weight
pair_cost-both-requires-clause-weight g c = λ κs lives. c.requires.weight

four : (a b c d w x y z : ℤ) → a ≡ w → b ≡ x → c ≡ y → d ≡ z → a ∷ b ∷ c ∷ d ∷ [] ≡ w ∷ x ∷ y ∷ z ∷ []
four a b c d w x y z one two three last = cc

pub returns-clause-table : goal.returns-clause-table
returns-clause-table g c = λ m answers.
    let neither : FitsSigned w64 c.pair_cost-neither.result = record { sfits = c.pair_cost-neither.type_inv } in
    let first_alone : FitsSigned w64 c.pair_cost-first_alone.result = record { sfits = c.pair_cost-first_alone.type_inv } in
    let second_alone : FitsSigned w64 c.pair_cost-second_alone.result = record { sfits = c.pair_cost-second_alone.type_inv } in
    let both : FitsSigned w64 c.pair_cost-both.result = record { sfits = c.pair_cost-both.type_inv } in
    four _ _ _ _ _ _ _ _ (to_z-of_z w64 c.pair_cost-neither.result neither ∙ c.pair_cost-neither.ensures.cost m answers)
    (to_z-of_z w64 c.pair_cost-second_alone.result second_alone ∙ c.pair_cost-second_alone.ensures.cost m answers)
    (to_z-of_z w64 c.pair_cost-first_alone.result first_alone ∙ c.pair_cost-first_alone.ensures.cost m answers)
    (to_z-of_z w64 c.pair_cost-both.result both ∙ c.pair_cost-both.ensures.cost m answers)

pub pair_cost-both-requires-clause-inside : goal.pair_cost-both-requires-clause-inside
pair_cost-both-requires-clause-inside g c = λ κs lives. (c.requires.first.1, c.requires.second.1)
