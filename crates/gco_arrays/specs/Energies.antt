-- What the terms of a call mean.
use Rattle.std.specs.Prelude.{ℕ, ℤ, List, [], ◌∷◌, ◌++◌, map}
use Rattle.pseudo_bool.specs.Energies.{Energy}
use Rattle.pseudo_bool.specs.declared.term.Term.{Term}
use Rattle.pseudo_bool.specs.declared.term.Term.TheVariants.{One, Two, Three}
use Rattle.gco_arrays.specs.declared.terms.GcoOne.{GcoOne}
use Rattle.gco_arrays.specs.declared.terms.GcoTwo.{GcoTwo}
use Rattle.gco_arrays.specs.declared.terms.GcoThree.{GcoThree}

abbrev pub one_of : GcoOne → Term
one_of given = One given.variable (given.at0 ∷ given.at1 ∷ [])

abbrev pub two_numbers : GcoTwo → List ℤ
two_numbers given = given.at00 ∷ given.at01 ∷ given.at10 ∷ given.at11 ∷ []

abbrev pub two_of : GcoTwo → Term
two_of given = Two given.first given.second (two_numbers given)

abbrev pub three_numbers : GcoThree → List ℤ
three_numbers given =
    given.at000 ∷ given.at001 ∷ given.at010 ∷ given.at011 ∷ given.at100 ∷ given.at101 ∷ given.at110
    ∷ given.at111 ∷ []

abbrev pub three_of : GcoThree → Term
three_of given = Three given.first given.second given.third (three_numbers given)

-- the energy that the arrays of a call are: the constant, the terms of one variable, then those of
-- two, then those of three
abbrev pub energy_given : ℕ → ℤ → List GcoOne → List GcoTwo → List GcoThree → Energy
energy_given variables constant ones twos threes = record {
  constant = constant;
  variables = variables;
  terms = map one_of ones ++ map two_of twos ++ map three_of threes;
}
