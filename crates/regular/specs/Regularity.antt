use Rattle.std.specs.Prelude.{◌≡◌, ℕ, zero, suc, ◌+◌, ◌*◌, ◌<◌, List, [], ◌∷◌, All, Option, None}
use Rattle.std.specs.Prelude.{Some, ℤ, ◌+ℤ◌, ◌≤ℤ◌, slice_get, take}
use Rattle.pseudo_bool.specs.declared.term.Term.{Term}
use Rattle.pseudo_bool.specs.declared.term.Term.TheVariants.{One, Two, Three}
use Rattle.pseudo_bool.specs.Energies.{Energy, entry, digit}
use Rattle.regular.specs.declared.fixed.Fixed.{Fixed}

-- a table of two variables: what it has at 00 and 11 is at most what it has at 01 and 10
-- (Kolmogorov and Zabih 2004, section 4.1)
abbrev pub IsRegularTable : List ℤ → Type 0
IsRegularTable table = (entry table 0 +ℤ entry table 3) ≤ℤ (entry table 1 +ℤ entry table 2)

-- the place in a table of three variables where the one at a position has one digit, and the
-- others, in order, have two more
abbrev pub table_place : ℕ → ℕ → ℕ → ℕ → ℕ
table_place zero fixed first second = 4 * fixed + 2 * first + second
table_place (suc zero) fixed first second = 4 * first + 2 * fixed + second
table_place (suc (suc position)) fixed first second = 4 * first + 2 * second + fixed

-- a projection of a table of three variables: the table of two of them, where the third is fixed
abbrev pub projection : List ℤ → Fixed → List ℤ
projection table fixed =
    let at = λ (first second : ℕ).
    entry table (table_place fixed.position (digit fixed.value) first second) in
    at 0 0 ∷ at 0 1 ∷ at 1 0 ∷ at 1 1 ∷ []

-- the order of the projections: the first variable fixed to 0, to 1, the second fixed to 0, and so
-- on
abbrev pub order_of : Fixed → ℕ
order_of fixed = 2 * fixed.position + digit fixed.value

-- a term of one variable always is, one of two where its table is, and one of three where its six
-- projections are (Kolmogorov and Zabih 2004, section 4.2)
abbrev pub IsRegularTerm : Term → Type 0
IsRegularTerm (One first table) = Unit {0}
IsRegularTerm (Two first second table) = IsRegularTable table
IsRegularTerm (Three first second third table) =
    (fixed : Fixed) → fixed.position < 3 → IsRegularTable (projection table fixed)

-- each term by itself
abbrev pub IsRegular : Energy → Type 0
IsRegular e = All IsRegularTerm e.terms

-- this projection is not regular, and each before it is
pub record IsFirstProjection (table : List ℤ) (fixed : Fixed) : Type 0 where
  pub position : fixed.position < 3
  pub fails : ¬ IsRegularTable (projection table fixed)
  pub before : (earlier : Fixed) → order_of earlier < order_of fixed
      → IsRegularTable (projection table earlier)

-- where a term first fails: in one of two variables nothing is fixed
abbrev pub FailsFirst : Term → Option Fixed → Type 0
FailsFirst (One first table) fixed = ⊥
FailsFirst (Two first second table) fixed = (fixed ≡ None) × ¬ IsRegularTable table
FailsFirst (Three first second third table) None = ⊥
FailsFirst (Three first second third table) (Some fixed) = IsFirstProjection table fixed

-- the term at this place is not regular, this is where it first fails, and each term before it is
-- regular
pub record IsFirstFailing (e : Energy) (place : ℕ) (fixed : Option Fixed) : Type 0 where
  pub failing : Term
  pub here : slice_get e.terms place ≡ Some failing
  pub fails : FailsFirst failing fixed
  pub before : All IsRegularTerm (take place e.terms)
