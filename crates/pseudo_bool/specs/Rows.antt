use Rattle.std.specs.Prelude.{◌≡◌, ◌++◌, ℕ, ◌+◌, ◌*◌, ◌<◌, ◌≤◌, List, [], All, length, map}
use Rattle.std.specs.Prelude.{slice_index, slice_index_or}
use Rattle.pseudo_bool.specs.declared.term.Term.{Term}
use Rattle.pseudo_bool.specs.declared.term.Term.TheVariants.{One, Two, Three}
use Rattle.pseudo_bool.specs.declared.row.Row.{Row}
use Rattle.pseudo_bool.specs.declared.row.Row.TheVariants.{One as RowOne, Two as RowTwo}
use Rattle.pseudo_bool.specs.declared.row.Row.TheVariants.{Three as RowThree}
use Rattle.pseudo_bool.specs.declared.row.Triple.{Triple}

-- the term of a triple
abbrev pub triple_term : Triple → Term
triple_term t = Three t.first t.second t.third t.table

-- the triple at a place
abbrev pub triple_at : List Triple → ℕ → Triple
triple_at triples place =
    slice_index_or triples place (record { first = 0; second = 0; third = 0; table = [] })

-- the number that three bytes keep, the lowest first
unfoldable pub number_of_bytes : List ℕ → ℕ
number_of_bytes bytes = slice_index bytes 0 + 256 * slice_index bytes 1
    + 65536 * slice_index bytes 2

-- the term that a row keeps
abbrev pub term_of : List Triple → Row → Term
term_of triples (RowOne first table) = One (number_of_bytes first) table
term_of triples (RowTwo first second table) =
    Two (number_of_bytes first) (number_of_bytes second) table
term_of triples (RowThree place) = triple_term (triple_at triples place)

-- the terms that the rows keep
abbrev pub terms_of : List Triple → List Row → List Term
terms_of triples rows = map (term_of triples) rows

-- the triple that the row names is there
abbrev pub IsKept : ℕ → Row → Type 0
IsKept count (RowOne first table) = Unit {0}
IsKept count (RowTwo first second table) = Unit {0}
IsKept count (RowThree place) = place < count

-- each triple that a row names is there, and there are no more triples than rows
pub record AreKept (triples : List Triple) (rows : List Row) : Type 0 where
  pub each : All (IsKept (length triples)) rows
  pub count : length triples ≤ length rows

-- rows were added at the end, which keep these terms and name no triple
pub record AddsRows (old new : List Row) (terms : List Term) : Type 0 where
  pub more : List Row
  pub rows : new ≡ old ++ more
  pub are : terms_of [] more ≡ terms
  pub kept : All (IsKept 0) more
