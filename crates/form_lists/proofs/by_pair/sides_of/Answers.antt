use Rattle.std.proofs.Common.{◌∙◌, ◌-ℤ◌, ℕ, List, ℤ, pos, ap}
use Rattle.std.specs.Prelude.{slice_index_or}
use Rattle.site_forms.proofs.Sums.{small_passed}
use Rattle.form_lists.proofs.by_pair.sides_of.Goals as goal

-- the difference of two entries of a table
abbrev minus : ℕ → ℕ → List ℤ → ℤ
minus i j table = slice_index_or table i (pos 0) -ℤ slice_index_or table j (pos 0)

pub returns-clause-rises : goal.returns-clause-rises
returns-clause-rises g c = λ m meant.
    let table = c.term-table.ensures.table m meant in
    record {
      first = (
        small_passed c.difference.result c.difference.ensures.small ∙ c.difference.ensures.value ∙ ap (minus 2 0) table,
        small_passed c.difference-2.result c.difference-2.ensures.small ∙ c.difference-2.ensures.value ∙ ap (minus 3 1) table,
      );
      second = (
        small_passed c.difference-3.result c.difference-3.ensures.small ∙ c.difference-3.ensures.value ∙ ap (minus 1 0) table,
        small_passed c.difference-4.result c.difference-4.ensures.small ∙ c.difference-4.ensures.value ∙ ap (minus 3 2) table,
      );
    }
