-- The numbers that a call answers.
use Rattle.std.specs.Prelude.{ℕ, Option, Some, None, cond}
use Rattle.regular.specs.declared.fixed.Fixed.{Fixed}
use Rattle.gco_arrays.specs.declared.refusal.Refusal.{Refusal}
use Rattle.gco_arrays.specs.declared.refusal.Refusal.TheVariants as why

abbrev pub status_of : Refusal → ℕ
status_of why.OutOfMemory = 1
status_of why.TooManySites = 2
status_of why.LabelCount = 3
status_of why.DataCount = 4
status_of why.SmoothCount = 5
status_of why.NoSuchMoves = 6
status_of why.LabelCostCount = 7
status_of why.NoSuchMove = 8
status_of why.TooLarge = 9
status_of (why.NoSuchSite _) = 10
status_of (why.NoSuchLabel _) = 11
status_of (why.SameSite _) = 12
status_of why.TooManyPairs = 13
status_of (why.WeightRange _) = 14
status_of (why.DataRange _) = 15
status_of (why.SmoothRange _) = 16
status_of (why.LabelCostRange _) = 17
status_of why.ConstantRange = 18
status_of (why.TermNotRegular _ _) = 20
status_of (why.NotRegular _ _ _) = 24
status_of why.LabelCostInSwap = 27
status_of why.NoSuchCourse = 28
status_of why.TableOfCount = 30
status_of (why.NoSuchTable _) = 31
status_of (why.PairCostRange _) = 32

-- the number of a call that made as many moves as were allowed and is not at the end of its run
abbrev pub unfinished_status : ℕ
unfinished_status = 29

-- the place that a refusal tells, or 0
abbrev pub told_place : Refusal → ℕ
told_place (why.NoSuchSite place) = place
told_place (why.NoSuchLabel place) = place
told_place (why.SameSite place) = place
told_place (why.WeightRange place) = place
told_place (why.DataRange place) = place
told_place (why.SmoothRange place) = place
told_place (why.LabelCostRange place) = place
told_place (why.NoSuchTable place) = place
told_place (why.PairCostRange place) = place
told_place (why.TermNotRegular place fixed) = place
told_place (why.NotRegular place alpha beta) = place
told_place _ = 0

-- the labels of the move that a refusal tells, twice the one of an expansion
abbrev pub second_of : ℕ → Option ℕ → ℕ
second_of alpha None = alpha
second_of alpha (Some beta) = beta

abbrev pub labels_of : Refusal → ℕ × ℕ
labels_of (why.NotRegular place alpha beta) = (alpha, second_of alpha beta)
labels_of _ = (0, 0)

-- the projection of a term of three that a refusal tells: which of the three variables is fixed,
-- and at which value; 3 and 0 where none is
abbrev pub fixed_numbers : Option Fixed → ℕ × ℕ
fixed_numbers None = (3, 0)
fixed_numbers (Some fixed) = (fixed.position, cond fixed.value 1 0)

abbrev pub fixed_of : Refusal → ℕ × ℕ
fixed_of (why.TermNotRegular place fixed) = fixed_numbers fixed
fixed_of _ = (3, 0)
