-- Places that stand in circles, each with the one after it and the one before it.
use Rattle.std.specs.Prelude.{◌≡◌, ℕ, ◌<◌, List, length, slice_index, slice_set}

-- what one list leads to the other leads back from
abbrev pub Undoes : List ℕ → List ℕ → Type 0
Undoes next prev =
    (x : ℕ) → x < length next
    → (slice_index next x < length next) × (slice_index prev (slice_index next x) ≡ x)

-- each place has one after it and one before it
pub record AreCircles (next prev : List ℕ) : Type 0 where
  pub size : length prev ≡ length next
  pub forth : Undoes next prev
  pub back : Undoes prev next

-- a place leaves its circle, and stands alone: the same both ways
abbrev pub without_link : List ℕ → List ℕ → ℕ → List ℕ
without_link next prev x = slice_set (slice_set next (slice_index prev x) (slice_index next x)) x x

-- a place stands between two
abbrev pub with_link : List ℕ → ℕ → ℕ → ℕ → List ℕ
with_link next from x to = slice_set (slice_set next from x) x to

-- what stands after a place, once another has left its circle
abbrev pub after_left : List ℕ → List ℕ → ℕ → ℕ → ℕ
after_left next prev before x = slice_index (without_link next prev x) before

-- each place stands alone
abbrev pub AreAlone : List ℕ → Type 0
AreAlone next = (x : ℕ) → x < length next → slice_index next x ≡ x
