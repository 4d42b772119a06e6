-- The entries of a list after a part of it was written.
use Rattle.std.proofs.Common.{◌≡◌, ℕ, ◌+◌, ◌-◌, ◌<◌, ◌≤◌, List, length, get_or, drop, sym, ap, ◌∙◌, arith}
use Rattle.std.proofs.lemmas.List.{get_or-take, get_or-drop}
use Rattle.std.proofs.lemmas.Slice.{take-put_mid_below, between-put_mid}
use borrow.Rule.Slice.PartMut.{put_mid}

-- before the part
pub kept_below : (a k : ℕ) (xs ys : List ℕ) (j : ℕ) → a ≤ length xs → j < a → get_or (put_mid a k xs ys) j 0 ≡ get_or xs j 0
kept_below a k xs ys j inside less =
    sym (get_or-take a (put_mid a k xs ys) j 0 less)
    ∙ ap (λ l. get_or l j 0) (take-put_mid_below a k xs ys a (omega arith) inside)
    ∙ get_or-take a xs j 0 less

-- in the part
pub put_there : (a k : ℕ) (xs ys : List ℕ) (j : ℕ) → a ≤ length xs → length ys ≡ k → j < k
    → get_or (put_mid a k xs ys) (a + j) 0 ≡ get_or ys j 0
put_there a k xs ys j inside size less =
    sym (get_or-drop a (put_mid a k xs ys) j 0)
    ∙ sym (get_or-take (a + k - a) (drop a (put_mid a k xs ys)) j 0 (omega (arith, less)))
    ∙ ap (λ l. get_or l j 0) (between-put_mid a k xs ys (a + k) inside (omega (arith, size)))
