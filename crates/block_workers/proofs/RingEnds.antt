-- The ends of a ring, from round to round.
use Rattle.std.proofs.Common.{◌≡◌, ℕ, ◌<◌, List, [], ◌++◌, length, drop, sym, ◌∙◌, ap, arith}
use Rattle.std.proofs.Math.Seq.{drop-append_seam}
use Rattle.std.proofs.lemmas.List.{append-nil, nil_from_length, length-append}
use Rattle.block_discharge.specs.declared.letter.Letter.{Letter}

-- nothing was put since
pub none_since : (n : ℕ) (xs : List Letter) → length xs ≡ n → drop n xs ≡ []
none_since n xs long = ap (λ (m : ℕ). drop m xs) (sym long) ∙ (ap (λ (ys : List Letter). drop (length xs) ys) (sym (append-nil xs)) ∙ drop-append_seam xs [])

-- where nothing is left in the ring, all that was put was taken
pub all_taken : (put taken seen : List Letter) → taken ++ seen ≡ put → length seen ≡ 0 → taken ≡ put
all_taken put taken seen all none = sym (append-nil taken) ∙ (ap (λ (xs : List Letter). taken ++ xs) (sym (nil_from_length seen none)) ∙ all)

-- letters that were seen were put in this round and not taken in it
pub some_left : (put taken seen : List Letter) → put ≡ taken ++ seen → 0 < length seen → put ≡ taken → ⊥
some_left put taken seen all some same =
    let long = ap length (sym same ∙ all) in
    let sum = length-append taken seen in
    absurd (omega (arith, long, sum, some))
