-- Reading plain samples one after the other.
use Rattle.std.proofs.Common.{◌≡◌, ℕ, suc, ◌-◌, ◌+◌, ◌≤◌, ◌<◌, List, [], ◌∷◌, ◌++◌, Result, Ok, Err, refl, sym, ap, ◌∙◌, append_assoc, arith}
use Rattle.std.proofs.lemmas.List.{append-nil}
use Rattle.pgm_image.specs.declared.plain.Fault.{Fault}
use Rattle.pgm_image.specs.declared.error.PgmError.{PgmError}
use Rattle.pgm_image.specs.declared.error.PgmError.TheVariants.{SampleAboveMax}
use Rattle.pgm_image.proofs.PlainLaws.{plain_fault, plain_above, plain_more}
use Rattle.pgm_image.specs.Reading.{sample_at, plain_at, with_front, fault_error}

regroup : (front : List ℕ) (v : ℕ) (read : Result (List ℕ × List ℕ) PgmError) → with_front front (with_front (v ∷ []) read) ≡ with_front (front ++ v ∷ []) read
regroup front v (Ok x) = ap (λ (ns : List ℕ). Ok (ns, x.1)) (simp append_assoc)
regroup front v (Err f) = refl

-- one sample of those that are left
abbrev Left : ℕ → ℕ → ℕ → ℕ → List ℕ → Result (List ℕ × List ℕ) PgmError
Left count m end i bytes = plain_at (count - i) m end i bytes

one_left : (count m end i : ℕ) (bytes : List ℕ) → i < count → Left count m end i bytes ≡ plain_at (suc (count - (i + 1))) m end i bytes
one_left count m end i bytes lt = let k : count - i ≡ suc (count - (i + 1)) = omega arith in ap (λ n. plain_at n m end i bytes) k

pub goes_on : (front : List ℕ) (count m end i : ℕ) (bytes : List ℕ) (v : ℕ) (after : List ℕ) (total : Result (List ℕ × List ℕ) PgmError) → i < count → v ≤ m → sample_at bytes ≡ Ok (v, after)
    → with_front front (plain_at (count - i) m end i bytes) ≡ total → with_front (front ++ v ∷ []) (plain_at (count - (i + 1)) m end (i + 1) after) ≡ total
goes_on front count m end i bytes v after total lt le h so_far =
    sym (regroup front v (plain_at (count - (i + 1)) m end (i + 1) after))
    ∙ sym (ap (λ z. with_front front z) (one_left count m end i bytes lt ∙ plain_more (count - (i + 1)) m end i bytes v after h le)) ∙ so_far

pub above : (front : List ℕ) (count m end i : ℕ) (bytes : List ℕ) (v : ℕ) (after : List ℕ) (total : Result (List ℕ × List ℕ) PgmError) → i < count → m < v → sample_at bytes ≡ Ok (v, after)
    → with_front front (plain_at (count - i) m end i bytes) ≡ total → total ≡ Err (SampleAboveMax i)
above front count m end i bytes v after total lt le h so_far =
    sym so_far ∙ ap (λ z. with_front front z) (one_left count m end i bytes lt ∙ plain_above (count - (i + 1)) m end i bytes v after h le)

pub faulty : (front : List ℕ) (count m end i : ℕ) (bytes : List ℕ) (f : Fault) (total : Result (List ℕ × List ℕ) PgmError) → i < count → sample_at bytes ≡ Err f
    → with_front front (plain_at (count - i) m end i bytes) ≡ total → total ≡ Err (fault_error end f)
faulty front count m end i bytes f total lt h so_far =
    sym so_far ∙ ap (λ z. with_front front z) (one_left count m end i bytes lt ∙ plain_fault (count - (i + 1)) m end i bytes f h)

pub is_done : (front : List ℕ) (count m end i : ℕ) (bytes : List ℕ) (total : Result (List ℕ × List ℕ) PgmError) → count ≤ i → with_front front (plain_at (count - i) m end i bytes) ≡ total → total ≡ Ok (front, bytes)
unfolding plain_at
is_done front count m end i bytes total le so_far =
    let k : count - i ≡ 0 = omega arith in
    let one : with_front front (plain_at (count - i) m end i bytes) ≡ Ok (front, bytes) = rw k (ap (λ (ns : List ℕ). Ok (ns, bytes)) (append-nil front)) in
    sym so_far ∙ one
