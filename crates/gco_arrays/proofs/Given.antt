-- What a call was given, and why it is refused.
use Rattle.std.proofs.Common.{◌≡◌, ◌<◌, ◌≤◌, ℕ, zero, suc, List, [], ◌∷◌, Some, All, length, take, get_or, slice_get, refl, subst, arith}
use Rattle.label_field.specs.Limits.{pair_limit, site_limit}
use Rattle.label_field.specs.PairLists.{PairList, IsPairList}
use Rattle.gco_arrays.specs.Calls.{list_given}
use Rattle.gco_arrays.specs.Refusals.{IsListRefusal, IsPairTold}
use Rattle.gco_arrays.specs.declared.pairs.GcoPair.{GcoPair}
use Rattle.gco_arrays.specs.declared.refusal.Refusal.{Refusal}

got : {T : Type 0} (xs : List T) (i : ℕ) (d : T) → i < length xs → slice_get xs i ≡ Some (get_or xs i d)
got [] i d h = absurd (omega (arith, h))
got (x ∷ xs) zero d h = refl
got (x ∷ xs) (suc i) d h = got xs i d (omega (arith, h))

-- in the loop over the pairs that were given
pub list_refused : (sites : ℕ) (given : List GcoPair) (reached : PairList) (i : ℕ) (d : GcoPair) (refusal : Refusal) → sites ≤ site_limit
    → i < length given → reached ≡ list_given sites (take i given)
    → IsPairList reached
    → IsPairTold reached (get_or given i d) i refusal → IsListRefusal sites given refusal
list_refused sites given reached i d refusal few inside is known told =
    let P : PairList → Type 0 = λ x. IsPairTold x (get_or given i d) i refusal in
    (i, get_or given i d, got given i d inside, subst IsPairList is known, subst P is told)
