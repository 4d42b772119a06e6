use Rattle.std.proofs.Common.{◌≡◌, ◌∙◌, ℕ, List, Some, slice_get, pos, ap, subst, sym}
use Rattle.std.proofs.lemmas.Option.{get_or_from_slice_get}
use Rattle.label_field.specs.declared.pair.Pair.{Pair}
use Rattle.label_energies.specs.Energies.{labelling}
use Rattle.move_energy.specs.BySite.{pair_in}
use Rattle.form_lists.specs.declared.by_pair.PairRises.{PairRises}
use Rattle.form_lists.specs.PairSides.{AreSidesOf, AreSidesSmall}
use Rattle.form_lists.proofs.Listing.{longer, pushed}
use Rattle.form_lists.proofs.by_pair.list_sides.Goals as goal

-- the pair that is read is that of the instance
pair_read : (pairs list : List Pair) (i : ℕ) (pair : Pair) → pairs ≡ list → slice_get list i ≡ Some pair → pair ≡ pair_in pairs i
pair_read pairs list i pair are is =
    sym (ap (λ (xs : List Pair). pair_in xs i) are ∙ get_or_from_slice_get list i pair (record { first = 0; second = 0; weight = 0 }) is)

abbrev none : PairRises
none = record { first = record { low = pos 0; high = pos 0 }; second = record { low = pos 0; high = pos 0 } }

pub loop-index-preserved : goal.loop-index-preserved
loop-index-preserved g c =
    let a = c.args in
    let i = c.loop-index.invariant in
    let is = c.in_ok-push.ensures.items in
    let old = c.loop-index.sides.items in
    let n = c.loop-index.index in
    let read = c.sides_of.ensures in
    record {
      count = longer old _ _ n is i.count;
      small = pushed (λ (k : ℕ) (s : PairRises). AreSidesSmall s) old _ _ none n is i.count i.small read.small;
      read = λ m meant.
          (let P : Pair → Type 0 = λ pair. AreSidesOf m a.change (labelling a.at.now) pair c.sides_of.result in
          pushed (λ (k : ℕ) (s : PairRises). AreSidesOf m a.change (labelling a.at.now) (pair_in m.pairs k) s) old _ _ none n is i.count (i.read m meant)
          (subst P (pair_read m.pairs a.problem.now.pairs.list n c.get.result meant.pairs_are c.get.ensures.value) (read.rises m meant)));
    }
