use Rattle.std.proofs.Common.{◌≤◌, map, inl, inr, length, arith}
use Rattle.std.proofs.lemmas.List.{length-map, take_all}
use Rattle.gco_arrays.proofs.Numbers.{inside_numbers}
use Rattle.gco_arrays.proofs.PairCosts.{most_more}
use Rattle.gco_arrays.proofs.prices.greatest_of.Goals as goal

pub loop-place-preserved : goal.loop-place-preserved
loop-place-preserved g c =
    let value = g.N.Number.value in
    let small = c.entry_of.ensures.range c.requires in (
      elim c.greater-most.ensures.either [
        | inl is ↦ omega (arith, is, c.loop-place.invariant.0)
        | inr is ↦ omega (arith, is, small)
      ],
      most_more (map value c.args.tables.now) c.loop-place.place c.entry_of.result c.loop-place.most c.greater-most.result c.requires
          (inside_numbers value c.args.tables.now c.loop-place.place c.loop-place-test.true) c.entry_of.ensures.entry c.loop-place.invariant.1
          c.greater-most.ensures.greater.0 c.greater-most.ensures.greater.1,
    )

pub returns-clause-most : goal.returns-clause-most
returns-clause-most g c =
    let value = g.N.Number.value in
    let ended : length (map value c.args.tables.now) ≤ c.loop-place.place = omega (arith, c.loop-place-test.false, length-map c.args.tables.now value) in
    rw (take_all c.loop-place.place (map value c.args.tables.now) ended) at c.loop-place.invariant.1
