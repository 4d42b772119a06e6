use Rattle.std.proofs.Common.{◌≡◌, ◌≤ℤ◌, ◌<◌, List, All, length, arith, subst}
use Rattle.std.proofs.lemmas.Int.{ints}
use Rattle.std.proofs.lemmas.List.{take_all}
use Rattle.std.proofs.lemmas.List.Elements.{All-more}
use Rattle.std.proofs.lemmas.Option.{slice_get-get_or}
use Rattle.label_field.specs.declared.pair.Pair.{Pair}
use Rattle.label_energies.specs.Energies.{labelling}
use Rattle.label_energies.specs.Moves.{IsRegularPair}
use Rattle.move_energy.specs.BySite.{pair_in}
use Rattle.form_lists.specs.PairSides.{sides_in}
use Rattle.form_lists.proofs.ByPair.{regular_by, falls_by}
use Rattle.form_lists.proofs.by_pair.test_sides.Goals as goal

pub loop-index-init : goal.loop-index-init
loop-index-init c = λ m move at same read k d l. absurd (omega (arith, l))

pub returns-then-sides-index : goal.returns-then-sides-index
returns-then-sides-index c = λ m move at same read.
    let i = c.loop-index.index in
    let inside : i < length m.pairs = omega (arith, same, c.loop-index-test.true) in
    record {
      failing = pair_in m.pairs i;
      here = slice_get-get_or m.pairs i (record { first = 0; second = 0; weight = 0 }) inside;
      fails = λ regular.
          (let less = falls_by m move (labelling at) (pair_in m.pairs i) (sides_in c.args.sides.now i) (read i c.loop-index-test.true) regular in
          absurd (omega (arith, ints, less, c.if-sides-index.true)));
      before = c.loop-index.invariant m move at same read;
    }

pub loop-index-preserved : goal.loop-index-preserved
loop-index-preserved c = λ m move at same read.
    let i = c.loop-index.index in
    let inside : i < length m.pairs = omega (arith, same, c.loop-index-test.true) in
    let less : (sides_in c.args.sides.now i).first.high ≤ℤ (sides_in c.args.sides.now i).first.low = omega (arith, ints, c.if-sides-index.false) in
    All-more (IsRegularPair m move (labelling at)) m.pairs i (record { first = 0; second = 0; weight = 0 }) inside (c.loop-index.invariant m move at same read)
    (regular_by m move (labelling at) (pair_in m.pairs i) (sides_in c.args.sides.now i) (read i c.loop-index-test.true) less)

pub returns : goal.returns
returns c = λ m move at same read.
    let at_end : length m.pairs ≡ c.loop-index.index = omega (arith, same, c.loop-index-test.false, c.loop-index.auto) in
    let P : List Pair → Type 0 = λ xs. All (IsRegularPair m move (labelling at)) xs in
    subst P (take_all c.loop-index.index m.pairs (omega (arith, at_end))) (c.loop-index.invariant m move at same read)
