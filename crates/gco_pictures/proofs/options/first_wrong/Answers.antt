use Rattle.std.proofs.Common.{get_or}
use Rattle.std.proofs.lemmas.List.{take_all}
use Rattle.std.proofs.lemmas.List.Elements.{All-more}
use Rattle.std.proofs.lemmas.Option.{slice_get-get_or}
use Rattle.gco_pictures.specs.Options.{IsOptionInRange, between}
use Rattle.gco_pictures.proofs.options.first_wrong.Goals as goal

pub loop-place-preserved : goal.loop-place-preserved
loop-place-preserved c =
    All-more IsOptionInRange c.args.numbers.now c.loop-place.place (between 0 0 0) c.loop-place-test.true c.loop-place.invariant
    (c.is_within.ensures.0 c.if-not-is_within.false)

pub returns : goal.returns
returns c = rw (take_all c.loop-place.place c.args.numbers.now c.loop-place-test.false) at c.loop-place.invariant

pub returns-then-not-is_within : goal.returns-then-not-is_within
returns-then-not-is_within c = record {
  number = get_or c.args.numbers.now c.loop-place.place (between 0 0 0);
  here = slice_get-get_or c.args.numbers.now c.loop-place.place (between 0 0 0) c.loop-place-test.true;
  outside = λ within. absurd (let told = c.is_within.ensures.1 within in let failed = c.if-not-is_within.true in cc);
  before = c.loop-place.invariant;
}
