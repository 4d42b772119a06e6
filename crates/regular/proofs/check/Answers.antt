use Rattle.std.proofs.Common.{arith, refl, length, ◌≤◌, ◌<◌}
use Rattle.std.proofs.lemmas.List.{take_all}
use Rattle.std.proofs.lemmas.List.Elements.{All-more}
use Rattle.std.proofs.lemmas.Option.{get_or_from_slice_get}
use Rattle.regular.specs.Regularity.{IsRegularTerm}
use Rattle.regular.proofs.check.Goals as goal

pub loop-index-preserved : goal.loop-index-preserved
loop-index-preserved c =
    let terms = c.args.energy.now.terms in
    let term = c.term.result in
    let here : c.loop-index.index < length terms = omega (arith, c.loop-index-test.true, c.term_count-index-end.ensures.value) in
    All-more IsRegularTerm terms c.loop-index.index term here c.loop-index.invariant
    (rw (get_or_from_slice_get terms c.loop-index.index term term c.term.ensures.value) (c.in_default.ensures.regular.0 refl))

pub new-requires : goal.new-requires
new-requires c =
    let all : length c.args.energy.now.terms ≤ c.loop-index.index = omega (arith, c.loop-index-test.false, c.term_count-index-end.ensures.value) in
    rw (take_all c.loop-index.index c.args.energy.now.terms all) at c.loop-index.invariant
