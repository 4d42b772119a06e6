use Rattle.std.proofs.Common.{arith, ◌<◌, length}
use Rattle.compile_cut.proofs.TermLemmas.{three_taken-le, start, step, whole_values, term-weaker, bounded-weaker, term_at}
use Rattle.regular.specs.Regularity.{IsRegularTerm}
use Rattle.compile_cut.proofs.quadratic.quadratic_of.Goals as goal

pub loop-index-init : goal.loop-index-init
loop-index-init c = start c.args.energy.now c.in_ok-form.form c.in_ok-form.ensures.limits c.in_ok-form.ensures.start

pub add_term-requires-clause-form : goal.add_term-requires-clause-form
add_term-requires-clause-form c =
    let terms = three_taken-le c.loop-index.index c.args.energy.now.terms in
    let count = c.term.ensures.limits.count in
    let variables = c.term.ensures.limits.variables in
    record {
      bounded = bounded-weaker c.loop-index.index 8388608 c.loop-index.form
          (omega (arith, c.loop-index-test.true, c.term_count-index-end.ensures.value, count)) c.loop-index.invariant.bounded;
      room = omega (arith, terms, count, variables, c.loop-index.invariant.hidden, c.loop-index-test.true, c.term_count-index-end.ensures.value);
    }

pub add_term-requires-clause-term : goal.add_term-requires-clause-term
add_term-requires-clause-term c = term-weaker _ _ c.term.result c.loop-index.invariant.variables c.term.ensures.within

pub add_term-requires-clause-regular : goal.add_term-requires-clause-regular
add_term-requires-clause-regular c =
    let here : c.loop-index.index < length c.args.energy.now.terms = omega (arith, c.loop-index-test.true, c.term_count-index-end.ensures.value) in
    term_at IsRegularTerm c.args.energy.now.terms c.loop-index.index c.term.result here c.term.ensures.value c.requires

pub loop-index-preserved : goal.loop-index-preserved
loop-index-preserved c =
    let here : c.loop-index.index < length c.args.energy.now.terms = omega (arith, c.loop-index-test.true, c.term_count-index-end.ensures.value) in
    step c.args.energy.now c.loop-index.index c.term.result c.loop-index.form c.add_term.new.self here c.term.ensures.value c.term.ensures.within
    c.loop-index.invariant c.in_ok-add_term.ensures

pub returns-clause-values : goal.returns-clause-values
returns-clause-values c =
    whole_values c.args.energy.now c.loop-index.index c.loop-index.form (omega (arith, c.loop-index-test.false, c.term_count-index-end.ensures.value)) c.loop-index.invariant.values
