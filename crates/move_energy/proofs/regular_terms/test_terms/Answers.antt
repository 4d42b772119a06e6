use Rattle.std.proofs.Common.{◌≡◌, ◌<◌, ◌∙◌, ℕ, List, All, length, get_or, ap, subst, sym, arith}
use Rattle.std.specs.Prelude.{slice_get}
use Rattle.std.proofs.lemmas.List.{take_all}
use Rattle.std.proofs.lemmas.List.Elements.{All-more}
use Rattle.std.proofs.lemmas.Option.{get_or_from_slice_get}
use Rattle.label_field.specs.declared.pair.Pair.{Pair}
use Rattle.label_field.specs.PairLists.{IsPair}
use Rattle.label_energies.specs.Energies.{labelling}
use Rattle.label_energies.specs.Moves.{IsRegularPair, IsMoveOf}
use Rattle.label_energies.proofs.Metric.{metric_allows}
use Rattle.cost_store.proofs.Meaning.{pairs_meant, metric_meant}
use Rattle.move_energy.proofs.regular_terms.test_terms.Goals as goal

pub returns-then-problem : goal.returns-then-problem
returns-then-problem g c = λ m answers.
    let a = c.args in
    let M : ℕ → Type 0 = λ k. IsMoveOf k a.change in
    metric_allows m a.change (labelling a.at.now) (pairs_meant _ _ _ m c.requires.posed answers) (metric_meant _ _ _ m c.requires.posed answers c.if-problem.true)
    (subst M (sym answers.labels_are) c.requires.asked.move_of)
    (λ p l. (let h = c.requires.asked.labels p 0 (omega (arith, l, answers.sites_are, c.requires.asked.sites)) in omega (arith, h, answers.labels_are)))

pub loop-index-init : goal.loop-index-init
loop-index-init g c = λ m answers k d l. absurd (omega (arith, l))

pub is_term_regular-requires-clause-pair : goal.is_term_regular-requires-clause-pair
is_term_regular-requires-clause-pair g c = λ κs lives.
    let P : ℕ → Type 0 = λ n. IsPair n c.get-pair.result in
    subst P (sym c.requires.asked.sites) c.get-pair.ensures.pair

pub loop-index-preserved : goal.loop-index-preserved
loop-index-preserved g c = λ m answers.
    let a = c.args in
    let f = labelling a.at.now in
    let same = ap (λ (xs : List Pair). length xs) answers.pairs_are in
    let within : c.loop-index.index < length m.pairs = omega (arith, same, c.loop-index-test.true, c.len-index-end.ensures.value) in
    let read : get_or m.pairs c.loop-index.index c.get-pair.result ≡ c.get-pair.result = ap (λ (xs : List Pair). get_or xs c.loop-index.index c.get-pair.result) answers.pairs_are
    ∙ get_or_from_slice_get a.problem.now.pairs.list c.loop-index.index c.get-pair.result c.get-pair.result c.get-pair.ensures.value in
    let P : Pair → Type 0 = λ p. IsRegularPair m a.change f p in
    All-more (IsRegularPair m a.change f) m.pairs c.loop-index.index c.get-pair.result within (c.loop-index.invariant m answers)
    (subst P (sym read) ((c.is_term_regular.ensures m answers).0 c.if-not-is_term_regular.false))

pub returns-then-not-is_term_regular : goal.returns-then-not-is_term_regular
returns-then-not-is_term_regular g c = λ m answers. record {
  failing = c.get-pair.result;
  here = ap (λ (xs : List Pair). slice_get xs c.loop-index.index) answers.pairs_are ∙ c.get-pair.ensures.value;
  fails = λ regular. (let t = (c.is_term_regular.ensures m answers).1 regular in let f = c.if-not-is_term_regular.true in absurd (cc (t, f)));
  before = c.loop-index.invariant m answers;
}

pub returns : goal.returns
returns g c = λ m answers.
    let a = c.args in
    let at_end : length m.pairs ≡ c.loop-index.index = ap (λ (xs : List Pair). length xs) answers.pairs_are ∙ omega (arith, c.loop-index-test.false, c.len-index-end.ensures.value, c.loop-index.auto) in
    let P : List Pair → Type 0 = λ xs. All (IsRegularPair m a.change (labelling a.at.now)) xs in
    subst P (take_all c.loop-index.index m.pairs (omega (arith, at_end))) (c.loop-index.invariant m answers)
