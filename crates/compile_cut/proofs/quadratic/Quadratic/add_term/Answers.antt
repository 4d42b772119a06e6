use Rattle.std.proofs.Common.{arith, ◌∙◌}
use Rattle.compile_cut.proofs.TermLemmas.{adds_exactly, adds_exactly_if}
use Rattle.compile_cut.proofs.quadratic.Quadratic.add_term.Goals as goal

pub returns-in-One : goal.returns-in-One
returns-in-One c = rw c.in-One.is (adds_exactly _ _ _ (c.add_one.ensures.len ∙ omega arith) c.add_one.ensures.bounded c.add_one.ensures.value)

pub returns-in-Two : goal.returns-in-Two
returns-in-Two c =
    rw c.in-Two.is (adds_exactly_if c.add_pair.result _ _ _ (c.add_pair.ensures.len ∙ omega arith) c.add_pair.ensures.bounded c.add_pair.ensures.value)
