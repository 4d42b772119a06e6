use Rattle.std.proofs.Common.{◌+◌, ℕ, arith, ◌∙◌, sym}
use Rattle.std.specs.Simd.Lanes.{zip2}
use Rattle.std.proofs.lemmas.Simd.{length-zip2, get_or-zip2}
use Rattle.std.proofs.lemmas.Grind.{same_number_lists}
use Rattle.plain_cut.proofs.both.add_each.Goals as goal

pub returns : goal.returns
returns c =
    let plus = λ (number extra : ℕ). number + extra in
    let numbers = c.args.numbers.now in
    let more = c.args.more.now in
    let i = c.places.invariant in
    let len = length-zip2 plus numbers more (sym c.requires.len) in
    same_number_lists c.places.numbers (zip2 plus numbers more) (i.len ∙ (c.requires.len ∙ sym len))
    (λ v l. i.done v (omega (arith, i.len, l, c.places-test.false)) ∙ sym (get_or-zip2 plus numbers more v 0 0 0 (omega (arith, i.len, c.requires.len, l)) (omega (arith, i.len, l))))
