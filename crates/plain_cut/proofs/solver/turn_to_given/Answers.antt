use Rattle.std.proofs.Common.{◌-◌, ℕ, arith, ◌∙◌, sym}
use Rattle.std.specs.Simd.Lanes.{zip2}
use Rattle.std.proofs.lemmas.Simd.{length-zip2, get_or-zip2}
use Rattle.std.proofs.lemmas.Grind.{same_number_lists}
use Rattle.plain_cut.proofs.solver.turn_to_given.Goals as goal

pub returns : goal.returns
returns c =
    let less = λ (sink room : ℕ). sink - room in
    let sinks = c.args.sinks.now in
    let rooms = c.args.rooms.now in
    let i = c.nodes.invariant in
    let len = length-zip2 less sinks rooms (sym c.requires.len) in
    same_number_lists c.nodes.rooms (zip2 less sinks rooms) (i.len ∙ sym len)
    (λ v l. i.done v (omega (arith, i.len, l, c.nodes-test.false)) ∙ sym (get_or-zip2 less sinks rooms v 0 0 0 (omega (arith, i.len, l)) (omega (arith, i.len, l, c.requires.len))))
