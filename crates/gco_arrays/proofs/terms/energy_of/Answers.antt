use Rattle.std.proofs.Common.{map, w64}
use Rattle.std.proofs.lemmas.Int.{to_z-of_z}
use Rattle.std.proofs.lemmas.Result.{err_from_is_err_and}
use Rattle.gco_arrays.specs.Energies.{one_of, two_of, three_of}
use Rattle.gco_arrays.proofs.Lists.{told_ones, told_twos, told_threes}
use Rattle.gco_arrays.proofs.terms.energy_of.Goals as goal

pub returns-in_err-add_terms-clause-refused : goal.returns-in_err-add_terms-clause-refused
returns-in_err-add_terms-clause-refused c =
    let p = err_from_is_err_and c.from_residual-in_err-add_terms.result c.from_residual-in_err-add_terms.ensures.1 in
    rw (p.1, p.2) (told_ones c.clear.new.self c.add_constant.new.energy c.args.variables c.args.constant (map one_of c.args.ones.now) (map two_of c.args.twos.now)
    (map three_of c.args.threes.now) c.in_err-add_terms.field-0.0 c.clear.ensures (rw (to_z-of_z w64 c.args.constant c.ranges.constant) at c.in_ok-add_constant.ensures.added) (rw (to_z-of_z w64 c.args.constant c.ranges.constant) at c.in_ok-add_constant.ensures.ok)
    c.in_err-add_terms.ensures.refused)

pub returns-in_err-add_terms-2-clause-refused : goal.returns-in_err-add_terms-2-clause-refused
returns-in_err-add_terms-2-clause-refused c =
    let p = err_from_is_err_and c.from_residual-in_err-add_terms-2.result c.from_residual-in_err-add_terms-2.ensures.1 in
    rw (p.1, p.2) (told_twos c.clear.new.self c.add_constant.new.energy c.add_terms.new.energy c.args.variables c.args.constant (map one_of c.args.ones.now)
    (map two_of c.args.twos.now) (map three_of c.args.threes.now) c.in_err-add_terms-2.field-0.0 c.clear.ensures (rw (to_z-of_z w64 c.args.constant c.ranges.constant) at c.in_ok-add_constant.ensures.added)
    c.in_ok-add_terms.ensures.added (rw (to_z-of_z w64 c.args.constant c.ranges.constant) at c.in_ok-add_constant.ensures.ok) c.in_err-add_terms-2.ensures.refused)

pub returns-in_err-add_terms-3-clause-refused : goal.returns-in_err-add_terms-3-clause-refused
returns-in_err-add_terms-3-clause-refused c =
    let p = err_from_is_err_and c.from_residual-in_err-add_terms-3.result c.from_residual-in_err-add_terms-3.ensures.1 in
    rw (p.1, p.2) (told_threes c.clear.new.self c.add_constant.new.energy c.add_terms.new.energy c.add_terms-2.new.energy c.args.variables c.args.constant
    (map one_of c.args.ones.now) (map two_of c.args.twos.now) (map three_of c.args.threes.now) c.in_err-add_terms-3.field-0.0 c.clear.ensures
    (rw (to_z-of_z w64 c.args.constant c.ranges.constant) at c.in_ok-add_constant.ensures.added) c.in_ok-add_terms.ensures.added c.in_ok-add_terms-2.ensures.added (rw (to_z-of_z w64 c.args.constant c.ranges.constant) at c.in_ok-add_constant.ensures.ok)
    c.in_err-add_terms-3.ensures.refused)
