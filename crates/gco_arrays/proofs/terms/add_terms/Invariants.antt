use Rattle.std.proofs.Common.{◌≡◌, ◌++◌, map, take}
use Rattle.gco_arrays.proofs.terms.add_terms.Given as goal

abbrev pub invariant-loop-term : goal.invariant-loop-term
invariant-loop-term g l =
    l.energy ≡ record l.initial.energy { terms = l.initial.energy.terms ++ map g.T.TermGiven.term (take l.term-index l.fn.given) }
