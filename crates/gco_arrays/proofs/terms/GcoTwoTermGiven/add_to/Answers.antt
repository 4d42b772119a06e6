use Rattle.gco_arrays.proofs.terms.GcoTwoTermGiven.add_to.Goals as goal

pub returns-clause-refused : goal.returns-clause-refused
returns-clause-refused c = rw c.two_table-table.ensures at c.add_term2.ensures.refused
