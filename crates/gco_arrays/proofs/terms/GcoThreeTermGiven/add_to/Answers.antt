use Rattle.gco_arrays.proofs.terms.GcoThreeTermGiven.add_to.Goals as goal

pub returns-clause-refused : goal.returns-clause-refused
returns-clause-refused c = rw c.three_table-table.ensures at c.add_term3.ensures.refused
