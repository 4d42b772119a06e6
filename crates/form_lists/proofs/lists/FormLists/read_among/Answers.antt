use Rattle.form_lists.proofs.Near.{all_read}
use Rattle.form_lists.proofs.lists.FormLists.read_among.Goals as goal

pub returns-clause-read : goal.returns-clause-read
returns-clause-read g c = λ m meant.
    let a = c.args in
    all_read m a.change a.ends.now a.at.now c.read_sites.new.self a.sites.now c.requires.covers (c.read_sites.ensures.read m meant a.ends.now (c.in_ok-begin.ensures.read m meant))

pub returns-clause-lists : goal.returns-clause-lists
returns-clause-lists g c = c.read_sites.ensures.lists c.args.problem.now.pairs c.args.ends.now c.in_ok-begin.ensures.lists
