use Rattle.strip_nets.proofs.Numbering.{seen_from, place_inside}
use Rattle.strip_nets.proofs.rows.node_of.Goals as goal

pub overflow_sub-result : goal.overflow_sub-result
overflow_sub-result c =
    let a = c.args in
    seen_from a.material.now.known.now a.sites.now.from a.sites.now.to a.site c.requires.open

pub bounds-numbers-site : goal.bounds-numbers-site
bounds-numbers-site c =
    let a = c.args in
    place_inside a.material.now.known.now a.sites.now a.numbers.now a.site c.requires.numbering c.requires.open

pub returns : goal.returns
returns c = c.requires.numbering.each c.args.site c.requires.open
