use Rattle.std.proofs.Common.{ℕ, List, ap, slice_index, arith}
use Rattle.strip_nets.proofs.Borders.{head_inside}
use Rattle.strip_nets.proofs.rows.head_beside.Goals as goal

pub returns-clause-head : goal.returns-clause-head
returns-clause-head c = ap (λ (xs : List ℕ). slice_index xs c.args.place) c.requires.places.heads

pub returns-clause-inside : goal.returns-clause-inside
returns-clause-inside c =
    let a = c.args in
    let head = ap (λ (xs : List ℕ). slice_index xs a.place) c.requires.places.heads in
    let within = head_inside a.material.now.form.pairs.now a.material.now.form.ends.now a.site a.place c.requires.can.over.list.each c.requires.can.over.by_site c.requires.site c.requires.place.0 c.requires.place.1 in
    omega (arith, head, within)
