use Rattle.std.proofs.Common.{arith, ap, ◌<◌, length}
use Rattle.std.proofs.lemmas.List.{length-map}
use Rattle.pseudo_bool.specs.Energies.{Energy}
use Rattle.pseudo_bool.specs.Rows.{term_of}
use Rattle.pseudo_bool.proofs.RowLemmas.{read_is_term}
use Rattle.pseudo_bool.proofs.energy.Energy.term.Goals as goal

pub returns-clause-within : goal.returns-clause-within
returns-clause-within c =
    let rows = c.self.inside.rows.items in
    let ts = c.self.inside.triples.items in
    let terms = ap (λ (e : Energy). length e.terms) c.self.view_is in
    let variables = ap (λ (e : Energy). e.variables) c.self.view_is in
    let inside : c.args.index < length rows = omega (arith, terms, length-map rows (term_of ts), c.requires) in
    rw (c.term.ensures, c.as_slice.ensures.value, ← variables)
    (read_is_term c.self.inside.variables ts rows c.args.index c.index.result.now inside c.index.ensures c.self.invariant.0.terms)
