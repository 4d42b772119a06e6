use Rattle.std.proofs.Common.{sym, subst, refl}
use Rattle.pseudo_bool.specs.Energies.{Energy}
use Rattle.pseudo_bool.specs.Rows.{terms_of, AddsRows}
use Rattle.pseudo_bool.specs.Hidden.{tied_terms, IsTieable}
use Rattle.pseudo_bool.proofs.HiddenLemmas.{terms_added, rows_kept, tied_energy}
use Rattle.pseudo_bool.proofs.energy.Energy.add_tied.Goals as goal

pub invariant_of-self-2 : goal.invariant_of-self-2
invariant_of-self-2 c =
    let ts = c.self.inside.triples.items in
    let rows = c.self.inside.rows.items in
    let e : Energy = record { constant = c.self.inside.constant; variables = c.self.inside.variables; terms = terms_of ts rows } in
    let terms = tied_terms c.args.names.now c.self.inside.variables c.args.alone.now c.args.beside.now in
    let P : Energy → Type 0 = λ f. IsTieable f c.args.names.now c.args.cost in
    let tie : IsTieable e c.args.names.now c.args.cost = subst P (sym c.self.view_is) c.requires.tie in
    let adds : AddsRows rows c.push_tied.new.rows.items terms = rw (c.reserve.ensures.items) at c.push_tied.ensures in (
      rw (terms_added ts rows c.push_tied.new.rows.items terms adds) (tied_energy e c.args.names.now c.args.cost c.args.alone.now c.args.beside.now c.self.invariant.0 tie c.requires.alone c.requires.beside),
      rows_kept ts rows c.push_tied.new.rows.items terms adds c.self.invariant.1,
    )

pub returns-clause-added : goal.returns-clause-added
returns-clause-added c =
    let ts = c.self.inside.triples.items in
    let rows = c.self.inside.rows.items in
    let terms = tied_terms c.args.names.now c.self.inside.variables c.args.alone.now c.args.beside.now in
    let adds : AddsRows rows c.push_tied.new.rows.items terms = rw (c.reserve.ensures.items) at c.push_tied.ensures in
    rw (← c.self.view_is, terms_added ts rows c.push_tied.new.rows.items terms adds) refl
