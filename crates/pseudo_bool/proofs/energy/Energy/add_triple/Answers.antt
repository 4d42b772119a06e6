use Rattle.std.proofs.Common.{arith, ap, refl, ◌≡◌, ◌<◌, ◌∙◌, length}
use Rattle.std.proofs.lemmas.List.{length-map}
use Rattle.pseudo_bool.specs.Energies.{Energy}
use Rattle.pseudo_bool.specs.Rows.{term_of, terms_of, triple_term}
use Rattle.pseudo_bool.proofs.RowLemmas.{triple_added, triple_kept, term_added}
use Rattle.pseudo_bool.proofs.energy.Energy.add_triple.Goals as goal

pub invariant_of-self-2 : goal.invariant_of-self-2
invariant_of-self-2 c =
    let ts = c.self.inside.triples.items in
    let rows = c.self.inside.rows.items in
    let e : Energy = record { constant = c.self.inside.constant; variables = c.self.inside.variables; terms = terms_of ts rows } in
    let place : c.len-place.result ≡ length ts = c.len-place.ensures ∙ c.self.inside.triples.ok.0 in
    let variables = ap (λ (f : Energy). f.variables) c.self.view_is in
    let room : length e.terms < 8388608 = omega (arith, length-map rows (term_of ts), c.self.inside.rows.ok.0, c.len.ensures) in
    rw (c.in_ok-push-2.ensures.items, c.reserve.ensures.items, c.in_ok-push.ensures.items, place) (
      rw (triple_added ts c.args.triple rows c.self.invariant.1) (term_added e (triple_term c.args.triple) c.self.invariant.0 (rw variables c.requires) room),
      triple_kept ts c.args.triple rows c.self.invariant.1,
    )

pub returns-clause-added : goal.returns-clause-added
returns-clause-added c =
    let ts = c.self.inside.triples.items in
    let rows = c.self.inside.rows.items in
    let place : c.len-place.result ≡ length ts = c.len-place.ensures ∙ c.self.inside.triples.ok.0 in
    rw (c.in_ok-push-2.ensures.items, c.reserve.ensures.items, c.in_ok-push.ensures.items, place, ← c.self.view_is, triple_added ts c.args.triple rows c.self.invariant.1) refl
