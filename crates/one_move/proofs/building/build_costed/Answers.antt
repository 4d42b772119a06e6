use Rattle.std.proofs.Common.{◌∙◌, sym, arith}
use Rattle.std.proofs.lemmas.Result.{err_from_is_err_and}
use Rattle.pseudo_bool.specs.Energies.{assignment}
use Rattle.cost_store.proofs.Meaning.{pairs_meant}
use Rattle.one_move.proofs.Least.{costed_least}
use Rattle.one_move.proofs.Prices.{answer_paid}
use Rattle.one_move.proofs.building.build_costed.Goals as goal

pub returns-in_err-prepare-clause-built : goal.returns-in_err-prepare-clause-built
returns-in_err-prepare-clause-built g c = λ m meant are.
    let p = err_from_is_err_and c.from_residual.result c.from_residual.ensures.1 in
    rw (p.1, p.2) (c.in_err-prepare.ensures.prepared m meant)

pub returns-clause-built : goal.returns-clause-built
returns-clause-built g c = λ m meant are.
    let prepared = c.in_ok-prepare.ensures.prepared m meant in
    let pairs = pairs_meant _ _ _ m c.requires.asked.posed meant in (
      prepared.0,
      λ bits least. answer_paid m _ _ _ (costed_least m c.args.alpha c.args.at.now c.prepare.new.self.variables.choices.items c.prepare.new.self.form c.add_label_costs.new.form c.args.costs.now
          (assignment bits.items) pairs (c.requires.asked.asked.sites ∙ sym meant.sites_are) c.in_ok-prepare.ensures.opened prepared.1 are c.in_ok-add_label_costs.ensures.adds least),
    )

pub returns-clause-left : goal.returns-clause-left
returns-clause-left g c =
    let form = c.in_ok-prepare.ensures.form in
    record {
      near = λ listed. absurd (cc (listed));
      choices = c.in_ok-prepare.ensures.opened.count;
      sized = (c.in_ok-add_label_costs.ensures.bounded, omega (arith, c.in_ok-add_label_costs.ensures.nodes, form.few));
    }
