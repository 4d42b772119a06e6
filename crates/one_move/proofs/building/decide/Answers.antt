use Rattle.std.proofs.Common.{◌≤◌, ◌∙◌, List, length, ap, sym, subst}
use Rattle.std.proofs.lemmas.Result.{err_from_is_err_and}
use Rattle.compile_cut.specs.Weights.{weights_size}
use Rattle.label_energies.specs.Energies.{labelling}
use Rattle.move_energy.specs.declared.choice.Choice.{Choice}
use Rattle.move_energy.specs.Choices.{choice_at}
use Rattle.move_energy.specs.Limits.{weights_limit}
use Rattle.move_energy.specs.Weights.{AreWeights, open_weights}
use Rattle.move_energy.specs.declared.by_site.Neighbours.{Neighbours}
use Rattle.move_energy.specs.BySite.{AreBySite}
use Rattle.site_bounds.specs.Decided.{AreDecided}
use Rattle.site_bounds.specs.Listed.{AreListed}
use Rattle.one_move.proofs.building.decide.Goals as goal

pub returns-in_err-decide-clause-decided : goal.returns-in_err-decide-clause-decided
returns-in_err-decide-clause-decided g c = λ m meant.
    let p = err_from_is_err_and c.from_residual-in_err-decide.result c.from_residual-in_err-decide.ensures.1 in
    rw (p.1, p.2) (c.in_err-decide.ensures.decided m meant)

pub returns-clause-decided : goal.returns-clause-decided
returns-clause-decided g c = λ m meant.
    let decided = c.in_ok-decide.ensures.decided m meant in
    let P : List Choice → Type 0 = λ choices. AreDecided m c.args.change (labelling c.args.at.now) (choice_at choices) in
    (decided.0, subst P (sym (ap (λ (v : _). v.items) c.swap.ensures.y_after)) decided.1)

pub returns-clause-weighed : goal.returns-clause-weighed
returns-clause-weighed g c =
    let a = c.args in
    let E : Neighbours → Type 0 = λ ends. AreBySite a.problem.now.pairs ends in
    let known = c.in_ok-decide.ensures.known.sites in
    let ends = subst E (sym c.decide.ensures.kept) c.in_ok-group.ensures.grouped in
    let now = ap (λ (v : _). v.items) c.swap.ensures.y_after in
    let L : List Choice → Type 0 = λ choices. AreListed a.change (labelling a.at.now) choices c.decide.new.self.lists in
    let S : List Choice → Type 0 = λ choices. weights_size (open_weights choices c.decide.new.self.bounds.greatest.items (length a.at.now)) ≤ weights_limit in
    record {
      read = record {
        numbers = record {
          sites = c.requires.asked.asked.sites;
          allowed = λ m meant. (c.in_ok-decide.ensures.decided m meant).0;
          lists = c.in_ok-decide.ensures.known.lists;
          read = λ m meant. c.in_ok-decide.ensures.known.read m meant;
        };
        of_problem = ((λ grouped. ends), c.decide.ensures.costs);
        count = ap (λ (xs : List Choice). length xs) now ∙ known.sized.choices;
        near = record { by_site = ends; lists = subst L (sym now) known.listed };
      };
      sized = (known.sized.greatest, subst S (sym now) known.small);
      weights = λ m meant.
          let W : List Choice → Type 0 = λ choices. AreWeights m a.change (labelling a.at.now) (choice_at choices) c.decide.new.self.bounds.greatest.items in
          subst W (sym now) (c.in_ok-decide.ensures.known.weights m meant);
    }

pub decide-requires-clause-asked : goal.decide-requires-clause-asked
decide-requires-clause-asked g c = λ κs lives. record {
  posed = c.requires.asked.posed;
  asked = c.requires.asked.asked;
  by_site = c.in_ok-group.ensures.grouped;
}
