use Rattle.std.proofs.Common.{◌∙◌, ◌≤◌, ◌+◌, ℕ, pos, List, length, ap, sym, subst, arith}
use Rattle.compile_cut.specs.Quadratics.{IsConstant}
use Rattle.compile_cut.proofs.TermLemmas.{bounded-weaker, constant_bounded, constant_nodes}
use Rattle.move_energy.specs.declared.choice.Choice.{Choice}
use Rattle.move_energy.proofs.Numbers.{rank_most}
use Rattle.move_energy.proofs.Adding.{on_ok_both}
use Rattle.move_energy.proofs.Joins.{built_of}
use Rattle.std.proofs.lemmas.Result.{err_from_is_err_and}
use Rattle.move_energy.proofs.building.MoveEnergy.build.Goals as goal

pub add_sites-requires-clause-empty : goal.add_sites-requires-clause-empty
add_sites-requires-clause-empty g c = λ κs lives.
    let P : ℕ → Type 0 = λ n. IsConstant (pos 0) n c.in_ok-form.form in
    subst P c.in_ok-count.ensures.count c.in_ok-form.ensures

pub returns-clause-bounded : goal.returns-clause-bounded
returns-clause-bounded g c = c.add_pairs.ensures.bounded

pub returns-clause-built : goal.returns-clause-built
returns-clause-built g c = λ m meant.
    let sites = c.add_sites.ensures.built m meant in
    let pairs = c.add_pairs.ensures.built m meant in
    let nodes = c.add_sites.ensures.longer.nodes ∙ constant_nodes (pos 0) c.in_ok-count.count c.in_ok-form.form c.in_ok-form.ensures ∙ c.in_ok-count.ensures.count in
    built_of m c.args.change c.args.at.now (record { form = c.add_pairs.new.form; variables = c.number.new.self }) c.add_sites.new.form
    (length c.args.problem.now.pairs.list) c.add_pairs.result (c.requires.valued.asked.sites ∙ sym meant.sites_are)
    (ap (λ (xs : List Choice). length xs) c.number.ensures.kept ∙ c.requires.valued.count)
    nodes c.add_pairs.ensures.longer sites pairs

pub returns-in_err-count-clause-kept : goal.returns-in_err-count-clause-kept
returns-in_err-count-clause-kept g c = c.number.ensures.kept

pub returns-in_err-count-clause-bounded : goal.returns-in_err-count-clause-bounded
returns-in_err-count-clause-bounded g c =
    let p = err_from_is_err_and c.from_residual.result c.from_residual.ensures.1 in
    rw (p.1) tt

pub returns-clause-kept : goal.returns-clause-kept
returns-clause-kept g c = c.number.ensures.kept

pub returns-in_err-form-clause-kept : goal.returns-in_err-form-clause-kept
returns-in_err-form-clause-kept g c = c.number.ensures.kept

pub returns-in_err-form-clause-bounded : goal.returns-in_err-form-clause-bounded
returns-in_err-form-clause-bounded g c =
    let p = err_from_is_err_and c.from_residual-in_err-form.result c.from_residual-in_err-form.ensures.1 in
    rw (p.1) tt

pub add_sites-requires-clause-step : goal.add_sites-requires-clause-step
add_sites-requires-clause-step g c = λ κs lives. record {
  posed = c.requires.valued.posed;
  asked = c.requires.valued.asked;
  choices = ap (λ (xs : List Choice). length xs) c.number.ensures.kept ∙ c.requires.valued.count;
  numbering = c.in_ok-count.ensures.numbering;
}

pub add_pairs-requires-clause-form : goal.add_pairs-requires-clause-form
add_pairs-requires-clause-form g c = λ κs lives.
    let none = constant_bounded (pos 0) c.in_ok-count.count c.in_ok-form.form (omega arith) c.in_ok-form.ensures in
    let few : 0 + length c.args.at.now ≤ 1048576 = omega (arith, c.requires.valued.asked.sites, c.requires.valued.posed.pairs.sites) in
    record {
      step_is = record {
        posed = c.requires.valued.posed;
        asked = c.requires.valued.asked;
        choices = ap (λ (xs : List Choice). length xs) c.number.ensures.kept ∙ c.requires.valued.count;
        numbering = c.in_ok-count.ensures.numbering;
      };
      nodes = record {
        variables = c.add_sites.ensures.longer.nodes ∙ constant_nodes (pos 0) c.in_ok-count.count c.in_ok-form.form c.in_ok-form.ensures ∙ c.in_ok-count.ensures.count;
        bounded = bounded-weaker (0 + length c.args.at.now) 1048576 c.add_sites.new.form few (c.add_sites.ensures.longer.bounded 0 none);
      };
    }

pub returns-clause-form : goal.returns-clause-form
returns-clause-form g c =
    let choices = c.number.new.self.choices.items in
    let nodes = c.add_sites.ensures.longer.nodes ∙ constant_nodes (pos 0) c.in_ok-count.count c.in_ok-form.form c.in_ok-form.ensures ∙ c.in_ok-count.ensures.count in
    let size = ap (λ (xs : List Choice). length xs) c.number.ensures.kept ∙ c.requires.valued.count in
    on_ok_both c.add_pairs.result _ _ _ (λ longer small. record {
      bounded = small;
      few = omega (arith, longer.nodes, nodes, rank_most choices (length choices), size, c.requires.valued.asked.sites, c.requires.valued.posed.pairs.sites);
      numbering = c.in_ok-count.ensures.numbering;
      variables = longer.nodes ∙ nodes;
    }) c.add_pairs.ensures.longer c.add_pairs.ensures.small

pub returns-in_err-count-clause-form : goal.returns-in_err-count-clause-form
returns-in_err-count-clause-form g c =
    let p = err_from_is_err_and c.from_residual.result c.from_residual.ensures.1 in
    rw (p.1) tt

pub returns-in_err-form-clause-form : goal.returns-in_err-form-clause-form
returns-in_err-form-clause-form g c =
    let p = err_from_is_err_and c.from_residual-in_err-form.result c.from_residual-in_err-form.ensures.1 in
    rw (p.1) tt
