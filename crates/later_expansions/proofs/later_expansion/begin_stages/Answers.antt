use Rattle.std.proofs.Common.{◌≡◌, ◌∙◌, ◌↔◌, ◌<◌, All, List, ℕ, Bool, length, ap, sym, subst, arith}
use Rattle.std.specs.List.{Contains}
use Rattle.label_energies.specs.declared.change.Move.TheVariants.{Expand}
use Rattle.label_energies.specs.Energies.{labelling}
use Rattle.move_energy.specs.declared.choice.Choice.TheVariants.{Zero}
use Rattle.move_energy.specs.Choices.{choice_at}
use Rattle.cost_store.proofs.Meaning.{pairs_meant}
use Rattle.move_energy.specs.MoveValues.{move_value}
use Rattle.near_changes.specs.Changes.{changed_after}
use Rattle.persistency.specs.Fixing.{AreLeastZeros}
use Rattle.near_changes.specs.Fresh.{AreFresh}
use Rattle.near_changes.specs.Looking.{is_marked}
use Rattle.move_energy.proofs.Adding.{on_ok_both}
use Rattle.later_expansions.proofs.Stages.{first_zeros, on_ok, on_ok_map}
use Rattle.later_expansions.proofs.later_expansion.begin_stages.Goals as goal

pub returns-clause-fresh : goal.returns-clause-fresh
returns-clause-fresh g c = λ m meant.
    let a = c.args.alpha in
    let fresh = c.requires.fresh.fresh m meant.sites_are meant.pairs_are in
    let F : List Bool → Type 0 = λ flags. AreFresh m a (labelling c.args.at.now) (changed_after c.args.changes.now a) (is_marked flags) in
    on_ok (F c.open_first.new.self.fresh.items) c.open_first.result
    (subst F (sym (ap (λ (v : _). v.items) (c.open_first.ensures.same.0 ∙ c.open_apart.ensures.fresh))) fresh)

pub returns-then-branch-clause-fresh : goal.returns-then-branch-clause-fresh
returns-then-branch-clause-fresh g c = λ m meant.
    let a = c.args.alpha in
    let fresh = c.requires.fresh.fresh m meant.sites_are meant.pairs_are in
    let F : List Bool → Type 0 = λ flags. AreFresh m a (labelling c.args.at.now) (changed_after c.args.changes.now a) (is_marked flags) in
    subst F (sym (ap (λ (v : _). v.items) c.open_apart.ensures.fresh)) fresh

pub returns-clause-zeros : goal.returns-clause-zeros
returns-clause-zeros g c = λ m meant.
    let a = c.args.alpha in
    let at = c.args.at.now in
    let choices = c.open_first.new.choices.items in
    on_ok_map ((p : ℕ) → p < length at → choice_at choices p ≡ Zero ↔ labelling at p ≡ a)
    (AreLeastZeros m.sites (move_value m (Expand a) (labelling at)) (choice_at choices)) c.open_first.result
    (λ zeros. first_zeros m a at choices (pairs_meant _ _ _ m c.requires.asked.posed meant)
    (λ p l is. (zeros p (omega (arith, l, c.requires.asked.asked.sites, meant.sites_are))).0 is)) c.open_first.ensures.zeros

pub returns-clause-stage : goal.returns-clause-stage
returns-clause-stage g c =
    let a = c.args in
    let fresh = c.requires.fresh in
    let flags = ap (λ (v : _). v.items) (c.open_first.ensures.same.0 ∙ c.open_apart.ensures.fresh) in
    let sites = ap (λ (v : _). v.items) (c.open_first.ensures.same.1 ∙ c.open_apart.ensures.listed) in
    on_ok_both c.open_first.result _ _ _ (λ count opened. record {
      by_site = c.open_apart.ensures.by_site;
      sites = count ∙ c.requires.asked.asked.sites;
      opened = opened;
      listed = λ p l is. subst (λ (xs : List ℕ). Contains xs p) (sym sites) (fresh.listed p l (ap (λ (xs : List Bool). is_marked xs p) (sym flags) ∙ is));
      inside = subst (λ (xs : List ℕ). All (λ p. p < a.problem.now.pairs.sites) xs) (sym sites) fresh.inside;
    }) c.open_first.ensures.count c.open_first.ensures.opened
