use Rattle.std.proofs.Common.{◌∙◌, ◌++◌, ℕ, List, length, ap, sym, subst}
use Rattle.std.proofs.lemmas.List.{append-nil}
use Rattle.std.proofs.lemmas.Result.{on_ok_weaker}
use Rattle.label_energies.specs.Energies.{labelling}
use Rattle.compile_cut.specs.Weights.{source_part}
use Rattle.move_energy.specs.BySite.{is_counted, pair_beside}
use Rattle.move_energy.specs.Choices.{choice_at, open_at, open_rank}
use Rattle.move_energy.specs.Weights.{are_open, pair_surplus, unsaved_surplus}
use Rattle.move_energy.proofs.Adding.{counted_adds}
use Rattle.move_energy.proofs.Weighed.{surplus_adds, surplus_passed}
use Rattle.sink_distances.specs.Rows.{arc_ends}
use Rattle.strip_nets.specs.Meeting.{strip_ends}
use Rattle.strip_nets.specs.RowForms.{arcs_in, form_in, IsFirstPart}
use Rattle.strip_nets.specs.Views.{strip_view}
use Rattle.strip_nets.proofs.Sizes.{strip_ends_few}
use Rattle.strip_nets.proofs.Borders.{saved_both}
use Rattle.strip_nets.proofs.Inside.{met_open}
use Rattle.strip_nets.proofs.Meeting.{ends_none, ends_some, unmet_adds, part_counted}
use Rattle.strip_nets.proofs.rows.add_inside.Goals as goal

pub returns-then-not-met-clause-ends : goal.returns-then-not-met-clause-ends
returns-then-not-met-clause-ends c =
    let a = c.args in
    let first = arc_ends (arcs_in a.form.now) in
    sym (append-nil first) ∙ ap (λ (xs : List ℕ). first ++ xs) (sym (ends_none a.material.now a.sites.now a.site a.place (sym c.requires.met ∙ c.if-not-met.true)))

pub returns-then-not-met-clause-adds : goal.returns-then-not-met-clause-adds
returns-then-not-met-clause-adds c = λ m move read worth.
    let a = c.args in
    let f = labelling a.material.now.form.at.now in
    let v = strip_view a.material.now.known.now a.sites.now.from a.sites.now.to in
    unmet_adds m move f (choice_at v) (open_rank v) (form_in a.form.now) (pair_beside a.material.now.form.ends.now a.site a.place)
    (is_counted (open_at v) a.site (pair_beside a.material.now.form.ends.now a.site a.place)) (sym c.requires.met ∙ c.if-not-met.true)

pub met_nodes-nodes-requires-clause-met : goal.met_nodes-nodes-requires-clause-met
met_nodes-nodes-requires-clause-met c = sym c.requires.met ∙ c.if-not-met.false

pub put_saving-requires-clause-laid : goal.put_saving-requires-clause-laid
put_saving-requires-clause-laid c =
    let a = c.args in
    let met = c.met_nodes-nodes.ensures in
    let all = strip_ends a.material.now a.sites.now in
    let some = ends_some a.material.now a.sites.now a.site a.place c.met_nodes-nodes.result met in (
      length a.sites.now.opened.now,
      all,
      c.requires.laid,
      subst (λ (xs : List ℕ). IsFirstPart (arc_ends (arcs_in a.form.now) ++ xs) all) some c.requires.begins,
      met.first_node,
      met.second_node,
      strip_ends_few a.material.now a.sites.now c.requires.can c.requires.opened,
    )

pub returns-clause-laid : goal.returns-clause-laid
returns-clause-laid c =
    let a = c.args in
    let all = strip_ends a.material.now a.sites.now in
    let some = ends_some a.material.now a.sites.now a.site a.place c.met_nodes-nodes.result c.met_nodes-nodes.ensures in
    on_ok_weaker c.put_saving.result (λ laid. laid (length a.sites.now.opened.now) all c.requires.laid
    (subst (λ (xs : List ℕ). IsFirstPart (arc_ends (arcs_in a.form.now) ++ xs) all) some c.requires.begins)) c.put_saving.ensures.laid

pub returns-clause-ends : goal.returns-clause-ends
returns-clause-ends c =
    let a = c.args in
    let all = strip_ends a.material.now a.sites.now in
    let some = ends_some a.material.now a.sites.now a.site a.place c.met_nodes-nodes.result c.met_nodes-nodes.ensures in
    on_ok_weaker c.put_saving.result (λ ends. ends (length a.sites.now.opened.now) all c.requires.laid
    (subst (λ (xs : List ℕ). IsFirstPart (arc_ends (arcs_in a.form.now) ++ xs) all) some c.requires.begins)
    ∙ ap (λ (xs : List ℕ). arc_ends (arcs_in a.form.now) ++ xs) (sym some)) c.put_saving.ensures.ends

pub returns-clause-adds : goal.returns-clause-adds
returns-clause-adds c = λ m move read worth.
    let a = c.args in
    let f = labelling a.material.now.form.at.now in
    let v = strip_view a.material.now.known.now a.sites.now.from a.sites.now.to in
    let pair = pair_beside a.material.now.form.ends.now a.site a.place in
    let nodes = c.met_nodes-nodes.result in
    let met = c.met_nodes-nodes.ensures in
    let all = strip_ends a.material.now a.sites.now in
    let some = ends_some a.material.now a.sites.now a.site a.place nodes met in
    let begins = subst (λ (xs : List ℕ). IsFirstPart (arc_ends (arcs_in a.form.now) ++ xs) all) some c.requires.begins in
    let both = met_open (are_open (choice_at v) pair) (is_counted (open_at v) a.site pair) met.is_so in
    let saves = saved_both (are_open (choice_at v) pair) a.met a.saving (pair_surplus m move f pair) both.0 c.if-not-met.false worth in
    on_ok_weaker c.put_saving.result (λ adds.
    counted_adds (form_in a.form.now) (form_in c.put_saving.new.form) (λ x. unsaved_surplus m move f (choice_at v) (open_rank v) x pair) (is_counted (open_at v) a.site pair) both.1
    (surplus_adds m move f (choice_at v) (open_rank v) (form_in a.form.now) (form_in c.put_saving.new.form) pair nodes.first nodes.second _ a.saving
    met.first met.second both.0 saves (ap source_part (surplus_passed a.saving c.requires.saving) ∙ part_counted a.saving _ saves) (adds (length a.sites.now.opened.now) all c.requires.laid begins))) c.put_saving.ensures.adds
