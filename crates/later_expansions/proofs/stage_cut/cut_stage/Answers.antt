use Rattle.std.proofs.Common.{◌≡◌, ◌∙◌, List, length, ap, sym, subst, vec_len}
use Rattle.label_energies.specs.Energies.{labelling}
use Rattle.pseudo_bool.specs.Energies.{assignment}
use Rattle.compile_cut.specs.declared.quadratic.Quadratic.{Quadratic}
use Rattle.compile_cut.specs.Quadratics.{quadratic_value}
use Rattle.move_energy.specs.Choices.{choice_at, open_count, open_rank, AreOpenSites, IsNumbering, StandsFor}
use Rattle.move_energy.specs.declared.choice.Choice.{Choice}
use Rattle.move_energy.proofs.Opened.{opened_count}
use Rattle.site_bounds.specs.Decisions.{IsSmallestLeast}
use Rattle.strip_nets.specs.Looking.{IsStageLeast}
use Rattle.strip_nets.proofs.Looking.{stage_least}
use Rattle.later_expansions.proofs.Stages.{if_ok_map, on_ok}
use Rattle.later_expansions.proofs.stage_cut.cut_stage.Goals as goal

pub look_read-requires-clause-count : goal.look_read-requires-clause-count
look_read-requires-clause-count g c = ap (λ (ks : List Choice). length ks) c.deref.ensures.value ∙ c.requires.choices

pub look_read-requires-clause-opened : goal.look_read-requires-clause-opened
look_read-requires-clause-opened g c =
    let K : List Choice → Type 0 = λ ks. AreOpenSites ks c.args.opened.now in
    subst K (sym c.deref.ensures.value) c.requires.opened

pub build_read-requires-clause-count : goal.build_read-requires-clause-count
build_read-requires-clause-count g c = ap (λ (ks : List Choice). length ks) c.deref-2.ensures.value ∙ c.requires.choices

pub build_read-requires-clause-opened : goal.build_read-requires-clause-opened
build_read-requires-clause-opened g c =
    let K : List Choice → Type 0 = λ ks. AreOpenSites ks c.args.opened.now in
    subst K (sym c.deref-2.ensures.value) c.requires.opened

pub returns-clause-numbering : goal.returns-clause-numbering
returns-clause-numbering g c =
    let N : List Choice → Type 0 = λ ks. IsNumbering ks c.build_read.new.numbers.items in
    on_ok (N c.args.built.now.variables.choices.items) c.cut_small.result (subst N c.deref-2.ensures.value c.in_ok-build_read.ensures.numbering)

pub returns-clause-least : goal.returns-clause-least
returns-clause-least g c = λ m move is.
    let f = labelling c.args.form.now.at.now in
    let choices = c.args.built.now.variables.choices.items in
    let left = c.replace-left.result in
    let S : Quadratic → Type 0 = λ q. StandsFor m move f (choice_at choices) q (open_rank choices) in
    let K : List Choice → Type 0 = λ ks. StandsFor m move f (choice_at ks) c.build_read.new.written (open_rank ks) in
    let stands = subst S (sym c.replace-left.ensures.value) (subst K c.deref-2.ensures.value (c.in_ok-build_read.ensures.stands m move is)) in
    if_ok_map (λ bits. IsSmallestLeast (vec_len left.weights) (quadratic_value left) (assignment bits.items)) (λ bits. IsStageLeast m move f choices bits.items)
    c.cut_small.result (λ bits least. stage_least m move f choices left bits.items is.instance stands least) c.cut_small.ensures.least

pub returns-clause-count : goal.returns-clause-count
returns-clause-count g c =
    let choices = c.args.built.now.variables.choices.items in
    let left = c.replace-left.result in
    let nodes : vec_len left.weights ≡ length c.args.opened.now = ap (λ (q : Quadratic). vec_len q.weights) c.replace-left.ensures.value ∙ c.in_ok-build_read.ensures.nodes in
    let count = nodes ∙ opened_count choices c.args.opened.now c.requires.opened in
    if_ok_map (λ bits. length bits.items ≡ vec_len left.weights) (λ bits. length bits.items ≡ open_count choices)
    c.cut_small.result (λ bits is. is ∙ count) c.cut_small.ensures.count
