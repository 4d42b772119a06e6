use Rattle.std.proofs.Common.{◌≡◌, ◌≤◌, ◌∙◌, ℕ, length, subst, arith}
use Rattle.label_energies.specs.Energies.{labelling}
use Rattle.move_energy.specs.declared.choice.Choice.{Choice}
use Rattle.move_energy.specs.Choices.{choice_at, open_rank, StandsFor}
use Rattle.strip_nets.specs.RowForms.{form_in}
use Rattle.strip_nets.specs.Views.{strip_view}
use Rattle.strip_nets.proofs.Numbering.{numbers_whole}
use Rattle.strip_nets.proofs.Views.{whole_is, whole_rank}
use Rattle.strip_nets.proofs.Looking.{whole_listed}
use Rattle.strip_nets.proofs.cutting.lay_open.Goals as goal

pub build_strip-requires-clause-opened : goal.build_strip-requires-clause-opened
build_strip-requires-clause-opened c = whole_listed c.args.material.now.known.now c.args.opened.now (length c.args.material.now.known.now) (omega arith) c.requires.opened

pub returns-clause-laid : goal.returns-clause-laid
returns-clause-laid c = (_, c.in_ok-build_strip.ensures.sized.rows)

pub returns-clause-stands : goal.returns-clause-stands
returns-clause-stands c = λ m move read starts.
    let a = c.args in
    let f = labelling a.material.now.form.at.now in
    let known = a.material.now.known.now in
    let to = length known in
    let all : length known ≤ to = omega arith in
    let form = form_in c.build_strip.new.form in
    let P : (ℕ → Choice) → Type 0 = λ choice. StandsFor m move f choice form (open_rank (strip_view known 0 to)) in
    let Q : (ℕ → ℕ) → Type 0 = λ variable. StandsFor m move f (choice_at known) form variable in
    subst Q (whole_rank known to all) (subst P (whole_is known to all) (c.in_ok-build_strip.ensures.built m move read starts).stands)

pub returns-clause-numbering : goal.returns-clause-numbering
returns-clause-numbering c =
    let a = c.args in
    let known = a.material.now.known.now in
    let built = c.in_ok-build_strip.ensures in
    let long : length c.resize.new.self.items ≡ length known = omega (arith, c.in_ok-resize.ensures.len, c.resize.new.self.ok.0) in
    numbers_whole known (length known) c.build_strip.new.numbers.items (omega arith) (built.kept (omega (arith, long)) ∙ long) built.numbering.each
