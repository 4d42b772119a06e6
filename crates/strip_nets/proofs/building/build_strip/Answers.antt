use Rattle.std.proofs.Common.{◌≤◌, ◌+◌, ◌∙◌, ℕ, ℤ, ◌+ℤ◌, List, length, ap, refl, sym, subst, arith}
use Rattle.compile_cut.specs.Weights.{weights_value, weights_size}
use Rattle.std.specs.Prelude.{slice_index}
use Rattle.std.proofs.lemmas.List.{get_or-map}
use Rattle.persistency.specs.Borders.{border_at, range_of}
use Rattle.label_energies.specs.Energies.{labelling}
use Rattle.move_energy.specs.Choices.{choice_at}
use Rattle.strip_nets.proofs.Sizes.{sites_few, strip_ends_few}
use Rattle.strip_nets.proofs.Laying.{IsLaid, rows_stand}
use Rattle.strip_nets.proofs.Numbering.{listed_from, listed_to}
use Rattle.strip_nets.specs.declared.material.RowForm.{RowForm}
use Rattle.strip_nets.specs.Meeting.{strip_ends}
use Rattle.strip_nets.specs.RowForms.{form_in}
use Rattle.strip_nets.proofs.Saving.{few_firsts}
use Rattle.strip_nets.proofs.RowForms.{begun_laid, begun_ends, begun_constant, laid_rows}
use Rattle.strip_nets.proofs.building.build_strip.Goals as goal

pub number_sites-requires-clause-few : goal.number_sites-requires-clause-few
number_sites-requires-clause-few c =
    sites_few c.args.material.now c.args.sites.now c.requires.can c.requires.opened

pub number_sites-requires-clause-from : goal.number_sites-requires-clause-from
number_sites-requires-clause-from c =
    let a = c.args in
    listed_from a.material.now.known.now a.sites.now.from a.sites.now.to a.sites.now.opened.now c.requires.opened

pub number_sites-requires-clause-to : goal.number_sites-requires-clause-to
number_sites-requires-clause-to c =
    let a = c.args in
    listed_to a.material.now.known.now a.sites.now.from a.sites.now.to a.sites.now.opened.now c.requires.opened

pub returns-clause-numbering : goal.returns-clause-numbering
returns-clause-numbering c = c.in_ok-number_sites.ensures.each c.args.material.now.known.now c.requires.opened

pub add_rows-requires-clause-laid : goal.add_rows-requires-clause-laid
add_rows-requires-clause-laid c =
    let a = c.args in
    let n = length a.sites.now.opened.now in
    let ends = strip_ends a.material.now a.sites.now in
    let form : RowForm = record { weights = c.begin_form.new.form.weights; laying = c.open.new.self } in
    begun_laid n ends form c.in_ok-begin_form.ensures.weights (c.in_ok-open.ensures n ends c.begin_rows-total.ensures)

pub add_rows-requires-clause-none : goal.add_rows-requires-clause-none
add_rows-requires-clause-none c =
    let a = c.args in
    let n = length a.sites.now.opened.now in
    let ends = strip_ends a.material.now a.sites.now in
    let form : RowForm = record { weights = c.begin_form.new.form.weights; laying = c.open.new.self } in
    begun_ends n ends form (c.in_ok-open.ensures n ends c.begin_rows-total.ensures)

pub add_weights-requires-clause-room : goal.add_weights-requires-clause-room
add_weights-requires-clause-room c =
    let a = c.args in
    let rows = c.in_ok-add_rows.ensures in
    omega (
      arith,
      ap (λ (ws : List ℤ). weights_size ws) c.deref-2.ensures.value,
      rows.size,
      rows.laid.weights,
      few_firsts (length a.sites.now.opened.now) (strip_ends a.material.now a.sites.now) c.add_rows.new.form rows.laid,
      strip_ends_few a.material.now a.sites.now c.requires.can c.requires.opened,
    )

pub returns-clause-sized : goal.returns-clause-sized
returns-clause-sized c =
    let a = c.args in
    let rows = c.in_ok-add_rows.ensures in
    let old = c.add_rows.new.form in
    let list = c.add_rows.new.list in
    let new : RowForm = record { weights = c.add_weights.new.weights; laying = old.laying } in
    let S : List ℤ → Type 0 = λ ys. weights_size new.weights.items ≤ weights_size old.weights.items + weights_size ys in
    let many = strip_ends_few a.material.now a.sites.now c.requires.can c.requires.opened in
    let few = sites_few a.material.now a.sites.now c.requires.can c.requires.opened in
    record {
      ends = strip_ends a.material.now a.sites.now;
      rows = laid_rows (length a.sites.now.opened.now) (strip_ends a.material.now a.sites.now) old new list.items rows.laid refl c.add_weights.ensures.len
          (subst S c.deref-2.ensures.value c.add_weights.ensures.size) (omega (arith, rows.size)) many few rows.ends;
      count = rows.count.1;
      small = rows.small;
    }

pub returns-clause-built : goal.returns-clause-built
returns-clause-built c = λ m move read weighs.
    let a = c.args in
    let f = labelling a.material.now.form.at.now in
    let can = c.requires.can in
    let n = length a.sites.now.opened.now in
    let ends = strip_ends a.material.now a.sites.now in
    let rows = c.in_ok-add_rows.ensures in
    let first : RowForm = record { weights = c.begin_form.new.form.weights; laying = c.open.new.self } in
    let part = c.in_ok-open.ensures n ends c.begin_rows-total.ensures in
    let none = begun_constant n ends first c.in_ok-begin_form.ensures.weights part in
    let begun = begun_laid n ends first c.in_ok-begin_form.ensures.weights part in
    let old = form_in c.add_rows.new.form in
    let laying = c.add_rows.new.form.laying in
    let after : RowForm = record { weights = c.add_weights.new.weights; laying = laying } in
    let new = form_in after in
    let list = c.add_rows.new.list in
    let S : List ℤ → Type 0 = λ ys. weights_size c.add_weights.new.weights.items ≤ weights_size old.weights.items + weights_size ys in
    let laid : IsLaid list.items old new = (
      refl,
      refl,
      c.add_weights.ensures.len,
      (λ x. c.add_weights.ensures.value x ∙ ap (λ (ys : List ℤ). weights_value old.weights.items x +ℤ weights_value ys x) c.deref-2.ensures.value),
      subst S c.deref-2.ensures.value c.add_weights.ensures.size,
    ) in
    record {
      stands = rows_stand m move f a.material.now.start.now a.material.now.known.now a.sites.now.from a.sites.now.to a.sites.now.opened.now a.material.now.form.pairs.now a.material.now.form.ends.now n (form_in first) old new list
          read.sites_are read.pairs_are read.instance read.allowed can.over.by_site
          (can.count ∙ sym read.sites_are) can.goes_on c.requires.opened
          none refl (rows.laid.nodes ∙ sym begun.nodes) laid
          (rows.weights m move read weighs)
          (rows.adds m move read);
      each = λ k l.
          ap (λ (xs : List ℕ). slice_index xs k) (rows.borders_are m move read)
          ∙ get_or-map (border_at m move f (choice_at a.material.now.known.now) (range_of a.sites.now.from a.sites.now.to)) a.sites.now.opened.now k 0 0 l;
    }
