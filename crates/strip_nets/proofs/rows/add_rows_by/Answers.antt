use Rattle.std.proofs.Common.{◌≡◌, ◌<◌, ◌-ℤ◌, map, take, ◌∙◌, ℕ, ℤ, Bool, List, ◌++◌, get_or, unsigned_abs, pos, ap, refl, sym, subst, length, sum, arith}
use Rattle.std.proofs.lemmas.Grind.{common_steps}
use Rattle.std.proofs.lemmas.List.{get_or-map}
use Rattle.compile_cut.specs.Weights.{weights_size}
use Rattle.label_energies.specs.Energies.{labelling}
use Rattle.move_energy.specs.BySite.{degree, met_at}
use Rattle.move_energy.specs.Choices.{choice_at, open_at, open_rank}
use Rattle.move_energy.specs.Weights.{weight_at, unsaved_surplus}
use Rattle.move_energy.specs.Built.{AddsCost}
use Rattle.move_energy.proofs.Adding.{cost_none, site_more, site_all}
use Rattle.site_bounds.specs.Parts.{site_weight}
use Rattle.persistency.specs.Borders.{border_at, range_of}
use Rattle.strip_nets.specs.Building.{view_by}
use Rattle.strip_nets.specs.Views.{strip_view, weight_now}
use Rattle.strip_nets.proofs.Sizes.{seen_length, row_few}
use Rattle.strip_nets.proofs.Borders.{weight_fits, weight_is, weight_few, border_passed, size_more, borders_more, size_all, borders_all, list_more}
use Rattle.std.specs.List.{flat_map}
use Rattle.std.proofs.lemmas.List.{take_all}
use Rattle.strip_nets.specs.Meeting.{ends_at, strip_ends}
use Rattle.strip_nets.specs.RowForms.{form_in, IsFirstPart}
use Rattle.strip_nets.proofs.Meeting.{rows_more, row_begins}
use Rattle.strip_nets.proofs.rows.add_rows_by.Goals as goal

pub loop-index-init : goal.loop-index-init
loop-index-init g c =
    let list = c.in_ok-reserve.ensures.items ∙ c.clear.ensures.items in
    let borders = c.in_ok-reserve-2.ensures.items ∙ c.clear-2.ensures.items in
    record {
      list_room = grind (arith, common_steps);
      borders_room = grind (arith, common_steps);
      list_len = c.in_ok-reserve.ensures.len ∙ c.clear.ensures.len;
      borders_len = c.in_ok-reserve-2.ensures.len ∙ c.clear-2.ensures.len;
      size = omega (arith, ap (λ (ws : List ℤ). weights_size ws) list);
      small = omega (arith, ap (λ (xs : List ℕ). sum xs) borders);
      weights = λ m move read starts. list;
      borders = λ m move read. borders;
      laid = c.requires.laid;
      ends = c.requires.none;
      adds = λ m move read. cost_none (form_in c.args.form.now) (λ x. 0) (λ x. refl);
    }

pub add_row-requires-clause-laid : goal.add_row-requires-clause-laid
add_row-requires-clause-laid g c = c.loop-index.invariant.laid

pub add_row-requires-clause-begins : goal.add_row-requires-clause-begins
add_row-requires-clause-begins g c =
    let a = c.args in
    let all = strip_ends a.material.now a.sites.now in
    let i = c.loop-index.index in
    let F = ends_at a.material.now a.sites.now in
    subst (λ (xs : List ℕ). IsFirstPart (xs ++ F c.site_at-site.result) all) (sym c.loop-index.invariant.ends)
    (subst (λ (site : ℕ). IsFirstPart (flat_map F (take i a.sites.now.opened.now) ++ F site) all) (sym c.site_at-site.ensures.value)
    (row_begins a.material.now a.sites.now a.sites.now.opened.now i c.loop-index-test.true))

pub overflow_sub-sites : goal.overflow_sub-sites
overflow_sub-sites g c =
    let a = c.args in
    let i = c.loop-index.index in
    let within : i < length a.sites.now.weights.now = omega (arith, c.loop-index-test.true, c.requires.weighed.count) in
    weight_fits (weight_at a.sites.now.weights.now i) c.in_ok-found.found.ones (degree a.material.now.form.ends.now c.site_at-site.result) (weight_few a.sites.now.weights.now i within c.requires.weighed.size)
    c.in_ok-found.ensures.range.0 (row_few a.material.now c.site_at-site.result c.requires.can c.site_at-site.ensures.site.0)

pub loop-index-preserved : goal.loop-index-preserved
loop-index-preserved g c =
    let a = c.args in
    let f = labelling a.material.now.form.at.now in
    let v = strip_view a.material.now.known.now a.sites.now.from a.sites.now.to in
    let i = c.loop-index.index in
    let l : i < length a.sites.now.opened.now = c.loop-index-test.true in
    let site = c.site_at-site.result in
    let at = c.site_at-site.ensures.value in
    let within : i < length a.sites.now.weights.now = omega (arith, l, c.requires.weighed.count) in
    let few_ends = row_few a.material.now site c.requires.can c.site_at-site.ensures.site.0 in
    let inv = c.loop-index.invariant in
    let found = c.in_ok-found.found in
    let says = c.in_ok-found.ensures in
    let first = c.push_reserved.ensures in
    let second = c.push_reserved-in-loop-index.ensures in
    let weight = weight_is (weight_at a.sites.now.weights.now i) found.ones (degree a.material.now.form.ends.now site) (weight_few a.sites.now.weights.now i within c.requires.weighed.size) says.range.0 few_ends in
    let border = c.unsigned_abs.ensures.value ∙ ap unsigned_abs (border_passed found.beyond (degree a.material.now.form.ends.now site) says.range.1 few_ends) in
    record {
      list_room = omega (arith, first.capacity, inv.list_room);
      borders_room = omega (arith, second.capacity, inv.borders_room);
      list_len = omega (arith, first.len, inv.list_len);
      borders_len = omega (arith, second.len, inv.borders_len);
      size = size_more a.sites.now.weights.now c.loop-index.list.items _ a.sites.now.opened.now a.material.now.form.ends.now i site _ found.ones l within at first.items weight says.range.0 inv.size;
      small = borders_more c.loop-index.borders.items _ a.sites.now.opened.now a.material.now.form.ends.now i site _ l at second.items (omega (arith, border, says.range.1)) inv.small;
      weights = λ m move read starts.
          let own : weight_at a.sites.now.weights.now i ≡ site_weight m move f (choice_at a.material.now.start.now) site =
          ap (λ (ws : List ℤ). weight_at ws i) starts ∙ get_or-map (site_weight m move f (choice_at a.material.now.start.now)) a.sites.now.opened.now i 0 (pos 0) l
          ∙ ap (site_weight m move f (choice_at a.material.now.start.now)) (sym at) in
          let ones = says.ones m move read in
          list_more (weight_now m move f (choice_at a.material.now.start.now) (choice_at a.material.now.known.now)) c.loop-index.list.items _ a.sites.now.opened.now i site _ l at first.items
          (weight ∙ (λ j. own j -ℤ ones j)) (inv.weights m move read starts);
      borders = λ m move read.
          list_more (border_at m move f (choice_at a.material.now.known.now) (range_of a.sites.now.from a.sites.now.to)) c.loop-index.borders.items _ a.sites.now.opened.now i site _ l at second.items
          (border ∙ ap unsigned_abs (says.beyond m move read)) (inv.borders m move read);
      laid = c.in_ok-found.ensures.laid;
      ends = c.in_ok-found.ensures.ends ∙ ap (λ (xs : List ℕ). xs ++ ends_at a.material.now a.sites.now site) inv.ends
          ∙ ap (λ (p : ℕ). flat_map (ends_at a.material.now a.sites.now) (take i a.sites.now.opened.now) ++ ends_at a.material.now a.sites.now p) at
          ∙ sym (rows_more a.material.now a.sites.now a.sites.now.opened.now i l);
      adds = λ m move read.
          let met : (ℕ → Bool) → ℕ → ℕ = λ x. met_at a.material.now.form.ends.now (open_at v) (unsaved_surplus m move f (choice_at v) (open_rank v) x) in
          let here : AddsCost (form_in c.loop-index.form) (form_in c.add_row.new.form) (λ x. met x (get_or a.sites.now.opened.now i 0)) =
          subst (λ (p : ℕ). AddsCost (form_in c.loop-index.form) (form_in c.add_row.new.form) (λ x. met x p)) at (says.adds m move read) in
          site_more (form_in a.form.now) (form_in c.loop-index.form) (form_in c.add_row.new.form) met
          a.sites.now.opened.now i l (inv.adds m move read) here;
    }

pub returns : goal.returns
returns g c =
    let a = c.args in
    let f = labelling a.material.now.form.at.now in
    let v = strip_view a.material.now.known.now a.sites.now.from a.sites.now.to in
    let i = c.loop-index.index in
    let inv = c.loop-index.invariant in
    let opened = a.sites.now.opened.now in
    let past = c.loop-index-test.false in
    let all = take_all i opened (omega (arith, past)) in
    let seen = seen_length a.material.now a.sites.now c.requires.can in record {
      count = (omega (arith, inv.list_len, c.loop-index.list.ok.0, c.loop-index.auto.index-end, past), omega (arith, inv.borders_len, c.loop-index.borders.ok.0, c.loop-index.auto.index-end, past));
      size = size_all a.material.now.form.pairs.now a.material.now.form.ends.now (view_by a.sites.now a.material.now) a.sites.now.weights.now c.loop-index.list.items opened i c.requires.can.over.list c.requires.can.over.by_site
          seen c.requires.opened c.requires.weighed.size past inv.size;
      small = borders_all a.material.now.form.pairs.now a.material.now.form.ends.now (view_by a.sites.now a.material.now) c.loop-index.borders.items opened i c.requires.can.over.list c.requires.can.over.by_site
          seen c.requires.opened past inv.small;
      laid = inv.laid;
      ends = inv.ends ∙ ap (flat_map (ends_at a.material.now a.sites.now)) all;
      weights = λ m move read starts. inv.weights m move read starts
          ∙ ap (map (weight_now m move f (choice_at a.material.now.start.now) (choice_at a.material.now.known.now))) all;
      borders_are = λ m move read. inv.borders m move read
          ∙ ap (map (border_at m move f (choice_at a.material.now.known.now) (range_of a.sites.now.from a.sites.now.to))) all;
      adds = λ m move read.
          site_all (form_in a.form.now) (form_in c.loop-index.form)
          (λ (x : ℕ → Bool). met_at a.material.now.form.ends.now (open_at v) (unsaved_surplus m move f (choice_at v) (open_rank v) x))
          opened i (omega (arith, past)) (inv.adds m move read);
    }
