use Rattle.std.proofs.Common.{◌≡◌, ◌+◌, ◌*◌, ◌≤◌, length, take, map, sum, sum_by}
use Rattle.std.specs.Prelude.{vec_len, vec_capacity}
use Rattle.compile_cut.specs.Weights.{weights_size}
use Rattle.move_energy.specs.BySite.{degree, met_at}
use Rattle.move_energy.specs.Built.{AddsCost}
use Rattle.move_energy.specs.Choices.{choice_at, open_at, open_rank}
use Rattle.move_energy.specs.Weights.{unsaved_surplus}
use Rattle.site_forms.specs.Numbers.{WhereRead}
use Rattle.persistency.specs.Borders.{border_at, range_of}
use Rattle.strip_nets.specs.Building.{AreStartWeights}
use Rattle.std.specs.List.{flat_map}
use Rattle.sink_distances.specs.Rows.{arc_ends}
use Rattle.strip_nets.specs.Meeting.{ends_at, strip_ends}
use Rattle.strip_nets.specs.RowForms.{arcs_in, form_in, IsLaidTo}
use Rattle.strip_nets.specs.Views.{strip_view, weight_now}
use Rattle.strip_nets.proofs.rows.add_rows_by.Given as goal

abbrev pub invariant-loop-index : goal.invariant-loop-index
invariant-loop-index g l = record {
  list_room : length l.sites.opened.now ≤ vec_capacity l.list;
  borders_room : length l.sites.opened.now ≤ vec_capacity l.borders;
  list_len : vec_len l.list ≡ l.index;
  borders_len : vec_len l.borders ≡ l.index;
  size : weights_size l.list.items
      ≤ weights_size (take l.index l.sites.weights.now) + 20000000 * sum_by (degree l.material.form.ends.now) (take l.index l.sites.opened.now);
  small : sum l.borders.items ≤ 20000000 * sum_by (degree l.material.form.ends.now) (take l.index l.sites.opened.now);
  weights : WhereRead l.material.form (λ m move f. AreStartWeights l.material l.sites m move f
      → l.list.items ≡ map (weight_now m move f (choice_at l.material.start.now) (choice_at l.material.known.now)) (take l.index l.sites.opened.now));
  borders : WhereRead l.material.form (λ m move f.
      l.borders.items ≡ map (border_at m move f (choice_at l.material.known.now) (range_of l.sites.from l.sites.to)) (take l.index l.sites.opened.now));
  laid : IsLaidTo (length l.sites.opened.now) (strip_ends l.material l.sites) l.form;
  ends : arc_ends (arcs_in l.form) ≡ flat_map (ends_at l.material l.sites) (take l.index l.sites.opened.now);
  adds : WhereRead l.material.form (λ m move f. AddsCost (form_in l.fn.form) (form_in l.form) (λ x. sum_by (met_at l.material.form.ends.now (open_at (strip_view l.material.known.now l.sites.from l.sites.to))
      (unsaved_surplus m move f (choice_at (strip_view l.material.known.now l.sites.from l.sites.to)) (open_rank (strip_view l.material.known.now l.sites.from l.sites.to)) x)) (take l.index l.sites.opened.now)));
}
