use Rattle.std.proofs.Common.{◌≡◌, ◌-◌, ◌*◌, ◌++◌, length, ◌≤◌, pos, unsigned_abs}
use Rattle.sums.specs.Sums.{sum_below}
use Rattle.move_energy.specs.BySite.{pair_of, neighbours_start, met_below}
use Rattle.move_energy.specs.Built.{AddsCost}
use Rattle.move_energy.specs.Choices.{choice_at, open_at, open_rank}
use Rattle.move_energy.specs.Weights.{unsaved_surplus}
use Rattle.site_forms.specs.Numbers.{WhereRead}
use Rattle.persistency.specs.Borders.{not_ones, range_of, pair_border}
use Rattle.sink_distances.specs.Rows.{arc_ends}
use Rattle.strip_nets.specs.Meeting.{ends_below, strip_ends}
use Rattle.strip_nets.specs.RowForms.{arcs_in, form_in, IsLaidTo}
use Rattle.strip_nets.specs.Views.{strip_view}
use Rattle.strip_nets.proofs.rows.add_row.Given as goal

abbrev pub invariant-loop-place : goal.invariant-loop-place
invariant-loop-place g l = record {
  ones_small : unsigned_abs l.ones ≤ 20000000 * (l.place - neighbours_start l.material.form.ends.now l.site);
  beyond_small : unsigned_abs l.beyond ≤ 20000000 * (l.place - neighbours_start l.material.form.ends.now l.site);
  ones : WhereRead l.material.form (λ m move f. l.ones ≡ pos (sum_below (l.place - neighbours_start l.material.form.ends.now l.site) (λ i.
      pair_border m move f (choice_at l.material.start.now) (not_ones (choice_at l.material.known.now)) l.site (pair_of l.material.form.ends.now l.site i))));
  beyond : WhereRead l.material.form (λ m move f. l.beyond ≡ pos (sum_below (l.place - neighbours_start l.material.form.ends.now l.site) (λ i.
      pair_border m move f (choice_at l.material.known.now) (range_of l.sites.from l.sites.to) l.site (pair_of l.material.form.ends.now l.site i))));
  laid : IsLaidTo (length l.sites.opened.now) (strip_ends l.material l.sites) l.form;
  ends : arc_ends (arcs_in l.form) ≡ arc_ends (arcs_in l.fn.form) ++ ends_below l.material l.sites l.site (l.place - neighbours_start l.material.form.ends.now l.site);
  adds : WhereRead l.material.form (λ m move f. AddsCost (form_in l.fn.form) (form_in l.form) (λ x. met_below l.material.form.ends.now (open_at (strip_view l.material.known.now l.sites.from l.sites.to))
      (unsaved_surplus m move f (choice_at (strip_view l.material.known.now l.sites.from l.sites.to)) (open_rank (strip_view l.material.known.now l.sites.from l.sites.to)) x) l.site (l.place - neighbours_start l.material.form.ends.now l.site)));
}
