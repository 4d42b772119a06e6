use Rattle.std.proofs.Common.{◌≡◌, ◌∙◌, ◌<◌, All, true, length, sym, subst, arith}
use Rattle.std.specs.List.{Contains}
use Rattle.label_energies.specs.Energies.{labelling}
use Rattle.move_energy.proofs.Opened.{opened_within}
use Rattle.near_changes.specs.Fresh.{AreFresh}
use Rattle.near_changes.specs.Looking.{is_marked}
use Rattle.near_swaps.proofs.Bounds.{open_covers, covers_kept, others_kept}
use Rattle.near_swaps.proofs.looking.find_near.Goals as goal

pub make_stage-requires : goal.make_stage-requires
make_stage-requires c =
    let old = c.args.variables.now.choices.items in
    let now = c.loop-stage.variables.choices.items in
    let at = c.args.form.now.at.now in
    let own = c.args.own.now in
    let kept = c.loop-stage.invariant.zeros in record {
      over = c.requires.over;
      sites = kept.count ∙ c.requires.sites;
      opened = c.loop-stage.invariant.opened;
      own_are = opened_within old own (length at) c.requires.own c.requires.sites;
      covers = covers_kept old now own kept (open_covers old own (length at) c.requires.own c.requires.sites c.requires.none);
      zeros = others_kept c.args.beta at old now c.requires.sites kept c.requires.zeros;
      fresh = λ p l mark.
          subst (λ (v : _). Contains v.items p) (sym c.loop-stage.invariant.fresh_sites)
          (c.requires.fresh p l (subst (λ (v : _). is_marked v.items p ≡ true) c.loop-stage.invariant.fresh mark));
      inside = subst (λ (v : _). All (λ p. p < c.args.form.now.pairs.now.sites) v.items) (sym c.loop-stage.invariant.fresh_sites) c.requires.inside;
    }

pub returns-then-branch-clause-least : goal.returns-then-branch-clause-least
returns-then-branch-clause-least c = λ m move told yes a none changed is was other fresh zeros.
    let f = labelling c.args.form.now.at.now in
    (c.in_ok-make_stage.ensures.least m move told c.if-branch.true) a none changed is was other
    (subst (λ (v : _). AreFresh m none f changed (is_marked v.items)) (sym c.loop-stage.invariant.fresh) fresh)
    (λ s best p l zero. zeros s best p l ((c.loop-stage.invariant.zeros.each p (omega (arith, l, told.sites_are, c.requires.over.sites, c.requires.sites))).0 zero))
