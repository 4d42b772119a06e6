use Rattle.std.proofs.Common.{◌==◌, not}
use Rattle.label_energies.specs.Energies.{labelling}
use Rattle.site_bounds.proofs.Skipping.{skipped}
use Rattle.later_swaps.proofs.swap_memory.list_block.Goals as goal

pub returns-then-not-has_changed : goal.returns-then-not-has_changed
returns-then-not-has_changed c =
    skipped (λ p. not (labelling c.args.before.now p == labelling c.args.after.now p)) c.args.from c.args.to c.args.list.now.items c.requires.block.0
    (c.has_changed.ensures c.if-not-has_changed.true) c.requires.listed
