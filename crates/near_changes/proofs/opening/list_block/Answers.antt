use Rattle.move_energy.specs.Choices.{open_at}
use Rattle.site_bounds.proofs.Skipping.{skipped}
use Rattle.near_changes.proofs.opening.list_block.Goals as goal

pub returns-then-not-has_open : goal.returns-then-not-has_open
returns-then-not-has_open c =
    skipped (open_at c.args.choices.now) c.args.from c.args.to c.args.opened.now.items c.requires.block.0 (c.has_open.ensures c.if-not-has_open.true) c.requires.listed
