use Rattle.std.proofs.Common.{length}
use Rattle.vision.specs.Faults.{HasRestoreError}
use Rattle.vision.specs.Inputs.{IsRestoreJob}
use Rattle.gco_pictures.specs.Options.{restore_numbers, restore_options}
use Rattle.gco_pictures.specs.Refusals.{alone}
use Rattle.gco_pictures.proofs.Refusing.{told_refused}
use Rattle.gco_pictures.proofs.calls.gco_restore_pgm.Goals as goal

pub returns-clause-refused : goal.returns-clause-refused
returns-clause-refused c = λ some.
    let o = restore_options c.args.options.now in
    told_refused (restore_numbers c.args.options.now) (HasRestoreError alone o c.args.input.now) (IsRestoreJob o c.args.input.now)
    c.restore-made.result (length c.args.out.now) c.hand_over.result c.hand_over.new.told
    c.restore-made.ensures.within c.restore-made.ensures.made c.restore-made.ensures.refused (c.hand_over.ensures.refused some)
