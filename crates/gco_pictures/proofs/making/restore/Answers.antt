use Rattle.vision.specs.Faults.{HasRestoreError}
use Rattle.vision.specs.Inputs.{IsRestoreJob}
use Rattle.gco_pictures.specs.Options.{restore_numbers, restore_options}
use Rattle.gco_pictures.specs.Refusals.{alone}
use Rattle.gco_pictures.proofs.Handing.{picture_made}
use Rattle.gco_pictures.proofs.InRange.{restore_in_range}
use Rattle.gco_pictures.proofs.Refusing.{command_refused}
use Rattle.gco_pictures.proofs.making.restore.Goals as goal

pub run_restore-requires-clause-options : goal.run_restore-requires-clause-options
run_restore-requires-clause-options c = rw c.options-options.ensures (restore_in_range c.args.given.now (rw c.numbers.ensures at c.in_default.ensures))

pub returns-in-Ok-clause-within : goal.returns-in-Ok-clause-within
returns-in-Ok-clause-within c = rw c.numbers.ensures at c.in_default.ensures

pub returns-in-Err-clause-refused : goal.returns-in-Err-clause-refused
returns-in-Err-clause-refused c =
    let o = restore_options c.args.given.now in
    rw c.refusal_of.ensures
    (command_refused (restore_numbers c.args.given.now) (HasRestoreError alone o c.args.input.now) (IsRestoreJob o c.args.input.now) _ _ c.in-Err.error
    (rw c.numbers.ensures at c.in_default.ensures) (rw c.options-options.ensures at c.in-Err.ensures.refused))

pub returns-in-Ok-clause-made : goal.returns-in-Ok-clause-made
returns-in-Ok-clause-made c =
    picture_made (IsRestoreJob (restore_options c.args.given.now) c.args.input.now) c.new-held.result.bytes.items c.run_restore.new.sink.bytes.items
    c.new-held.result.failures c.run_restore.new.sink.failures c.in-Ok.report c.new-held.ensures
    (rw c.options-options.ensures at c.in-Ok.ensures.done)
