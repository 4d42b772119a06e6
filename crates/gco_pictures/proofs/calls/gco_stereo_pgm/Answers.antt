use Rattle.std.proofs.Common.{length}
use Rattle.vision.specs.Faults.{HasStereoError}
use Rattle.vision.specs.Inputs.{IsStereoJob}
use Rattle.gco_pictures.specs.Options.{stereo_numbers, stereo_options}
use Rattle.gco_pictures.specs.Refusals.{alone}
use Rattle.gco_pictures.proofs.Refusing.{told_refused}
use Rattle.gco_pictures.proofs.calls.gco_stereo_pgm.Goals as goal

pub returns-clause-refused : goal.returns-clause-refused
returns-clause-refused c = λ some.
    let o = stereo_options c.args.options.now in
    told_refused (stereo_numbers c.args.options.now) (HasStereoError alone o c.args.input.now) (IsStereoJob o c.args.input.now)
    c.stereo-made.result (length c.args.out.now) c.hand_over.result c.hand_over.new.told
    c.stereo-made.ensures.within c.stereo-made.ensures.made c.stereo-made.ensures.refused (c.hand_over.ensures.refused some)
