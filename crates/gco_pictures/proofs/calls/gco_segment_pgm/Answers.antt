use Rattle.std.proofs.Common.{length}
use Rattle.vision.specs.Faults.{HasSegmentError}
use Rattle.vision.specs.Inputs.{IsSegmentJob}
use Rattle.gco_pictures.specs.Options.{segment_numbers, segment_options}
use Rattle.gco_pictures.specs.Refusals.{alone}
use Rattle.gco_pictures.proofs.Refusing.{told_refused}
use Rattle.gco_pictures.proofs.calls.gco_segment_pgm.Goals as goal

pub returns-clause-refused : goal.returns-clause-refused
returns-clause-refused c = λ some.
    let o = segment_options c.args.options.now in
    told_refused (segment_numbers c.args.options.now) (HasSegmentError alone o c.args.input.now) (IsSegmentJob o c.args.input.now)
    c.segment-made.result (length c.args.out.now) c.hand_over.result c.hand_over.new.told
    c.segment-made.ensures.within c.segment-made.ensures.made c.segment-made.ensures.refused (c.hand_over.ensures.refused some)
