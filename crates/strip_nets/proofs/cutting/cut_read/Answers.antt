use Rattle.std.proofs.Common.{◌∙◌}
use Rattle.strip_nets.proofs.cutting.cut_read.Goals as goal

pub returns-clause-tells : goal.returns-clause-tells
returns-clause-tells c = λ m move told is.
    c.cut_strip.ensures.tells m move told (c.deref.ensures.value ∙ c.in_ok-read_weights.ensures.weights m move told is)
