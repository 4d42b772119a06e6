use Rattle.std.proofs.Common.{arith, false}
use Rattle.compile_cut.proofs.three.arcs_at_zeros.Goals as goal

pub gain-requires-clause-regular : goal.gain-requires-clause-regular
gain-requires-clause-regular c = c.requires.regular (record { position = 2; value = false }) (omega arith)

pub gain-requires-2-clause-regular : goal.gain-requires-2-clause-regular
gain-requires-2-clause-regular c = c.requires.regular (record { position = 1; value = false }) (omega arith)

pub gain-requires-3-clause-regular : goal.gain-requires-3-clause-regular
gain-requires-3-clause-regular c = c.requires.regular (record { position = 0; value = false }) (omega arith)
