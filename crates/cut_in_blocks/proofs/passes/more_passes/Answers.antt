use Rattle.std.proofs.Common.{arith}
use Rattle.cut_in_blocks.proofs.Going.{goes_less}
use Rattle.cut_in_blocks.proofs.passes.more_passes.Goals as goal

pub pass-after-requires-clause-going : goal.pass-after-requires-clause-going
pass-after-requires-clause-going c = goes_less c.args.old.now.value c.rounds.blocks.items c.rounds.ways 1 0 c.rounds.invariant.0 (omega arith)

pub returns-then-not-some-clause-going : goal.returns-then-not-some-clause-going
returns-then-not-some-clause-going c = goes_less c.args.old.now.value c.pass-after.new.blocks.items c.pass-after.result.0 _ 1 (c.pass-after.ensures.going 1 c.rounds.invariant.0) (omega arith)
