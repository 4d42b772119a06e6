use Rattle.plain_cut.specs.State.{IsWave}
use Rattle.plain_cut.proofs.phases.push_wave.Given as goal

abbrev pub invariant-wave : goal.invariant-wave
invariant-wave l = IsWave l.net l.initial.work l.work
