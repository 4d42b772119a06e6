-- In how many parts workers close in a move.
use Rattle.std.specs.Prelude.{◌≡◌, ◌<◌, ◌≤◌, ◌*◌, ℕ}
use Rattle.worker_options.specs.declared.options.Options.{Options}

-- one part of few sites or by one thread, one for each of two threads, and else two for each
pub record IsPartCount (options : Options) (sites count : ℕ) : Type 0 where
  pub few : sites < 20000 → count ≡ 1
  pub alone : options.threads < 2 → count ≡ 1
  pub two : 20000 ≤ sites → options.threads ≡ 2 → count ≡ 2
  pub shared : 20000 ≤ sites → 2 < options.threads → count ≡ 2 * options.threads
