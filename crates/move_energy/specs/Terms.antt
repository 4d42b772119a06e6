-- What the testing of a move's terms answers.
use Rattle.std.specs.Prelude.{ℕ, Result, Ok, Err}
use Rattle.label_energies.specs.declared.change.Move.{Move}
use Rattle.label_energies.specs.Energies.{Instance}
use Rattle.label_energies.specs.Moves.{IsAllowed}
use Rattle.move_energy.specs.declared.error.BuildError.{BuildError}
use Rattle.move_energy.specs.Problems.{IsPrepareRefusal}

-- what the testing of all pairs answers: each term is regular; or the first that is not
abbrev pub AreTermsTested : Instance → Move → (ℕ → ℕ) → Result Unit BuildError → Type 0
AreTermsTested m move f (Ok done) = IsAllowed m move f
AreTermsTested m move f (Err e) = IsPrepareRefusal m move f e
