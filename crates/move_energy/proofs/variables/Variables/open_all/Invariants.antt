use Rattle.std.proofs.Common.{◌≡◌, ◌≤◌, length, vec_len, vec_capacity}
use Rattle.move_energy.proofs.Whole.{AreOpenBelow}
use Rattle.move_energy.proofs.variables.Variables.open_all.Given as goal

abbrev pub invariant-loop-site : goal.invariant-loop-site
invariant-loop-site l = record {
  len : vec_len l.self.choices ≡ l.site;
  room : length l.at ≤ vec_capacity l.self.choices;
  opened : AreOpenBelow l.change l.at l.self.choices.items l.site;
}
