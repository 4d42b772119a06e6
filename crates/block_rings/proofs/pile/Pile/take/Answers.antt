use Rattle.std.proofs.Common.{rules}
use Rattle.block_rings.proofs.pile.Pile.take.Goals as goal

-- found without help too: written so that a wrong step is refused at once
pub returns-in_err-reserve-clause-refused : goal.returns-in_err-reserve-clause-refused
returns-in_err-reserve-clause-refused c = search rules
