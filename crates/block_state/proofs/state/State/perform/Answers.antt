use Rattle.std.proofs.Common.{rules}
use Rattle.block_state.proofs.state.State.perform.Goals as goal

-- found without help too: written so that a wrong step is refused at once
pub returns-in-Refuse : goal.returns-in-Refuse
returns-in-Refuse c = search rules
