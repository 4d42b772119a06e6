use Rattle.block_tests.proofs.BlocksBack.{come_back}
use Rattle.block_tests.proofs.worked.blocks_come_back.Goals as goal

pub returns : goal.returns
returns c = come_back
