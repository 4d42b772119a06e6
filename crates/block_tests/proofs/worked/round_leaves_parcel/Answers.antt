use Rattle.block_tests.proofs.RoundOfBlocks.{round}
use Rattle.block_tests.proofs.worked.round_leaves_parcel.Goals as goal

pub returns : goal.returns
returns c = round
